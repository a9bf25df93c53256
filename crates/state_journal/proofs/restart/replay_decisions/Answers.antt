use Rattle.std.proofs.Common.{ℕ, ◌<◌, get_or, refl, sym, ap, ◌∙◌, ◌≡◌, ◌++◌, ◌+◌, ◌∷◌, [], List, map, flat_map, reverse, take, length, add-one, arith}
use Rattle.std.proofs.lemmas.Grind.{flat_map-append}
use Rattle.std.proofs.lemmas.List.{append-nil, take_more, map-append, reverse-append}
use Rattle.std.proofs.Math.Seq.{take-length}
use Rattle.protocol.specs.Messages.{Record as Entry, Decided, Bundle}
use Rattle.protocol.specs.Restart.{restart}
use Rattle.protocol.specs.Rules.{decided}
use Rattle.protocol.specs.State.{State}
use Rattle.protocol.specs.Values.{items}
use Rattle.round_states.specs.Machine.{Machine}
use Rattle.state_journal.proofs.restart.replay_decisions.Goals as goal

decided_more : (i : ℕ) (ds : List Bundle) (b : Bundle) → i < length ds → b ≡ get_or ds i b → reverse (map Decided (take (i + 1) ds)) ≡ Decided b ∷ reverse (map Decided (take i ds))
decided_more i ds b lt is = rw (take_more ds i b lt, ← is, map-append Decided (take i ds) (b ∷ []), reverse-append) refl

items_more : (i : ℕ) (ds : List Bundle) (b : Bundle) → i < length ds → b ≡ get_or ds i b → flat_map (λ (d : Bundle). items d.value) (take i ds) ++ items b.value ≡ flat_map (λ (d : Bundle). items d.value) (take (i + 1) ds)
items_more i ds b lt is = rw (take_more ds i b lt, ← is, flat_map-append (λ (d : Bundle). items d.value) (take i ds) (b ∷ []), append-nil (items b.value)) refl

pub loop-bundle-init : goal.loop-bundle-init
unfolding restart
loop-bundle-init c = (refl, c.requires.new, c.requires.new, (λ g a. a), c.requires.room)

pub replay_decision-requires-clause-fresh : goal.replay_decision-requires-clause-fresh
replay_decision-requires-clause-fresh c = rw c.loop-bundle.invariant.1 refl

pub replay_decision-requires-clause-room : goal.replay_decision-requires-clause-room
replay_decision-requires-clause-room c = rw c.loop-bundle.invariant.1 (omega (arith, c.loop-bundle-test.true, c.requires.few))

pub replay_decision-requires-clause-valid : goal.replay_decision-requires-clause-valid
replay_decision-requires-clause-valid c = rw c.loop-bundle.invariant.1 (rw (← c.bundle-item.is) at (c.requires.follow c.loop-bundle.bundle-index c.bundle-item.result c.loop-bundle-test.true))

pub loop-bundle-preserved : goal.loop-bundle-preserved
loop-bundle-preserved c =
    let ok = c.in_ok-replay_decision.ensures.ok in
    let inv = c.loop-bundle.invariant in
    let i = c.loop-bundle.bundle-index in
    let b = c.bundle-item.result in
    let ds = c.args.decisions.now in
    let more = items_more i ds b c.loop-bundle-test.true c.bundle-item.is in
    let so_far = reverse (map Decided (take i ds)) in (
      ap (λ (w : Machine). w.me) ok ∙ inv.0,
      ap (λ (w : Machine). w.state) ok ∙ ap (λ (s : State). decided s b.value) inv.1 ∙ rw (more, add-one) refl,
      (rw inv.0 at (c.in_ok-replay_decision.ensures.restarts so_far b refl (rw inv.0 inv.2)))
          ∙ ap (λ (rs : List Entry). restart c.args.state.now.me rs) (sym (decided_more i ds b c.loop-bundle-test.true c.bundle-item.is)),
      (λ g a. c.in_ok-replay_decision.ensures.agrees g (inv.3 g a)),
      ap (λ (w : Machine). w.room) ok,
    )

pub returns-clause-restarts : goal.returns-clause-restarts
returns-clause-restarts c =
    let all : c.loop-bundle.bundle-index ≡ length c.args.decisions.now = omega (arith, c.loop-bundle-test.false, c.loop-bundle.auto.bundle-index-end) in
    (rw (all, take-length) at c.loop-bundle.invariant.2)

pub returns-clause-height : goal.returns-clause-height
returns-clause-height c =
    ap (λ (s : State). s.height) c.loop-bundle.invariant.1 ∙ omega (arith, c.loop-bundle-test.false, c.loop-bundle.auto.bundle-index-end)

pub returns-clause-me : goal.returns-clause-me
returns-clause-me c = c.loop-bundle.invariant.0

pub returns-clause-agrees : goal.returns-clause-agrees
returns-clause-agrees c = c.loop-bundle.invariant.3

pub returns-clause-room : goal.returns-clause-room
returns-clause-room c = c.loop-bundle.invariant.4

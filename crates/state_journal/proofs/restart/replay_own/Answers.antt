use Rattle.std.proofs.Common.{ℕ, ◌<◌, get_or, refl, sym, ap, ◌∙◌, ◌≡◌, ◌++◌, ◌+◌, ◌∷◌, [], List, map, reverse, take, length, arith}
use Rattle.std.proofs.lemmas.List.{take_more, map-append, reverse-append}
use Rattle.std.proofs.Math.Seq.{take-length}
use Rattle.protocol.specs.Messages.{Record}
use Rattle.protocol.specs.Refusals.{context}
use Rattle.protocol.specs.Restart.{restart}
use Rattle.protocol.specs.declared.records.OwnMessage.{OwnMessage}
use Rattle.round_states.specs.Machine.{Machine}
use Rattle.vote_journal.specs.Kept.{said}
use Rattle.state_journal.proofs.restart.replay_own.Goals as goal

said_more : (i : ℕ) (own : List OwnMessage) (m : OwnMessage) (before : List Record) → i < length own → m ≡ get_or own i m → reverse (map said (take (i + 1) own)) ++ before ≡ said m ∷ (reverse (map said (take i own)) ++ before)
said_more i own m before lt is = rw (take_more own i m lt, ← is, map-append said (take i own) (m ∷ []), reverse-append) refl

pub loop-message-init : goal.loop-message-init
loop-message-init c = (refl, refl, c.requires.alone, (λ before is. is), (λ s p ring a. a), c.requires.room)

pub replay_own-requires-clause-height : goal.replay_own-requires-clause-height
replay_own-requires-clause-height c = (rw (← c.message-item.is) at (c.requires.heights c.loop-message.message-index c.message-item.result c.loop-message-test.true)) ∙ sym c.loop-message.invariant.1

pub replay_own-requires-clause-alone : goal.replay_own-requires-clause-alone
replay_own-requires-clause-alone c = c.loop-message.invariant.2

pub loop-message-preserved : goal.loop-message-preserved
loop-message-preserved c =
    let ok = c.in_ok-replay_own.ensures.ok in
    let inv = c.loop-message.invariant in
    let i = c.loop-message.message-index in
    let m = c.message-item.result in (
      ap (λ (w : Machine). w.me) ok ∙ inv.0,
      ap (λ (w : Machine). w.state.height) ok ∙ inv.1,
      ap (λ (w : Machine). w.state.valid_value) ok ∙ inv.2,
      (λ before is.
          let so_far = reverse (map said (take i c.args.own.now)) ++ before in
          let stood : c.loop-message.state.state ≡ restart c.loop-message.state.me so_far = rw inv.0 (inv.3 before is) in
          let next : c.replay_own.new.self.state ≡ restart c.args.state.now.me (said m ∷ so_far) = rw inv.0 at (c.in_ok-replay_own.ensures.restarts so_far stood) in
          next ∙ ap (λ (rs : List Record). restart c.args.state.now.me rs) (sym (said_more i c.args.own.now m before c.loop-message-test.true c.message-item.is))),
      (λ s p ring a. c.in_ok-replay_own.ensures.agrees (context s p) (inv.4 s p ring a) (c.in_ok-genuine.ensures s p ring)),
      ap (λ (w : Machine). w.room) ok,
    )

pub returns-clause-restarts : goal.returns-clause-restarts
returns-clause-restarts c = λ before is.
    let all : c.loop-message.message-index ≡ length c.args.own.now = omega (arith, c.loop-message-test.false, c.loop-message.auto.message-index-end) in
    (rw (all, take-length) at (c.loop-message.invariant.3 before is))

pub returns-clause-agrees : goal.returns-clause-agrees
returns-clause-agrees c = c.loop-message.invariant.4

pub returns-clause-room : goal.returns-clause-room
returns-clause-room c = c.loop-message.invariant.5

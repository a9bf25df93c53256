-- What a firing decides can be spelled, and is the own number's.
use Rattle.std.proofs.Common.{◌≡◌, false, not, List, All, refl, ap, ◌∙◌, arith}
use Rattle.messages.specs.Grammar.{IsBundle}
use Rattle.protocol.specs.Values.{Value, id}
use Rattle.protocol.specs.Messages.{Bundle}
use Rattle.protocol.specs.State.{Rule, DecideByBundle}
use Rattle.protocol.specs.Rules.{saved, certificate}
use Rattle.protocol.specs.Refusals.{certified}
use Rattle.protocol.specs.Arrivals.{is_decision}
use Rattle.round_states.specs.Steps.{proposal_at}
use Rattle.round_machine.specs.Naming.{rule_of}
use Rattle.round_machine.specs.declared.rule.Rule.{Rule as Name}
use Rattle.round_machine.specs.declared.rule.Rule.TheVariants as names
use Rattle.node_core.specs.Core.{Core, IsSound, IsOf, setting, setting_of, context_of}
use Rattle.node_core.specs.Firing.{IsFit, IsNarrow}
use Rattle.node_core.proofs.Firings.{decided_in, decides, empty_nil, none_all, one_all}
use Rattle.node_core.proofs.Decided.{certificate_spelled, certified_spelled}

pub record AreDecided (core : Core) (bs : List Bundle) : Type 0 where
  pub spelled : All IsBundle bs
  pub own : All (IsOf core.machine.me) bs

none_decided : (core : Core) (v : Value) (k : Rule) → is_decision k ≡ false → AreDecided core (decided_in (saved (context_of core) v core.machine.state k))
none_decided core v k e =
    let nil = empty_nil (decided_in (saved (context_of core) v core.machine.state k)) ((decides (context_of core) v core.machine.state k).empty ∙ ap not e) in
    record { spelled = none_all IsBundle _ nil; own = none_all (IsOf core.machine.me) _ nil }

pub rule_decided : (core : Core) → IsSound core → (v : Value) (rule : Name) → IsFit core.machine.state rule → All IsNarrow (decided_in (saved (context_of core) v core.machine.state (rule_of core.machine.state rule))) → AreDecided core (decided_in (saved (context_of core) v core.machine.state (rule_of core.machine.state rule)))
unfolding setting
rule_decided core s v (names.Decide i) fit narrow =
    let q = proposal_at core.machine.state i in
    let b : Bundle = record { height = core.machine.state.height; sender = core.machine.me; round = q.round; id = id q.value; value = q.value; precommits = certificate (context_of core) core.machine.state q.round (id q.value) } in
    let n : IsNarrow b = narrow 0 b (omega arith) in
    let k = certificate_spelled (setting_of core) core.machine.me core.machine.state q.round (id q.value) s.stamps (omega (arith, s.me)) s.few in
    record { spelled = one_all IsBundle b (record { height = n.height; sender = n.sender; round = n.round; id = n.id; value = fit; few = k.0; each = k.1 }); own = one_all (IsOf core.machine.me) b refl }
rule_decided core s v names.Start fit narrow = none_decided core v (rule_of core.machine.state names.Start) refl
rule_decided core s v (names.SkipRound r) fit narrow = none_decided core v (rule_of core.machine.state (names.SkipRound r)) refl
rule_decided core s v (names.PrevoteFresh i) fit narrow = none_decided core v (rule_of core.machine.state (names.PrevoteFresh i)) refl
rule_decided core s v (names.PrevoteAgain i) fit narrow = none_decided core v (rule_of core.machine.state (names.PrevoteAgain i)) refl
rule_decided core s v (names.Lock i) fit narrow = none_decided core v (rule_of core.machine.state (names.Lock i)) refl
rule_decided core s v names.PrecommitNil fit narrow = none_decided core v (rule_of core.machine.state names.PrecommitNil) refl
rule_decided core s v names.AwaitPrevotes fit narrow = none_decided core v (rule_of core.machine.state names.AwaitPrevotes) refl
rule_decided core s v names.AwaitPrecommits fit narrow = none_decided core v (rule_of core.machine.state names.AwaitPrecommits) refl
rule_decided core s v (names.TimedOut t) fit narrow = none_decided core v (rule_of core.machine.state (names.TimedOut t)) refl

pub bundle_decided : (core : Core) → IsSound core → (v : Value) (b : Bundle) → IsBundle b → AreDecided core (decided_in (saved (context_of core) v core.machine.state (DecideByBundle b)))
unfolding setting
bundle_decided core s v b h =
    let kept : Bundle = record b { sender = core.machine.me; precommits = certified (setting_of core) core.machine.me b } in
    let k = certified_spelled (setting_of core) core.machine.me b h s.few in
    record { spelled = one_all IsBundle kept (record { height = h.height; sender = omega (arith, s.me, s.few); round = h.round; id = h.id; value = h.value; few = k.0; each = k.1 }); own = one_all (IsOf core.machine.me) kept refl }

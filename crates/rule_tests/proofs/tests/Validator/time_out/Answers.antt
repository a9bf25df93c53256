use Rattle.std.proofs.Common.{◌≡◌, ◌∙◌, refl, sym, ap, Bool, Option, Some, None, IfSome}
use Rattle.std.specs.Prelude.{IsSome}
use Rattle.transactions.specs.Grammar.{IsValue}
use Rattle.protocol.specs.Values.{Value}
use Rattle.protocol.specs.declared.types.Step.{Step}
use Rattle.protocol.specs.declared.types.Step.TheVariants.{Propose, Prevote, Precommit}
use Rattle.protocol.specs.State.{Context}
use Rattle.round_states.specs.Machine.{Machine, Agrees}
use Rattle.round_states.specs.Steps.{IsPick, IsPickTold}
use Rattle.round_states.specs.declared.plans.Picked.{Picked}
use Rattle.round_machine.specs.Naming.{pick_in, ServesTimeout}
use Rattle.round_machine.specs.declared.rule.Input.{Input}
use Rattle.rule_tests.proofs.tests.Validator.time_out.Goals as goal

told : (g : Context) (flag : Bool) (picked : Option Picked) → ((v : Value) → g.genuine v ≡ flag) → IfSome picked (λ p. IsValue p.value × (p.genuine ≡ flag)) → IsPick picked × IsPickTold g picked
told g flag None same h = (tt, tt)
told g flag (Some p) same h = (h.0, h.1 ∙ sym (same p.value))

serves : (g : Context) (m : Machine) (flag : Bool) (kind : Step) (input : Input) → ((v : Value) → g.genuine v ≡ flag) → IfSome (pick_in input) (λ p. IsValue p.value × (p.genuine ≡ flag)) × IsSome (pick_in input) → ServesTimeout g m kind input
serves g m flag Propose input same h = tt
serves g m flag Prevote input same h = tt
serves g m flag Precommit input same h = let t = told g flag (pick_in input) same h.0 in (t.0, t.1, λ own none. h.1)

pub fire-body-requires : goal.fire-body-requires
fire-body-requires g c κs within =
    let v = c.args.self.now in
    let agrees : Agrees g.g v.state = rw c.requires.1 (record { powers = refl; me = refl; genuine = v.told }) in
    let served = serves g.g v.state v.genuine c.args.kind c.pick-input.result (λ x. ap (λ (k : Context). k.genuine x) c.requires.1) c.pick-input.ensures in
    (within, (agrees, (tt, (sym (c.holds_timeout.ensures g.g) ∙ c.if-not-holds_timeout.false, served))))

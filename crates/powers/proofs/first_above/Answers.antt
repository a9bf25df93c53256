use Rattle.std.proofs.Common.{◌≡◌, ◌∙◌, ap, sym, ◌+◌, take, true, arith}
use Rattle.std.proofs.lemmas.List.{take_all}
use Rattle.powers.specs.Power.{total, first_above}
use Rattle.powers.proofs.Quorums.{power_more}
use Rattle.powers.proofs.Turns.{found, not_found}
use Rattle.powers.proofs.first_above.Goals as goal

pub returns-then-power-from : goal.returns-then-power-from
returns-then-power-from c =
    let ps = c.args.powers.now in
    let i = c.loop-validator.validator in
    let here = found ps c.loop-validator.power i c.loop-validator-test.true (omega arith) in
    sym here ∙ ap (first_above ps) (sym c.loop-validator.invariant)

pub loop-validator-preserved : goal.loop-validator-preserved
loop-validator-preserved c =
    let more = power_more c.args.powers.now (λ _. true) c.loop-validator.validator c.loop-validator-test.true in
    omega (arith, more, c.loop-validator.invariant, c.from.ensures, c.from-power.ensures, c.if-power-from.false)

pub returns : goal.returns
returns c =
    let ps = c.args.powers.now in
    let all : total (take c.loop-validator.validator ps) ≡ total ps = ap total (take_all c.loop-validator.validator ps c.loop-validator-test.false) in
    let e : c.args.power ≡ c.loop-validator.power + total ps = omega (arith, all, c.loop-validator.invariant) in
    sym (not_found ps c.loop-validator.power) ∙ ap (first_above ps) (sym e)

use Rattle.std.proofs.Common.{◌≡◌, ◌∙◌, ℕ, ◌<◌, get_or, false, length, arith}
use Rattle.powers.proofs.Quorums.{power_agrees}
use Rattle.powers.proofs.Powers.power_of_set.Goals as goal

pub returns-clause-power : goal.returns-clause-power
returns-clause-power c = λ set same.
    let ps = c.self.inside.each.items in
    let agrees : (i : ℕ) → i < length ps → get_or c.args.members.now i false ≡ set i = λ i lt. same i (omega (arith, c.self.invariant.0.few)) in
    rw (← c.self.view_is) (rw c.as_slice.ensures.value at c.set_power.ensures.power ∙ power_agrees ps _ set agrees)

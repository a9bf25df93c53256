use Rattle.std.proofs.Common.{◌≡◌, ◌<◌, ℕ, ◌+◌, ◌%◌, ap, ◌∙◌, arith}
use Rattle.std.proofs.Math.Nat.{mod-lt}
use Rattle.powers.specs.Power.{total, first_above}
use Rattle.powers.proofs.Turns.{within, some_power}
use Rattle.powers.proofs.Powers.proposer.Goals as goal

pub returns-clause-within : goal.returns-clause-within
returns-clause-within c =
    let ps = c.self.inside.each.items in
    let keeps = c.self.invariant.0 in
    let some : 0 < total ps = some_power ps (omega (arith, keeps.several)) ((keeps.each 0 0 (omega (arith, keeps.several))).0) in
    let sum : c.from-3.result ≡ total ps = c.from-3.ensures ∙ c.self.invariant.1 in
    let turn : ℕ = (c.from.result + c.from-2.result) % c.from-3.result in
    let positive : 0 < c.from-3.result = omega (arith, sum, some) in
    let small : turn < total ps = omega (arith, mod-lt (c.from.result + c.from-2.result) positive, sum) in
    let is : c.first_above.result ≡ first_above ps turn = c.first_above.ensures ∙ ap (λ l. first_above l turn) c.as_slice.ensures.value in
    rw (← c.self.view_is) (omega (arith, is, within ps turn small))

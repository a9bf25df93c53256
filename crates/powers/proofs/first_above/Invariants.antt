use Rattle.std.proofs.Common.{◌≡◌, ◌+◌, take}
use Rattle.powers.specs.Power.{total}
use Rattle.powers.proofs.first_above.Given as goal

abbrev pub invariant-loop-validator : goal.invariant-loop-validator
invariant-loop-validator l = l.fn.power ≡ l.power + total (take l.validator l.powers)

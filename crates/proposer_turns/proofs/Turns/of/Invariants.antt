use Rattle.std.proofs.Common.{◌≡◌, take}
use Rattle.powers.specs.Power.{total}
use Rattle.proposer_turns.proofs.Turns.of.Given as goal

abbrev pub invariant-loop-smaller : goal.invariant-loop-smaller
invariant-loop-smaller l = l.before ≡ total (take l.smaller l.powers)

use Rattle.std.proofs.Common.{◌≡◌}
use Rattle.tmbench.proofs.journal.saves.time_of_saves.Given as goal

abbrev pub invariant-loop-round : goal.invariant-loop-round
invariant-loop-round g l = l.journal.me ≡ 3

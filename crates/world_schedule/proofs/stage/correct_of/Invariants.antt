use Rattle.std.proofs.Common.{◌≡◌, filter}
use Rattle.protocol.specs.Messages.{below}
use Rattle.world_parties.specs.Cast.{is_correct}
use Rattle.world_schedule.proofs.stage.correct_of.Given as goal

abbrev pub invariant-loop-number : goal.invariant-loop-number
invariant-loop-number l = l.found.items ≡ filter (is_correct l.parties) (below l.number)

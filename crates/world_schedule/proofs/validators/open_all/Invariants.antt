use Rattle.std.proofs.Common.{◌≡◌, map}
use Rattle.protocol.specs.Messages.{below}
use Rattle.world_parties.specs.Cast.{setting_of, is_correct}
use Rattle.world_schedule.specs.Making.{beginning}
use Rattle.world_schedule.specs.Validators.{AreUp, places}
use Rattle.world_schedule.proofs.validators.open_all.Given as goal

abbrev pub invariant-loop-number : goal.invariant-loop-number
invariant-loop-number l = AreUp (setting_of l.parties) beginning l.each.items × (places l.each.items ≡ map (is_correct l.parties) (below l.number))

use Rattle.std.proofs.Common.{◌≡◌, take, filter}
use Rattle.world_schedule.specs.Events.{is_wanting}
use Rattle.world_schedule.specs.Worlds.{has_come}
use Rattle.world_schedule.proofs.brought.Brought.wanting.Given as goal

abbrev pub invariant-loop-validator : goal.invariant-loop-validator
invariant-loop-validator l = l.wanting.items ≡ filter (is_wanting (has_come l.self) l.number l.sayer) (take l.validator-index l.validators)

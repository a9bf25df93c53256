use Rattle.std.proofs.Common.{◌≡◌, take, flat_map}
use Rattle.world_schedule.specs.Worlds.{ends_in}
use Rattle.world_schedule.proofs.validators.Validators.ends.Given as goal

abbrev pub invariant-loop-seat : goal.invariant-loop-seat
invariant-loop-seat l = l.ends.items ≡ flat_map ends_in (take l.seat-index l.self.each.items)

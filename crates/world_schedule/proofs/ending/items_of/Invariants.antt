use Rattle.std.proofs.Common.{◌≡◌, take, flat_map}
use Rattle.protocol.specs.Values.{items}
use Rattle.world_schedule.proofs.ending.items_of.Given as goal

abbrev pub invariant-loop-value : goal.invariant-loop-value
invariant-loop-value l = l.items.items ≡ flat_map items (take l.value-index l.values)

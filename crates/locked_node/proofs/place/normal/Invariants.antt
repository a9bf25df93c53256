use Rattle.std.proofs.Common.{◌≡◌, ◌-◌, length}
use Rattle.locked_node.specs.Feeding.{IsPlace, left_at}
use Rattle.locked_node.proofs.place.normal.Given as goal

abbrev pub invariant-loop-height : goal.invariant-loop-height
invariant-loop-height l = IsPlace l.decisions (record { height = l.height; index = l.index }) × (left_at l.decisions (record { height = l.height; index = l.index }) ≡ left_at l.decisions l.fn.place)

abbrev pub decreases-loop-height : goal.decreases-loop-height
decreases-loop-height l = length l.decisions - l.height

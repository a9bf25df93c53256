use Rattle.std.proofs.Common.{◌≡◌, ◌++◌}
use Rattle.cluster_parts.specs.Lanes.{joined}
use Rattle.cluster_parts.proofs.lane.Lane.launch.Given as goal

abbrev pub invariant-loop : goal.invariant-loop
invariant-loop l = (joined l.self.pieces.items ++ l.bytes ≡ joined l.fn.self.pieces.items ++ l.fn.bytes) × (l.self.frames ≡ l.fn.self.frames)

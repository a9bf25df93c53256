use Rattle.std.proofs.Common.{◌≡◌, ◌++◌}
use Rattle.cluster_parts.specs.Lanes.{joined}
use Rattle.cluster_parts.proofs.lane.Lane.batch.Given as goal

abbrev pub invariant-loop : goal.invariant-loop
invariant-loop l = (l.bytes.items ++ joined l.self.frames.items ≡ l.fn.first ++ joined l.fn.self.frames.items) × (l.self.pieces ≡ l.fn.self.pieces)

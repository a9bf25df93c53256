use Rattle.edge_frames.proofs.Passing.{nothing_measured}
use Rattle.edge_frames.proofs.height_frames.HeightFrames.new.Goals as goal

pub invariant_of-result : goal.invariant_of-result
invariant_of-result c = rw c.new.ensures.items nothing_measured

use Rattle.edge_frames.proofs.Passing.{nothing_measured}
use Rattle.edge_frames.proofs.height_frames.HeightFrames.clear.Goals as goal

pub invariant_of-self : goal.invariant_of-self
invariant_of-self c = rw c.clear.ensures.items nothing_measured

use Rattle.protocol.proofs.Frames.{frame_law}
use Rattle.protocol.proofs.frame_law.Goals as goal

pub returns : goal.returns
returns c = frame_law

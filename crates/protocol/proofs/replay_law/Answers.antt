use Rattle.protocol.proofs.Replays.{replay_law}
use Rattle.protocol.proofs.replay_law.Goals as goal

pub returns : goal.returns
returns c = replay_law

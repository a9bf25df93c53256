use Rattle.protocol.proofs.Replays.{history_law}
use Rattle.protocol.proofs.history_law.Goals as goal

pub returns : goal.returns
returns c = history_law

use Rattle.protocol.proofs.Agreement.{lasts_law}
use Rattle.protocol.proofs.lasts_law.Goals as goal

pub returns : goal.returns
returns c = lasts_law

use Rattle.protocol.proofs.First.{first_law}
use Rattle.protocol.proofs.first_law.Goals as goal

pub returns : goal.returns
returns c = first_law

use Rattle.protocol.proofs.Agreement.{no_later_quorum_law}
use Rattle.protocol.proofs.no_later_quorum_law.Goals as goal

pub returns : goal.returns
returns c = no_later_quorum_law

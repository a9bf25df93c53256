use Rattle.protocol.proofs.Order.{enabled_law}
use Rattle.protocol.proofs.enabled_law.Goals as goal

pub returns : goal.returns
returns c = enabled_law

use Rattle.protocol.proofs.quiet_law.Goals as goal
use Rattle.protocol.proofs.Order.{quiet_law}

pub returns : goal.returns
returns c = quiet_law

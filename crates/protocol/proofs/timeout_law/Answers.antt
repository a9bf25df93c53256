use Rattle.protocol.proofs.Timeouts.{timeout_law}
use Rattle.protocol.proofs.timeout_law.Goals as goal

pub returns : goal.returns
returns c = timeout_law

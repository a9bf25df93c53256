use Rattle.protocol.proofs.Local.{lock_law}
use Rattle.protocol.proofs.lock_law.Goals as goal

pub returns : goal.returns
returns c = lock_law

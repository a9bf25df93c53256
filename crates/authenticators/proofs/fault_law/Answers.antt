use Rattle.authenticators.proofs.Laws.{fault_law}
use Rattle.authenticators.proofs.fault_law.Goals as goal

pub returns : goal.returns
returns c = fault_law

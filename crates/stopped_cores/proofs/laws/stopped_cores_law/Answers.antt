use Rattle.stopped_cores.proofs.Over.{stopped_cores_law}
use Rattle.stopped_cores.proofs.laws.stopped_cores_law.Goals as goal

pub returns : goal.returns
returns c = stopped_cores_law

use Rattle.stopped_cores.proofs.Over.{goes_on_law}
use Rattle.stopped_cores.proofs.laws.goes_on_law.Goals as goal

pub returns : goal.returns
returns c = goes_on_law

use Rattle.frame_admission.proofs.Causes.{gate_law as the_law}
use Rattle.frame_admission.proofs.gate_law.Goals as goal

pub returns : goal.returns
returns c = the_law

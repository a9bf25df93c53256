use Rattle.world_schedule.proofs.Cores.{called_law}
use Rattle.world_schedule.proofs.core_laws.called_law.Goals as goal

pub returns : goal.returns
returns c = called_law

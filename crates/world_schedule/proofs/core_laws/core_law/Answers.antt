use Rattle.world_schedule.proofs.Cores.{core_law}
use Rattle.world_schedule.proofs.core_laws.core_law.Goals as goal

pub returns : goal.returns
returns c = core_law

use Rattle.world_schedule.proofs.Cores.{kept_law}
use Rattle.world_schedule.proofs.core_laws.kept_law.Goals as goal

pub returns : goal.returns
returns c = kept_law

use Rattle.world_schedule.proofs.Cores.{own_law}
use Rattle.world_schedule.proofs.core_laws.own_law.Goals as goal

pub returns : goal.returns
returns c = own_law

use Rattle.world_schedule.proofs.Handed.{handed_law}
use Rattle.world_schedule.proofs.core_laws.handed_law.Goals as goal

pub returns : goal.returns
returns c = handed_law

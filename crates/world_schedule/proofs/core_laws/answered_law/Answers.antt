use Rattle.world_schedule.proofs.Answered.{answered_law}
use Rattle.world_schedule.proofs.core_laws.answered_law.Goals as goal

pub returns : goal.returns
returns c = answered_law

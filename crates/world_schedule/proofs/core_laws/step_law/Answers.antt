use Rattle.world_schedule.proofs.Headline.{step_law}
use Rattle.world_schedule.proofs.core_laws.step_law.Goals as goal

pub returns : goal.returns
returns c = step_law

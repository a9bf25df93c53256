use Rattle.world_schedule.proofs.Headline.{count_law}
use Rattle.world_schedule.proofs.core_laws.count_law.Goals as goal

pub returns : goal.returns
returns c = count_law

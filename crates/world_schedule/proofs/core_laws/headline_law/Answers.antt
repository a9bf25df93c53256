use Rattle.world_schedule.proofs.Headline.{headline_law}
use Rattle.world_schedule.proofs.core_laws.headline_law.Goals as goal

pub returns : goal.returns
returns c = headline_law

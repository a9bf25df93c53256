use Rattle.world_schedule.proofs.Headline.{growing_law}
use Rattle.world_schedule.proofs.core_laws.growing_law.Goals as goal

pub returns : goal.returns
returns c = growing_law

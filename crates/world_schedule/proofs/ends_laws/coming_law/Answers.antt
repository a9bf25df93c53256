use Rattle.world_schedule.proofs.Coming.{coming_law}
use Rattle.world_schedule.proofs.ends_laws.coming_law.Goals as goal

pub returns : goal.returns
returns c = coming_law

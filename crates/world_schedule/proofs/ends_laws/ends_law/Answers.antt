use Rattle.world_schedule.proofs.Ends.{ends_law}
use Rattle.world_schedule.proofs.ends_laws.ends_law.Goals as goal

pub returns : goal.returns
returns c = ends_law

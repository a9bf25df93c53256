use Rattle.world_schedule.proofs.Ends.{scene_law}
use Rattle.world_schedule.proofs.ends_laws.scene_law.Goals as goal

pub returns : goal.returns
returns c = scene_law

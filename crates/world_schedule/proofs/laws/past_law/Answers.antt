use Rattle.world_schedule.proofs.Runs.{past_law}
use Rattle.world_schedule.proofs.laws.past_law.Goals as goal

pub returns : goal.returns
returns c = past_law

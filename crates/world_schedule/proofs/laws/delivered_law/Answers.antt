use Rattle.world_schedule.proofs.Runs.{delivered_law}
use Rattle.world_schedule.proofs.laws.delivered_law.Goals as goal

pub returns : goal.returns
returns c = delivered_law

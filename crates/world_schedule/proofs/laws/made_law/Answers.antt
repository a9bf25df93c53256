use Rattle.world_schedule.proofs.Runs.{made_law}
use Rattle.world_schedule.proofs.laws.made_law.Goals as goal

pub returns : goal.returns
returns c = made_law

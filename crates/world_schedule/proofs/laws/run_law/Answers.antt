use Rattle.world_schedule.proofs.Runs.{run_law}
use Rattle.world_schedule.proofs.laws.run_law.Goals as goal

pub returns : goal.returns
returns c = run_law

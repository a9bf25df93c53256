use Rattle.world_schedule.proofs.Outcome.{outcome_law}
use Rattle.world_schedule.proofs.ends_laws.outcome_law.Goals as goal

pub returns : goal.returns
returns c = outcome_law

use Rattle.world_schedule.proofs.Outcome.{reports_law}
use Rattle.world_schedule.proofs.ends_laws.reports_law.Goals as goal

pub returns : goal.returns
returns c = reports_law

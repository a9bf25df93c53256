use Rattle.world_schedule.proofs.Reports.{report_law}
use Rattle.world_schedule.proofs.laws.report_law.Goals as goal

pub returns : goal.returns
returns c = report_law

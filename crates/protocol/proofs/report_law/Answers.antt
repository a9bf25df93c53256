use Rattle.protocol.proofs.Reports.{report_law}
use Rattle.protocol.proofs.report_law.Goals as goal

pub returns : goal.returns
returns c = report_law

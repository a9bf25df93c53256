use Rattle.fair_worlds.proofs.report_law.Goals as goal
use Rattle.fair_worlds.proofs.Fair.{report_law}

pub returns : goal.returns
returns c = report_law

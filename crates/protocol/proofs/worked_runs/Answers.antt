use Rattle.protocol.proofs.Runs.Bundling.{bundles}
use Rattle.protocol.proofs.Runs.Deciding.{decides}
use Rattle.protocol.proofs.Runs.Relocking.{relocks}
use Rattle.protocol.proofs.Runs.Reporting.{reports}
use Rattle.protocol.proofs.worked_runs.Goals as goal

pub returns : goal.returns
returns c = (decides, relocks, bundles, reports)

use Rattle.protocol.proofs.Runs.Meeting.{premises_met_law}
use Rattle.protocol.proofs.premises_met_law.Goals as goal

pub returns : goal.returns
returns c = premises_met_law

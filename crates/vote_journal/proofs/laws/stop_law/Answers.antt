use Rattle.vote_journal.proofs.Stops.{stop_holds}
use Rattle.vote_journal.proofs.laws.stop_law.Goals as goal

pub returns : goal.returns
returns c = stop_holds

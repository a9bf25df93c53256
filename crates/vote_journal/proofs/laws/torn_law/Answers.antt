use Rattle.vote_journal.proofs.Stops.{torn_less}
use Rattle.vote_journal.proofs.laws.torn_law.Goals as goal

pub returns : goal.returns
returns c = torn_less

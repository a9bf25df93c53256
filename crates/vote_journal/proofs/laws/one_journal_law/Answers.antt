use Rattle.vote_journal.proofs.Stops.{one_journal}
use Rattle.vote_journal.proofs.laws.one_journal_law.Goals as goal

pub returns : goal.returns
returns c = one_journal

use Rattle.vote_journal.proofs.Serving.{served}
use Rattle.vote_journal.proofs.laws.served_law.Goals as goal

pub returns : goal.returns
returns c = served

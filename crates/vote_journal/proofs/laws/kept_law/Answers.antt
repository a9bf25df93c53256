use Rattle.vote_journal.proofs.Kept.{kept_holds}
use Rattle.vote_journal.proofs.laws.kept_law.Goals as goal

pub returns : goal.returns
returns c = kept_holds

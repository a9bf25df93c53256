use Rattle.vote_journal.proofs.Following.{follows}
use Rattle.vote_journal.proofs.laws.follows_law.Goals as goal

pub returns : goal.returns
returns c = follows

use Rattle.vote_journal.proofs.Stopping.{stopped}
use Rattle.vote_journal.proofs.laws.stopped_law.Goals as goal

pub returns : goal.returns
returns g c = stopped g.S.Store.seen g.S.Store.may_leave

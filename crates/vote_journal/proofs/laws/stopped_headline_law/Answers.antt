use Rattle.vote_journal.proofs.Stopping.{stopped_headline}
use Rattle.vote_journal.proofs.laws.stopped_headline_law.Goals as goal

pub returns : goal.returns
returns g c = stopped_headline g.S.Store.seen g.S.Store.may_leave

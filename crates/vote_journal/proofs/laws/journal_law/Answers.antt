use Rattle.vote_journal.proofs.History.{journal_holds}
use Rattle.vote_journal.proofs.laws.journal_law.Goals as goal

pub returns : goal.returns
returns g c = journal_holds g.S.Store.seen g.S.Store.may_leave

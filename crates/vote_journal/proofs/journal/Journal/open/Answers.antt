use Rattle.vote_journal.proofs.Rereading.{kept_before, none_before}
use Rattle.vote_journal.proofs.journal.Journal.open.Goals as goal

pub returns-in-Err-clause-stop : goal.returns-in-Err-clause-stop
returns-in-Err-clause-stop g c = kept_before g.S.Store.seen g.S.Store.may_leave c.args.powers.now c.args.me c.in-Err.fault c.args.store c.prepare.new.store c.in-Err.ensures.refused

pub returns-in-Err-clause-bad : goal.returns-in-Err-clause-bad
returns-in-Err-clause-bad g c = none_before g.S.Store.seen g.S.Store.may_leave c.args.powers.now c.args.me c.in-Err.fault c.args.store c.prepare.new.store c.in-Err.ensures.refused

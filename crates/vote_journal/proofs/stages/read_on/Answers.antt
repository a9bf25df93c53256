use Rattle.std.proofs.Common.{subst}
use Rattle.vote_journal.specs.Planning.{Comes}
use Rattle.vote_journal.proofs.Pieces.{comes_more}
use Rattle.vote_journal.proofs.stages.read_on.Goals as goal

pub returns-in-Ok : goal.returns-in-Ok
returns-in-Ok c = λ before h. c.go_on.ensures before (subst (Comes c.args.powers.now c.args.me before) c.in-Ok.is h)

pub returns-in-Err : goal.returns-in-Err
returns-in-Err c = λ before h. comes_more c.args.powers.now c.args.me before c.args.piece.now c.in-Err.fault (subst (Comes c.args.powers.now c.args.me before) c.in-Err.is h)

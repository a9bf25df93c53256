use Rattle.std.proofs.Common.{◌++◌, subst}
use Rattle.std.proofs.lemmas.Result.{err_from_is_err_and}
use Rattle.vote_journal.specs.declared.stages.Stage.TheVariants as stages
use Rattle.vote_journal.specs.Planning.{IsStage}
use Rattle.vote_journal.specs.Grammar.{header}
use Rattle.vote_journal.proofs.Stops.{not_behind}
use Rattle.vote_journal.proofs.Layouts.{whole_more}
use Rattle.vote_journal.proofs.stages.Stage.go_on.Goals as goal

pub returns-in_err-behind-in-Records : goal.returns-in_err-behind-in-Records
returns-in_err-behind-in-Records c = λ before h.
    let p = err_from_is_err_and c.from_residual.result c.from_residual.ensures.1 in
    let here : IsStage c.args.powers.now c.args.me before (stages.Records c.in-Records.behind) = subst (IsStage c.args.powers.now c.args.me before) c.in-Records.is h in
    rw (p.1, p.2) (not_behind c.args.powers.now c.args.me (before ++ c.args.piece.now) (here.0 ++ c.args.piece.now) c.in_err-behind-in-Records.field-0.0 (whole_more before header here.0 c.args.piece.now here.1)
    (c.in_err-behind-in-Records.ensures here.0 here.2))

pub returns-in_ok-behind-in-Records : goal.returns-in_ok-behind-in-Records
returns-in_ok-behind-in-Records c = λ before h.
    let here : IsStage c.args.powers.now c.args.me before (stages.Records c.in-Records.behind) = subst (IsStage c.args.powers.now c.args.me before) c.in-Records.is h in
    (here.0 ++ c.args.piece.now, whole_more before header here.0 c.args.piece.now here.1, c.in_ok-behind-in-Records.ensures here.0 here.2)

use Rattle.std.proofs.Common.{sym, ◌∙◌}
use Rattle.std.proofs.lemmas.Result.{err_from_is_err_and}
use Rattle.protocol.specs.Records.{record_of}
use Rattle.vote_journal.proofs.Taking.{taken_err, unread, mark_err}
use Rattle.vote_journal.proofs.standing.Standing.take.Goals as goal

pub returns-in_err-take_mark : goal.returns-in_err-take_mark
returns-in_err-take_mark c =
    let p = err_from_is_err_and c.from_residual.result c.from_residual.ensures.1 in
    rw (p.1, p.2) (λ before m. mark_err c.args.powers.now c.args.me before c.args.content.now c.take_mark.new.self c.in_err-take_mark.field-0.0 (sym c.is_mark.ensures ∙ c.if-is_mark.true) (c.in_err-take_mark.ensures c.args.powers.now c.args.me before m))

pub returns-in_err-entry : goal.returns-in_err-entry
returns-in_err-entry c =
    let p = err_from_is_err_and c.from_residual-in_err-entry.result c.from_residual-in_err-entry.ensures.1 in
    rw (p.1, p.2) (λ before m. unread c.args.powers.now c.args.me before c.args.content.now c.args.self.now c.in_err-entry.field-0.0 (sym c.is_mark.ensures ∙ c.if-is_mark.false) c.in_err-entry.ensures)

pub returns-in_err-pass : goal.returns-in_err-pass
returns-in_err-pass c =
    let p = err_from_is_err_and c.from_residual-in_err-pass.result c.from_residual-in_err-pass.ensures.1 in
    rw (p.1, p.2) (λ before m. taken_err c.args.powers.now c.args.me before c.args.content.now c.pass.new.self (record_of c.in_ok-entry.entry) c.in_err-pass.field-0.0 (sym c.is_mark.ensures ∙ c.if-is_mark.false) c.in_ok-entry.ensures (c.in_err-pass.ensures before m))

use Rattle.std.proofs.Common.{sym}
use Rattle.std.proofs.lemmas.Result.{err_from_is_err_and}
use Rattle.vote_journal.proofs.RecordFormats.{plain_no_body, plain_only}
use Rattle.vote_journal.proofs.reading.read_plain.Goals as goal

pub returns-in_err-body : goal.returns-in_err-body
returns-in_err-body c =
    let p = err_from_is_err_and c.from_residual.result c.from_residual.ensures.1 in
    rw (p.1, p.2) (plain_no_body c.args.me c.args.bytes.now c.in_err-body.field-0.0 c.in_err-body.ensures)

pub returns-in-None : goal.returns-in-None
returns-in-None c = plain_only c.args.me c.in_ok-body.body c.args.bytes.now c.in_ok-body.ensures (sym c.in-None.ensures)

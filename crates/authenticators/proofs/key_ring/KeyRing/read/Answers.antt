use Rattle.std.proofs.lemmas.Result.{err_from_is_err_and}
use Rattle.authenticators.proofs.Files.{no_lines, ring_of-lines}
use Rattle.authenticators.proofs.key_ring.KeyRing.read.Goals as goal

pub returns-in_err-lines : goal.returns-in_err-lines
returns-in_err-lines c =
    let p = err_from_is_err_and c.from_residual.result c.from_residual.ensures.1 in
    rw (p.1, p.2) (no_lines c.args.me c.args.validators c.args.text.now c.in_err-lines.field-0.0 c.in_err-lines.ensures)

pub returns : goal.returns
returns c = rw (ring_of-lines c.args.me c.args.validators c.args.text.now c.in_ok-lines.lines.items c.in_ok-lines.ensures) (rw c.deref.ensures.value at c.from_lines.ensures)

use Rattle.std.proofs.Common.{sym, refl, ap, ◌∙◌, Ok, List, ℕ}
use Rattle.std.proofs.lemmas.Result.{err_from_is_err_and}
use Rattle.messages.specs.Checking.{body_spelled}
use Rattle.transactions.proofs.Lengths.{fails_exactly}
use Rattle.messages.proofs.Lengths.{body_spelled_is}
use Rattle.messages.proofs.writing.bytes_of_body.Goals as goal

pub returns-in_err-len-clause-exact : goal.returns-in_err-len-clause-exact
unfolding body_spelled
returns-in_err-len-clause-exact c =
    let p = err_from_is_err_and c.from_residual.result c.from_residual.ensures.1 in
    rw (p.1, p.2) (fails_exactly c.in_err-len.field-0.0 (body_spelled c.args.body.now) (rw (← c.in_err-len.ensures.len) refl))

pub returns-clause-exact : goal.returns-clause-exact
returns-clause-exact c = body_spelled_is c.args.body.now c.in_ok-len.len (sym c.in_ok-len.ensures.len) ∙ ap (λ (b : List ℕ). Ok b) (sym (rw (c.in_ok-put_body.ensures, c.in_ok-out.ensures.items) refl))

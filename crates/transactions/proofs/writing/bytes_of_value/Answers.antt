use Rattle.std.proofs.Common.{sym, refl, ap, ◌∙◌, Ok, List, ℕ}
use Rattle.std.proofs.lemmas.Result.{err_from_is_err_and}
use Rattle.transactions.specs.Checking.{value_spelled}
use Rattle.transactions.proofs.Lengths.{fails_exactly, value_spelled_is}
use Rattle.transactions.proofs.writing.bytes_of_value.Goals as goal

pub returns-in_err-len-clause-exact : goal.returns-in_err-len-clause-exact
unfolding value_spelled
returns-in_err-len-clause-exact c =
    let p = err_from_is_err_and c.from_residual.result c.from_residual.ensures.1 in
    rw (p.1, p.2) (fails_exactly c.in_err-len.field-0.0 (value_spelled c.args.value.now) (rw (← c.in_err-len.ensures.len) refl))

pub returns-clause-exact : goal.returns-clause-exact
returns-clause-exact c = value_spelled_is c.args.value.now c.in_ok-len.len (sym c.in_ok-len.ensures.len) ∙ ap (λ (b : List ℕ). Ok b) (sym (rw (c.in_ok-put_value.ensures, c.in_ok-out.ensures.items) refl))

use Rattle.std.proofs.lemmas.Result.{err_from_is_err_and}
use Rattle.authenticators.proofs.Files.{no_key_to, no_key_from, the_ring, ring_keeps}
use Rattle.authenticators.proofs.key_ring.KeyRing.from_lines.Goals as goal

pub returns-in_err-to_validators : goal.returns-in_err-to_validators
returns-in_err-to_validators c =
    let p = err_from_is_err_and c.from_residual.result c.from_residual.ensures.1 in
    rw (p.1, p.2) (no_key_to c.args.me c.args.validators c.args.lines.now c.in_err-to_validators.field-0.0 c.in_err-to_validators.ensures)

pub returns-in_err-from_validators : goal.returns-in_err-from_validators
returns-in_err-from_validators c =
    let p = err_from_is_err_and c.from_residual-in_err-from_validators.result c.from_residual-in_err-from_validators.ensures.1 in
    rw (p.1, p.2) (no_key_from c.args.me c.args.validators c.args.lines.now c.in_ok-to_validators.to_validators.items c.in_err-from_validators.field-0.0 c.in_ok-to_validators.ensures c.in_err-from_validators.ensures)

pub invariant_of-result : goal.invariant_of-result
invariant_of-result c = ring_keeps c.args.me c.args.validators c.args.lines.now _ _ c.in_ok-to_validators.ensures c.in_ok-from_validators.ensures

pub returns : goal.returns
returns c = the_ring c.args.me c.args.validators c.args.lines.now _ _ _ c.in_ok-to_validators.ensures c.in_ok-from_validators.ensures c.in_ok-from_clients.ensures

use Rattle.std.proofs.Common.{refl}
use Rattle.transactions.specs.Grammar.{IsValue, value_spelling}
use Rattle.world_parties.proofs.Encodings.{unencoded, handed_on}
use Rattle.world_parties.proofs.sending.id_of.Goals as goal

pub returns-in_err-bytes-clause-err : goal.returns-in_err-bytes-clause-err
returns-in_err-bytes-clause-err c =
    let v = c.args.value.now in
    handed_on _ c.from_residual.result _ c.from_residual.ensures.1 (unencoded (IsValue v) c.in_err-bytes.field-0.0 (value_spelling v) (λ fits. c.in_err-bytes.ensures.only (value_spelling v) (record { lawful = fits; same = refl })))

use Rattle.std.proofs.Common.{refl}
use Rattle.messages.specs.Grammar.{IsBody, body_spelling}
use Rattle.world_parties.proofs.Encodings.{unencoded, handed_on}
use Rattle.world_parties.proofs.sending.spelled.Goals as goal

pub returns-in_err-spell_body-clause-err : goal.returns-in_err-spell_body-clause-err
returns-in_err-spell_body-clause-err c =
    let b = c.args.body.now in
    handed_on _ c.from_residual.result _ c.from_residual.ensures.1 (unencoded (IsBody b) c.in_err-spell_body.field-0.0 (body_spelling b) (λ fits. c.in_err-spell_body.ensures.only (body_spelling b) (record { lawful = fits; same = refl })))

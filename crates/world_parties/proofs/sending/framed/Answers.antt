use Rattle.std.proofs.Common.{refl}
use Rattle.messages.specs.Framing.{IsMessage, frame_spelling}
use Rattle.world_parties.proofs.Encodings.{unencoded, handed_on}
use Rattle.world_parties.proofs.sending.framed.Goals as goal

pub returns-in_err-spell-clause-err : goal.returns-in_err-spell-clause-err
returns-in_err-spell-clause-err c =
    let m = c.args.message.now in
    handed_on _ c.from_residual.result _ c.from_residual.ensures.1 (unencoded (IsMessage m) c.in_err-spell.field-0.0 (frame_spelling m) (λ fits. c.in_err-spell.ensures.only (frame_spelling m) (record { lawful = fits; same = refl })))

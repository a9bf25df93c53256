use Rattle.messages.specs.Grammar.{IsBody}
use Rattle.messages.specs.Framing.{IsMessage}
use Rattle.protocol.specs.Messages.{tagged}
use Rattle.world_parties.specs.Cast.{setting_of}
use Rattle.world_parties.proofs.Encodings.{less, body_of_tagged, handed_on}
use Rattle.world_parties.proofs.parties.Parties.frame_from.Goals as goal

pub returns-in_err-message-clause-err : goal.returns-in_err-message-clause-err
returns-in_err-message-clause-err c =
    let world = setting_of c.args.self.now in
    let body = c.args.body in
    handed_on _ c.from_residual.result _ c.from_residual.ensures.1 (less (IsBody body) (IsMessage (tagged world body)) c.in_err-message.field-0.0 (body_of_tagged world body) c.in_err-message.ensures.err)

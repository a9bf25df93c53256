use Rattle.std.proofs.Common.{arith}
use Rattle.messages.proofs.MessageFormats.{message_found, message_only}
use Rattle.messages.proofs.framing.read.Goals as goal

pub returns-clause-found : goal.returns-clause-found
returns-clause-found c = message_found c.args.frame.now c.whole_message.result (λ i. omega (arith, c.type_inv.frame i)) c.whole_message.ensures.exact

pub returns-clause-only : goal.returns-clause-only
returns-clause-only c = λ message h. message_only c.args.frame.now c.whole_message.result message h c.whole_message.ensures.exact

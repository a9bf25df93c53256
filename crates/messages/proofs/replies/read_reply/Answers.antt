use Rattle.std.proofs.Common.{◌∙◌, arith}
use Rattle.messages.proofs.ReplyFormats.{reply_again, reply_if_found}
use Rattle.messages.proofs.replies.read_reply.Goals as goal

pub returns-clause-found : goal.returns-clause-found
returns-clause-found c = reply_if_found c.args.frame.now c.whole_reply.result (λ i. omega (arith, c.type_inv.frame i)) c.whole_reply.ensures

pub returns-clause-only : goal.returns-clause-only
returns-clause-only c = λ reply h. c.whole_reply.ensures ∙ reply_again c.args.frame.now reply h

use Rattle.std.proofs.Common.{arith}
use Rattle.messages.proofs.Sizes.{body_len_small, is_message}
use Rattle.messages.proofs.FrameSpelling.{message_sized}
use Rattle.messages.proofs.framing.len_of_message.Goals as goal

pub overflow_add-result : goal.overflow_add-result
overflow_add-result c = omega (arith, body_len_small c.args.message.now.body c.in_ok-body.body c.in_ok-body.ensures.fits c.in_ok-body.ensures.len, c.in_ok-tags.ensures.small)

pub returns-clause-len : goal.returns-clause-len
returns-clause-len c =
    let few = body_len_small c.args.message.now.body c.in_ok-body.body c.in_ok-body.ensures.fits c.in_ok-body.ensures.len in
    message_sized c.args.message.now c.in_ok-body.body c.in_ok-tags.tags c.in_ok-body.ensures.len (rw (← c.as_slice.ensures) c.in_ok-tags.ensures.len) (omega (arith, c.in_ok-tags.ensures.small))

pub returns-clause-fits : goal.returns-clause-fits
returns-clause-fits c = is_message c.args.message.now c.in_ok-body.ensures.fits (rw (← c.as_slice.ensures) c.in_ok-tags.ensures.fits)

pub returns-clause-small : goal.returns-clause-small
returns-clause-small c = omega (arith, body_len_small c.args.message.now.body c.in_ok-body.body c.in_ok-body.ensures.fits c.in_ok-body.ensures.len, c.in_ok-tags.ensures.small)

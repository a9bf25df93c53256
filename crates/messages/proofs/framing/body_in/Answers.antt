use Rattle.std.proofs.Common.{◌≡◌, length, ◌∙◌, arith}
use Rattle.transactions.specs.Grammar.{tags_spelling}
use Rattle.messages.proofs.MessageFormats.{frame_length, body_in_frame}
use Rattle.messages.proofs.framing.body_in.Goals as goal

pub split_at-requires : goal.split_at-requires
split_at-requires c = omega (arith, frame_length c.args.frame.now c.args.message.now c.requires)

pub overflow_sub-content : goal.overflow_sub-content
overflow_sub-content c =
    let room : c.room_of_tags.result ≡ length (tags_spelling c.args.message.now.tags) = rw (← c.as_slice.ensures) c.room_of_tags.ensures.room in
    omega (arith, frame_length c.args.frame.now c.args.message.now c.requires, c.split_at.ensures.back_len)

pub returns : goal.returns
returns c =
    let room : c.room_of_tags.result ≡ length (tags_spelling c.args.message.now.tags) = rw (← c.as_slice.ensures) c.room_of_tags.ensures.room in
    c.split_at-2.ensures.front ∙ rw (c.split_at.ensures.back, room) (body_in_frame c.args.frame.now c.args.message.now c.requires)

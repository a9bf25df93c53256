use Rattle.std.proofs.Common.{◌≡◌, ◌+◌, ◌++◌, length, ap, refl, ◌∙◌, arith}
use Rattle.transactions.specs.Fields.{number_bytes}
use Rattle.transactions.specs.Grammar.{tags_spelling}
use Rattle.messages.proofs.FrameSpelling.{frame_of_parts}
use Rattle.messages.proofs.framing.frame_of.Goals as goal

pub returns : goal.returns
returns c = λ message same_body same_tags.
    let room : length c.args.body.now + c.room_of_tags.result ≡ length c.args.body.now + length (tags_spelling c.args.tags.now) = omega (arith, c.room_of_tags.ensures.room) in
    let written : c.put_tags.new.out.items ≡ (number_bytes 4 (length c.args.body.now + c.room_of_tags.result) ++ c.args.body.now) ++ tags_spelling c.args.tags.now = rw (c.in_ok-put_tags.ensures, c.in_ok-extend_from_slice.ensures.items, c.in_ok-put_u32.ensures, c.in_ok-out.ensures.items) refl in
    written ∙ frame_of_parts message c.args.body.now (tags_spelling c.args.tags.now) (length c.args.body.now + c.room_of_tags.result) same_body (ap tags_spelling same_tags) room

use Rattle.std.proofs.Common.{◌≡◌, ◌+◌, ◌++◌, ℕ, List, length, Ok, refl, sym, ap, ◌∙◌}
use Rattle.std.proofs.lemmas.Result.{err_from_is_err_and}
use Rattle.transactions.specs.Fields.{number_bytes}
use Rattle.transactions.specs.Grammar.{tags_spelling}
use Rattle.transactions.proofs.Formats.{ok_is}
use Rattle.transactions.proofs.Lengths.{fails_exactly}
use Rattle.messages.specs.Grammar.{body_spelling}
use Rattle.messages.specs.Checking.{frame_spelled}
use Rattle.messages.proofs.FrameSpelling.{frame_of_parts, frame_spelled_is, message_has_length}
use Rattle.messages.proofs.framing.bytes_of_frame.Goals as goal

pub returns-in_err-len-clause-exact : goal.returns-in_err-len-clause-exact
unfolding frame_spelled
returns-in_err-len-clause-exact c =
    let p = err_from_is_err_and c.from_residual.result c.from_residual.ensures.1 in
    rw (p.1, p.2) (fails_exactly c.in_err-len.field-0.0 (frame_spelled c.args.message.now) (rw (← c.in_err-len.ensures.len) refl))

pub returns-clause-exact : goal.returns-clause-exact
returns-clause-exact c =
    let m = c.args.message.now in
    let size = ok_is c.in_ok-len.len (length (body_spelling m.body) + length (tags_spelling m.tags)) (c.in_ok-len.ensures.len ∙ message_has_length m c.in_ok-len.ensures.fits) in
    let written : c.put_tags.new.out.items ≡ (number_bytes 4 c.in_ok-len.len ++ body_spelling m.body) ++ tags_spelling m.tags = rw (c.in_ok-put_tags.ensures, c.in_ok-put_body.ensures, c.in_ok-put_u32.ensures, c.in_ok-out.ensures.items, c.as_slice.ensures) refl in
    frame_spelled_is m c.in_ok-len.len (sym c.in_ok-len.ensures.len) ∙ ap (λ (b : List ℕ). Ok b) (sym (written ∙ frame_of_parts m (body_spelling m.body) (tags_spelling m.tags) c.in_ok-len.len refl refl size))

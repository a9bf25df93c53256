-- The frame that spells a message, put together of its parts.
use Rattle.std.proofs.Common.{◌≡◌, ℕ, ◌+◌, ◌≤◌, List, ◌++◌, length, Result, Ok, Err, refl, sym, append_assoc, arith, length-append}
use Rattle.std.specs.Prelude.{IfOk, OnOk}
use Rattle.std.specs.Global.{Vec}
use Rattle.std.proofs.lemmas.Bool.{le-leb}
use Rattle.transactions.specs.declared.fault.Fault.{Fault}
use Rattle.transactions.specs.Fields.{number_bytes, Gives}
use Rattle.transactions.specs.Grammar.{tags_spelling}
use Rattle.transactions.specs.Checking.{tags_len}
use Rattle.transactions.proofs.Formats.{bind_ok, ok_is}
use Rattle.transactions.proofs.Lengths.{tags_have_length}
use Rattle.messages.specs.declared.body.Message.{Message}
use Rattle.messages.specs.Grammar.{body_spelling}
use Rattle.messages.specs.Framing.{message_spelling, frame_spelling, IsMessage, SpellsFrame}
use Rattle.messages.specs.Checking.{body_len, message_len, frame_spelled}
use Rattle.messages.proofs.Lengths.{body_has_length}

-- the length of the content, and the content
pub frame_of_parts : (m : Message) (body tags : List ℕ) (len : ℕ) → body ≡ body_spelling m.body → tags ≡ tags_spelling m.tags → len ≡ length body + length tags → (number_bytes 4 len ++ body) ++ tags ≡ frame_spelling m
unfolding frame_spelling message_spelling
frame_of_parts m body tags len eb et size =
    let same : len ≡ length (body ++ tags) = omega (arith, length-append body tags) in
    rw (← eb, ← et, same) (append_assoc (number_bytes 4 (length (body ++ tags))) body tags)

pub message_sized : (m : Message) (body tags : ℕ) → Ok body ≡ body_len m.body → Ok tags ≡ tags_len m.tags → body + tags ≤ 1048576 → Ok (body + tags) ≡ message_len m
unfolding message_len
message_sized m body tags eb et short = rw (← eb, ← et, le-leb _ _ short) refl

pub message_has_length : (m : Message) → IsMessage m → message_len m ≡ Ok (length (body_spelling m.body) + length (tags_spelling m.tags))
unfolding message_len message_spelling
message_has_length m h =
    let short : length (body_spelling m.body) + length (tags_spelling m.tags) ≤ 1048576 = omega (arith, h.short, length-append (body_spelling m.body) (tags_spelling m.tags)) in
    rw (body_has_length m.body h.body, tags_have_length m.tags h.tags, le-leb _ _ short) refl

-- ---- what is spelled

pub frame_only : (m : Message) (bytes : List ℕ) → SpellsFrame bytes m → frame_spelled m ≡ Ok bytes
unfolding frame_spelled
frame_only m bytes h = rw (message_has_length m h.lawful, ← h.same) refl

pub frame_spelled_is : (m : Message) (n : ℕ) → message_len m ≡ Ok n → frame_spelled m ≡ Ok (frame_spelling m)
unfolding frame_spelled
frame_spelled_is m n e = rw e refl

pub frame_ok : (m : Message) (r : Result (Vec ℕ) Fault) → OnOk r (IsMessage m) → Gives (λ v. v.items) r (frame_spelled m) → IfOk r (λ v. SpellsFrame v.items m)
unfolding frame_spelled
frame_ok m (Ok v) fits given =
    let a = bind_ok (message_len m) (λ len. Ok (frame_spelling m)) v.items given in
    record { lawful = fits; same = sym (ok_is (frame_spelling m) v.items a.2) }
frame_ok m (Err e) fits given = tt

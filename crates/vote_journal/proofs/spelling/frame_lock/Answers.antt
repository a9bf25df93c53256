use Rattle.std.proofs.Common.{◌≡◌, ℕ, ◌+◌, List, [], ◌∷◌, ◌++◌, length, Ok, refl, ap, ◌∙◌, append_assoc, arith, length-append}
use Rattle.transactions.specs.Fields.{number_bytes}
use Rattle.transactions.specs.declared.tx.Value.{Value}
use Rattle.transactions.specs.Grammar.{value_spelling, IsValue}
use Rattle.transactions.specs.Checking.{value_len}
use Rattle.transactions.proofs.Formats.{ok_is}
use Rattle.transactions.proofs.Lengths.{value_has_length}
use Rattle.vote_journal.specs.Grammar.{framed}
use Rattle.vote_journal.proofs.spelling.frame_lock.Goals as goal

lock_framed : (body : List ℕ) (value : Value) (n : ℕ) → IsValue value → Ok n ≡ value_len value → ((number_bytes 4 (1 + length body + n) ++ 2 ∷ []) ++ body) ++ value_spelling value ≡ framed (2 ∷ (body ++ value_spelling value))
unfolding framed
lock_framed body value n h e =
    let size : n ≡ length (value_spelling value) = ok_is n (length (value_spelling value)) (e ∙ value_has_length value h) in
    let len : 1 + length body + n ≡ length (2 ∷ (body ++ value_spelling value)) = omega (arith, length-append body (value_spelling value)) in
    simp append_assoc (ap (λ (k : ℕ). number_bytes 4 k ++ (2 ∷ (body ++ value_spelling value))) len)

pub returns : goal.returns
returns c =
    let written : c.put_value.new.out.items ≡ ((number_bytes 4 (1 + length c.args.body.now + c.in-Ok.value_len) ++ 2 ∷ []) ++ c.args.body.now) ++ value_spelling c.args.value.now = rw (c.in_ok-put_value.ensures, c.in_ok-extend_from_slice.ensures.items, c.in_ok-push.ensures.items, c.in_ok-put_u32.ensures, c.in_ok-out.ensures.items) refl in
    written ∙ lock_framed c.args.body.now c.args.value.now c.in-Ok.value_len c.in-Ok.ensures.fits c.in-Ok.ensures.len

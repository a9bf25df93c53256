-- What `parse` reads of decimal digits.
use Rattle.std.proofs.Common.{◌≡◌, ℕ, ◌<◌, ◌^◌, true, false, ◌&&◌, List, [], ◌∷◌, length, None, Result, Ok, Err, refl, ap, ◌∙◌, lt-ltb, ltb, inl, inr}
use Rattle.std.proofs.lemmas.Bool.{le-ltb, cases_lt, and_right}
use Rattle.std.proofs.lemmas.Str.Parse.{numerals_by_value, tells_all_ascii_digits, parse_digits}
use Rattle.std.specs.Char.{is_ascii_digit}
use Rattle.std.specs.List.{list_all}
use Rattle.std.specs.Result.{OkIff, result_ok}
use Rattle.std.specs.Str.{all_ascii_digits}
use Rattle.std.specs.Str.Parse.{ParsesUnsigned, digits_value}
use Rattle.node_settings.specs.Words.{decimal_in}

all_digits : (text : List ℕ) → all_ascii_digits text ≡ list_all is_ascii_digit text
all_digits [] = refl
all_digits (c ∷ cs) = ap (λ b. is_ascii_digit c && b) (all_digits cs)

by_test : {E : Type 0} (text : List ℕ) (r : Result ℕ E) → list_all is_ascii_digit text ≡ true → OkIff r ((0 < length text) × (digits_value 10 text < 2 ^ 64)) (digits_value 10 text) → result_ok r ≡ decimal_in text
by_test text (Ok x) all h = rw (all, lt-ltb 0 (length text) h.0.0, lt-ltb (digits_value 10 text) (2 ^ 64) h.0.1, h.1) refl
by_test text (Err e) all h =
    elim (cases_lt 0 (length text)) [
      | inl some ↦ elim (cases_lt (digits_value 10 text) (2 ^ 64)) [
        | inl small ↦ absurd (h (some, small))
        | inr large ↦ rw (all, lt-ltb 0 (length text) some, le-ltb (digits_value 10 text) (2 ^ 64) large) refl
      ]
      | inr none ↦ rw (le-ltb 0 (length text) none) refl
    ]

-- digits alone are read as what they write
pub parsed : {E : Type 0} (text : List ℕ) (r : Result ℕ E) → list_all is_ascii_digit text ≡ true → ParsesUnsigned 64 10 text r → result_ok r ≡ decimal_in text
parsed text r all h = by_test text r all (parse_digits (numerals_by_value (λ ds. all_ascii_digits ds ≡ true) tells_all_ascii_digits) 64 text r h (all_digits text ∙ all))

-- and anything else is no number
pub no_number : (text : List ℕ) → list_all is_ascii_digit text ≡ false → decimal_in text ≡ None
no_number text e = rw (e, and_right (ltb 0 (length text)) false refl) refl

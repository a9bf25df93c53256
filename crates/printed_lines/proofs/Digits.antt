-- Text in hexadecimal, as the library spells it.
use Rattle.std.proofs.Common.{◌≡◌, ℕ, zero, suc, ◌<◌, ◌/◌, ◌%◌, ◌&&◌, Bool, true, false, List, [], ◌∷◌, get_or, flat_map, slice_index, ltb, bytes_eq, IsAscii, inl, inr, refl, arith}
use Rattle.std.specs.Fmt.{digits}
use Rattle.std.proofs.lemmas.Bool.{and_parts, cases_lt, ltb-true}
use Rattle.std.proofs.lemmas.List.{get_or_past}
use Rattle.std.proofs.lemmas.Slice.Eq.{bytes_eq-Decides}
use Rattle.hex.specs.Hex.{encode_with, encode_lower, lower_digits}
use Rattle.printed_lines.specs.Items.{hex_of}

-- ---- tests of each number below another, which compute

abbrev pass : (ℕ → Bool) → ℕ → Bool
pass test zero = true
pass test (suc n) = test n && pass test n

passed : (test : ℕ → Bool) (n k : ℕ) → pass test n ≡ true → k < n → test k ≡ true
passed test zero k all lt = absurd (omega arith)
passed test (suc n) k all lt =
    let parts = and_parts (test n) (pass test n) all in
    elim (cases_lt k n) [
      | inl below ↦ passed test n k parts.1 below
      | inr top ↦
          let e : k ≡ n = omega arith in
          rw e parts.0
    ]

-- ---- the digits

-- whether the number's digit is the table's
abbrev is_same : ℕ → Bool
is_same d = bytes_eq (digits 16 false d) (slice_index lower_digits d ∷ [])

all_same : pass is_same 16 ≡ true
unfolding digits
all_same = refl

same_at : (d : ℕ) → d < 16 → digits 16 false d ≡ slice_index lower_digits d ∷ []
same_at d lt = (bytes_eq-Decides (digits 16 false d) (slice_index lower_digits d ∷ [])).0 (passed is_same 16 d all_same lt)

pub spelled : (bytes : List ℕ) → ((i : ℕ) → get_or bytes i 0 < 256) → encode_lower bytes ≡ flat_map hex_of bytes
unfolding encode_with
spelled [] fits = refl
spelled (b ∷ rest) fits =
    let small = fits 0 in
    let high = same_at (b / 16) (omega (arith, small)) in
    let low = same_at (b % 16) (omega (arith, small)) in
    rw (high, low, spelled rest (λ i. fits (suc i))) refl

abbrev is_ascii : ℕ → Bool
is_ascii d = ltb (slice_index lower_digits d) 128

pub digits_are_ascii : IsAscii lower_digits
digits_are_ascii d =
    elim (cases_lt d 16) [
      | inl small ↦ ltb-true (slice_index lower_digits d) 128 (passed is_ascii 16 d refl small)
      | inr past ↦ rw (get_or_past lower_digits d 0 past) (omega arith)
    ]

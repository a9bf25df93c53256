-- A line of a key file reads as its key.
use Rattle.std.proofs.Common.{rules, ◌≡◌, ℕ, zero, suc, ◌+◌, ◌-◌, ◌*◌, ◌/◌, ◌<◌, ◌^◌, true, false, ◌||◌, List, [], ◌∷◌, ◌++◌, length, get_or, Some, inl, inr, refl, ap, ◌∙◌, arith, lt-ltb, fold}
use Rattle.std.specs.Prelude.{All, nat_lt, ◌==◌}
use Rattle.std.specs.Int.{byte_at, bytes_high_first, to_be_bytes, w32}
use Rattle.std.specs.List.{list_all, slice_index, slice_split}
use Rattle.std.proofs.Math.Bool.{or-true}
use Rattle.std.proofs.Math.Nat.{mod-lt}
use Rattle.std.proofs.Math.Seq.{get_or-append_right}
use Rattle.std.specs.Char.{is_ascii_digit}
use Rattle.std.specs.Fmt.{decimal}
use Rattle.std.proofs.lemmas.Bool.{cases_eq, cases_lt}
use Rattle.std.proofs.lemmas.Bool.Decides.{nat_tests}
use Rattle.std.proofs.lemmas.Fmt.{decimal_digit, first_decimal, digits_decimal, digits_value-decimal}
use Rattle.std.proofs.lemmas.List.{get_or_append_left}
use Rattle.std.proofs.lemmas.List.Elements.{All-append, All-cons}
use Rattle.std.proofs.lemmas.List.Splits.{slice_split_at, slice_split_none}
use Rattle.std.proofs.lemmas.List.Sums.{AllPass-from_list_all}
use Rattle.std.proofs.lemmas.Str.Parse.{IsNumeralModel, IsDigitsTest, numerals_by_fold}
use Rattle.sha2.specs.Sha256.{sha256, digest_bytes}
use Rattle.sha2.proofs.Facts256.{length-sha256}
use Rattle.hex.specs.Hex.{IsBytes, is_hex_digit, encode_lower}
use Rattle.hex.proofs.HexLemmas.{decode_sized-encode_lower, decode_of-encode_lower, decode_of-ok}
use Rattle.authenticators.specs.Keys.{is_line_feed, is_skipped}
use Rattle.authenticators.specs.Party.{shown}
use Rattle.authenticators.specs.Lines.{decimal_value, number_in, party_in, is_space, line_of, key_in}
use Rattle.authenticators.specs.Lines as words
use Rattle.protocol.specs.Tags.{Party, Validator, Client}
use Rattle.world_parties.specs.Keys.{key_between}
use Rattle.world_parties.specs.KeyFile.{key_line}

-- ---- numbers

is_own_test : IsDigitsTest (λ ds. list_all is_ascii_digit ds ≡ true)
is_own_test = search rules

abbrev step : ℕ → ℕ → ℕ
step number digit = 10 * number + (digit - 48)

own : IsNumeralModel (λ ds. list_all is_ascii_digit ds ≡ true) decimal_value
own = numerals_by_fold _ is_own_test (λ n ds. fold step n ds) (search rules)

all_digits : (n : ℕ) → n < 65536 → list_all is_ascii_digit (decimal n) ≡ true
all_digits n small = digits_decimal own n (omega arith)

-- no zero stands in front of other digits
no_zero_in_front : (n : ℕ) → n < 65536 → (length (decimal n) == 1 || nat_lt 48 (get_or (decimal n) 0 0)) ≡ true
no_zero_in_front n small =
    elim (cases_eq n 0) [
      | inl nothing ↦ rw (nothing, decimal_digit 0 (omega arith)) refl
      | inr other ↦ let test : nat_lt 48 (get_or (decimal n) 0 0) ≡ true = lt-ltb _ _ (first_decimal n (omega arith) (omega arith)) in rw (test, or-true) refl
    ]

number_in-decimal : (n : ℕ) → n < 65536 → number_in (decimal n) ≡ Some n
unfolding number_in
number_in-decimal n small =
    let value : decimal_value (decimal n) ≡ n = digits_value-decimal own n (omega arith) in
    let test : nat_lt n 65536 ≡ true = lt-ltb n 65536 small in
    rw (all_digits n small, no_zero_in_front n small, value, test) refl

-- the number of a party
abbrev pub number_of : Party → ℕ
number_of (Validator number) = number
number_of (Client number) = number

party_in-shown : (p : Party) → number_of p < 65536 → party_in (shown p) ≡ Some p
unfolding party_in
party_in-shown (Validator n) small = rw (number_in-decimal n small) refl
party_in-shown (Client n) small = rw (number_in-decimal n small) refl

-- ---- keys

IsBytes-append : (xs ys : List ℕ) → IsBytes xs → IsBytes ys → IsBytes (xs ++ ys)
IsBytes-append xs ys hx hy i =
    elim (cases_lt i (length xs)) [
      | inl within ↦ rw (get_or_append_left xs ys 0 i within) (hx i)
      | inr past ↦ rw (get_or-append_right xs ys i 0 past) (hy (i - length xs))
    ]

is_byte : (k n : ℕ) → byte_at k n < 256
is_byte zero n = mod-lt n (omega arith)
is_byte (suc k) n = mod-lt (n / 256 ^ suc k) (omega arith)

high_first : (k n : ℕ) → IsBytes (bytes_high_first k n)
high_first zero n i = omega arith
high_first (suc k) n zero = is_byte k n
high_first (suc k) n (suc i) = high_first k n i

digest_is_bytes : (h : List ℕ) (n : ℕ) → IsBytes (digest_bytes h n)
unfolding digest_bytes
digest_is_bytes h zero = λ i. omega arith
digest_is_bytes h (suc n) = IsBytes-append (digest_bytes h n) (to_be_bytes w32 (slice_index h n)) (digest_is_bytes h n) (high_first 4 (slice_index h n))

IsBytes-key_between : (from : Party) (to : ℕ) → IsBytes (key_between from to)
unfolding key_between sha256
IsBytes-key_between from to = digest_is_bytes _ 8

length-key_between : (from : Party) (to : ℕ) → length (key_between from to) ≡ 32
unfolding key_between
length-key_between from to = length-sha256 _

key_in-encoded : (from : Party) (to : ℕ) → key_in (encode_lower (key_between from to)) ≡ Some (key_between from to)
key_in-encoded from to = rw (decode_sized-encode_lower (key_between from to) 32 (length-key_between from to) (IsBytes-key_between from to)) refl

-- ---- words

-- letters and digits, all of them above a space
abbrev pub AreMarks : List ℕ → Type 0
AreMarks xs = All (λ x. 32 < x) xs

AreMarks-decimal : (n : ℕ) → n < 65536 → AreMarks (decimal n)
AreMarks-decimal n small k d within =
    let digit = AllPass-from_list_all is_ascii_digit (decimal n) (all_digits n small) k d within in
    grind (arith, nat_tests)

AreMarks-shown : (p : Party) → number_of p < 65536 → AreMarks (shown p)
AreMarks-shown (Validator n) small = All-cons (λ x. 32 < x) 118 (decimal n) (omega arith) (AreMarks-decimal n small)
AreMarks-shown (Client n) small = All-cons (λ x. 32 < x) 99 (decimal n) (omega arith) (AreMarks-decimal n small)

mark_of_hex : (c : ℕ) → is_hex_digit c ≡ true → 32 < c
mark_of_hex c h = grind (arith, nat_tests)

AreMarks-encoded : (from : Party) (to : ℕ) → AreMarks (encode_lower (key_between from to))
AreMarks-encoded from to k d within =
    let key = key_between from to in
    let digits = (decode_of-ok (encode_lower key) key (decode_of-encode_lower key (IsBytes-key_between from to))).1 in
    mark_of_hex _ (digits k d within)

no_space : (xs : List ℕ) → AreMarks xs → All (λ x. is_space x ≡ false) xs
no_space xs marks k d within = let h = marks k d within in grind (arith, nat_tests)

three_words : (from : Party) (to : ℕ) → number_of from < 65536 → to < 65536 → slice_split is_space (key_line from to) ≡ shown from ∷ shown (Validator to) ∷ encode_lower (key_between from to) ∷ []
unfolding key_line
three_words from to small_from small_to =
    let key = encode_lower (key_between from to) in
    slice_split_at is_space (shown from) 32 (shown (Validator to) ++ (32 ∷ key)) (no_space (shown from) (AreMarks-shown from small_from)) refl
    ∙ ap (λ (parts : List (List ℕ)). shown from ∷ parts)
    (slice_split_at is_space (shown (Validator to)) 32 key (no_space (shown (Validator to)) (AreMarks-shown (Validator to) small_to)) refl
    ∙ ap (λ (parts : List (List ℕ)). shown (Validator to) ∷ parts) (slice_split_none is_space key (no_space key (AreMarks-encoded from to))))

pub key_line-reads : (from : Party) (to : ℕ) → number_of from < 65536 → to < 65536 → words.key_line (key_line from to) ≡ Some (record { from = from; to = to; key = key_between from to })
unfolding words.key_line line_of
key_line-reads from to small_from small_to =
    rw (three_words from to small_from small_to, party_in-shown from small_from, party_in-shown (Validator to) small_to, key_in-encoded from to) refl

-- ---- no line feed, and no comment

abbrev HasNoFeed : List ℕ → Type 0
HasNoFeed xs = All (λ x. is_line_feed x ≡ false) xs

marks_only : (xs : List ℕ) → AreMarks xs → HasNoFeed xs
marks_only xs marks k d within = let h = marks k d within in grind (arith, nat_tests)

-- a word, and what stands behind a space
word_more : (word rest : List ℕ) → AreMarks word → HasNoFeed rest → HasNoFeed (word ++ (32 ∷ rest))
word_more word rest marks h = All-append (λ x. is_line_feed x ≡ false) word (32 ∷ rest) (marks_only word marks) (All-cons (λ x. is_line_feed x ≡ false) 32 rest refl h)

pub no_feed : (from : Party) (to : ℕ) → number_of from < 65536 → to < 65536 → All (λ x. is_line_feed x ≡ false) (key_line from to)
unfolding key_line
no_feed from to small_from small_to =
    let key = encode_lower (key_between from to) in
    word_more (shown from) (shown (Validator to) ++ (32 ∷ key)) (AreMarks-shown from small_from)
    (word_more (shown (Validator to)) key (AreMarks-shown (Validator to) small_to) (marks_only key (AreMarks-encoded from to)))

begins_no_comment : (x : ℕ) (xs : List ℕ) → (x == 35) ≡ false → is_skipped (x ∷ xs) ≡ false
begins_no_comment x xs h = grind (arith, nat_tests)

pub not_skipped : (from : Party) (to : ℕ) → is_skipped (key_line from to) ≡ false
unfolding key_line
not_skipped (Validator n) to = begins_no_comment 118 _ refl
not_skipped (Client n) to = begins_no_comment 99 _ refl

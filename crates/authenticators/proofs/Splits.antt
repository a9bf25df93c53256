-- A list cut at the first element that passes a test.
use Rattle.std.proofs.Common.{◌≡◌, ℕ, ◌+◌, ◌<◌, ◌≤◌, Bool, true, false, cond, List, [], ◌∷◌, length, take, drop, ltb, Option, Some, None, refl, ◌∙◌, ap, arith}
use Rattle.std.specs.List.{slice_split, onto_first, position_or_len}
use Rattle.std.proofs.lemmas.Bool.Decides.{nat_tests}
use Rattle.std.proofs.lemmas.List.Splits.{slice_split-cons_no, slice_split_first, length-slice_split}
use Rattle.authenticators.specs.Lines.{line_of_words}

-- a list in which none passes is one part
pub split_none : {X : Type 0} (p : X → Bool) (xs : List X) → length xs ≤ position_or_len p xs → slice_split p xs ≡ xs ∷ []
split_none p [] h = refl
split_none {X = X} p (x ∷ xs) h =
    let Goal : Bool → Type 0 = λ b. p x ≡ b → slice_split p (x ∷ xs) ≡ (x ∷ xs) ∷ [] in
    let yes : Goal true = λ e.
    let short : position_or_len p (x ∷ xs) ≡ 0 = rw e refl in
    absurd (omega (arith, short)) in
    let no : Goal false = λ e.
    let long : position_or_len p (x ∷ xs) ≡ 1 + position_or_len p xs = rw e refl in
    let fewer : length xs ≤ position_or_len p xs = omega (arith, long) in
    slice_split-cons_no p x xs e ∙ ap (λ parts. onto_first x parts) (split_none p xs fewer) in
    elim (p x) as Goal [ true ↦ yes | false ↦ no ] refl

-- what `position` answers, by the parts
abbrev pub CutsAt : {X : Type 0} → (X → Bool) → List X → Option ℕ → Type 0
CutsAt p xs None = slice_split p xs ≡ xs ∷ []
CutsAt p xs (Some end) = slice_split p xs ≡ take end xs ∷ slice_split p (drop (end + 1) xs)

pub cut_at_position : {X : Type 0} (p : X → Bool) (xs : List X) (d : X) (found : Option ℕ)
    → found ≡ cond (ltb (position_or_len p xs) (length xs)) (Some (position_or_len p xs)) None → CutsAt p xs found
cut_at_position p xs d found e =
    let Goal : Bool → Type 0 = λ b. ltb (position_or_len p xs) (length xs) ≡ b → CutsAt p xs (cond b (Some (position_or_len p xs)) None) in
    let yes : Goal true = λ t. slice_split_first p xs d (grind (arith, nat_tests)) in
    let no : Goal false = λ t. split_none p xs (grind (arith, nat_tests)) in
    let all : CutsAt p xs (cond (ltb (position_or_len p xs) (length xs)) (Some (position_or_len p xs)) None) = elim (ltb (position_or_len p xs) (length xs)) as Goal [ true ↦ yes | false ↦ no ] refl in
    rw e all

four : (a b c : List ℕ) (words : List (List ℕ)) → 0 < length words → line_of_words (a ∷ b ∷ c ∷ words) ≡ None
four a b c [] h = absurd (omega arith)
four a b c (d ∷ words) h = refl

-- four words and more are no key line
pub four_words : (a b c : List ℕ) (p : ℕ → Bool) (rest : List ℕ) → line_of_words (a ∷ b ∷ c ∷ slice_split p rest) ≡ None
four_words a b c p rest = four a b c (slice_split p rest) (omega (arith, length-slice_split p rest))

-- Numbers of a list in turn.
use Rattle.std.proofs.Common.{◌≡◌, ℕ, ◌+◌, ◌<◌, ◌≤◌, List, [], ◌∷◌, ◌++◌, length, map, drop, get_or, Some, None, Result, Ok, Err, refl, sym, ap, ◌∙◌, Bor}
use Rattle.std.proofs.lemmas.List.{at_drop_more, drop_all, append_assoc, append-nil}
use Rattle.node_settings.specs.Words.{◌>>=◌, every_number, power_in}
use Rattle.node_settings.specs.declared.invocation.SettingsFault.{SettingsFault}
use Rattle.node_settings.specs.declared.invocation.SettingsFault.TheVariants.{Usage}

-- these numbers, and those of what is left
abbrev pub behind : List ℕ → Result (List ℕ) SettingsFault → Result (List ℕ) SettingsFault
behind front rest = rest >>= λ numbers. Ok (front ++ numbers)

abbrev pub numbers_in : List (List ℕ) → Result (List ℕ) SettingsFault
numbers_in words = every_number (map power_in words)

one_more : (front : List ℕ) (number : ℕ) (rest : Result (List ℕ) SettingsFault) → behind front (rest >>= λ numbers. Ok (number ∷ numbers)) ≡ behind (front ++ number ∷ []) rest
one_more front number (Ok numbers) = ap Ok (sym (append_assoc front (number ∷ []) numbers))
one_more front number (Err e) = refl

first_none : (word : List ℕ) (words : List (List ℕ)) → power_in word ≡ None → numbers_in (word ∷ words) ≡ Err Usage
unfolding every_number
first_none word words e = rw e refl

first_some : (word : List ℕ) (words : List (List ℕ)) (number : ℕ) → power_in word ≡ Some number → numbers_in (word ∷ words) ≡ (numbers_in words >>= λ numbers. Ok (number ∷ numbers))
unfolding every_number
first_some word words number e = rw e refl

none_left : numbers_in [] ≡ Ok []
unfolding every_number
none_left = refl

nothing_before : (rest : Result (List ℕ) SettingsFault) → behind [] rest ≡ rest
nothing_before (Ok numbers) = refl
nothing_before (Err e) = refl

pub numbers_begin : (words : List (List ℕ)) → behind [] (numbers_in words) ≡ numbers_in words
numbers_begin words = nothing_before (numbers_in words)

-- the words of references, from the i-th on
abbrev pub numbers_from : ℕ → List (Bor (List ℕ)) → Result (List ℕ) SettingsFault
numbers_from i words = numbers_in (map (λ word. word.now) (drop i words))

-- a word that is no number
pub numbers_fail : (words : List (Bor (List ℕ))) (i : ℕ) (front : List ℕ) (word : Bor (List ℕ)) → i < length words → power_in (get_or words i word).now ≡ None
    → behind front (numbers_from i words) ≡ Err Usage
numbers_fail words i front word h none =
    ap (behind front) (at_drop_more (λ left. numbers_in (map (λ word. word.now) left)) words i word h
    ∙ first_none (get_or words i word).now (map (λ word. word.now) (drop (i + 1) words)) none)

-- one number more
pub numbers_more : (words : List (Bor (List ℕ))) (i : ℕ) (front : List ℕ) (word : Bor (List ℕ)) (number : ℕ) → i < length words → power_in (get_or words i word).now ≡ Some number
    → behind (front ++ number ∷ []) (numbers_from (i + 1) words) ≡ behind front (numbers_from i words)
numbers_more words i front word number h some =
    sym (ap (behind front) (at_drop_more (λ left. numbers_in (map (λ word. word.now) left)) words i word h
    ∙ first_some (get_or words i word).now (map (λ word. word.now) (drop (i + 1) words)) number some)
    ∙ one_more front number (numbers_from (i + 1) words))

-- no word is left
pub numbers_end : (words : List (Bor (List ℕ))) (i : ℕ) (front : List ℕ) → length words ≤ i → behind front (numbers_from i words) ≡ Ok front
numbers_end words i front h =
    ap (λ left. behind front (numbers_in (map (λ word. word.now) left))) (drop_all i words h) ∙ ap (behind front) none_left ∙ ap Ok (append-nil front)

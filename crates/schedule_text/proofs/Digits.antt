-- The number of digits, digit by digit.
use Rattle.std.proofs.Common.{◌≡◌, ℕ, ◌+◌, ◌-◌, ◌*◌, ◌<◌, ◌≤◌, Some, None, List, [], ◌∷◌, ◌++◌, length, get_or, take, drop, refl, sym, ◌∙◌, ap, arith, lt-ltb}
use Rattle.std.proofs.lemmas.Bool.{le-ltb}
use Rattle.std.proofs.lemmas.List.{take-append-drop, take_more}
use Rattle.schedule_text.specs.Numbers.{number_after, number, below}

pub number_after-append : (n : ℕ) (xs ys : List ℕ) → number_after n (xs ++ ys) ≡ number_after (number_after n xs) ys
number_after-append n [] ys = refl
number_after-append n (x ∷ xs) ys = number_after-append (10 * n + (x - 48)) xs ys

number_grows : (n : ℕ) (xs : List ℕ) → n ≤ number_after n xs
number_grows n [] = omega arith
number_grows n (x ∷ xs) = let h = number_grows (10 * n + (x - 48)) xs in omega (arith, h)

-- one more digit
pub number_more : (xs : List ℕ) (i : ℕ) → i < length xs → number (take (i + 1) xs) ≡ 10 * number (take i xs) + (get_or xs i 0 - 48)
number_more xs i h = rw (take_more xs i 0 h) (number_after-append 0 (take i xs) (get_or xs i 0 ∷ []))

-- the number of the first digits is no more than that of all
pub number_front : (xs : List ℕ) (i : ℕ) → number (take i xs) ≤ number xs
number_front xs i =
    let whole : number xs ≡ number_after (number (take i xs)) (drop i xs) = ap number (sym (take-append-drop i xs)) ∙ number_after-append 0 (take i xs) (drop i xs) in
    let grows = number_grows (number (take i xs)) (drop i xs) in
    omega (arith, whole, grows)

pub below_none : (limit n : ℕ) → limit ≤ n → below limit n ≡ None
below_none limit n h = rw (le-ltb n limit h) refl

-- where a beginning is too large, so is the whole
pub too_large : (limit : ℕ) (xs : List ℕ) (i n : ℕ) → i < length xs → n ≡ number (take i xs) → limit ≤ 10 * n + (get_or xs i 0 - 48) → below limit (number xs) ≡ None
too_large limit xs i n h e large =
    let more = number_more xs i h in
    let front = number_front xs (i + 1) in
    below_none limit (number xs) (omega (arith, more, front, e))

pub next_digit : (xs : List ℕ) (i n : ℕ) → i < length xs → n ≡ number (take i xs) → n * 10 + (get_or xs i 0 - 48) ≡ number (take (i + 1) xs)
next_digit xs i n h e = let more = number_more xs i h in omega (arith, more, e)

pub below_some : (limit n : ℕ) → n < limit → Some n ≡ below limit n
below_some limit n h = rw (lt-ltb n limit h) refl

-- Decimal numbers, digit by digit.
use Rattle.std.proofs.Common.{◌≡◌, ℕ, zero, suc, ◌+◌, ◌-◌, ◌*◌, ◌<◌, ◌≤◌, true, false, List, [], ◌∷◌, length, take, get_or, ltb, le-ltb, None, fold, refl, sym, ◌∙◌, arith}
use Rattle.std.specs.List.{list_all}
use Rattle.std.specs.Char.{is_ascii_digit}
use Rattle.std.proofs.Math.Bool.{and-false}
use Rattle.std.proofs.lemmas.List.Sums.{fold_more}
use Rattle.std.proofs.lemmas.List.Folds.{list_all_more}
use Rattle.authenticators.specs.Lines.{decimal_value, number_in}

abbrev step : ℕ → ℕ → ℕ
step number digit = 10 * number + (digit - 48)

grows : (a : ℕ) (digits : List ℕ) → a ≤ fold step a digits
grows a [] = omega arith
grows a (d ∷ digits) = let more : step a d ≤ fold step (step a d) digits = grows (step a d) digits in omega arith

front_below : (a i : ℕ) (digits : List ℕ) → fold step a (take i digits) ≤ fold step a digits
front_below a zero digits = grows a digits
front_below a (suc i) [] = omega arith
front_below a (suc i) (d ∷ digits) = front_below (step a d) i digits

-- the front of a number is at most the number
pub value_of_front : (i : ℕ) (digits : List ℕ) → decimal_value (take i digits) ≤ decimal_value digits
value_of_front i digits = front_below 0 i digits

-- one digit more
pub value_more : (digits : List ℕ) (i : ℕ) → i < length digits → decimal_value (take (i + 1) digits) ≡ 10 * decimal_value (take i digits) + (get_or digits i 0 - 48)
value_more digits i h = fold_more step 0 digits i 0 h

-- what the first i digits are
pub record IsRead (i : ℕ) (digits : List ℕ) (number : ℕ) : Type 0 where
  pub value : number ≡ decimal_value (take i digits)
  pub small : number ≤ 65535
  pub each : list_all is_ascii_digit (take i digits) ≡ true

pub IsRead-more : (i : ℕ) (digits : List ℕ) (number digit : ℕ) → i < length digits → digit ≡ get_or digits i 0 → is_ascii_digit digit ≡ true
    → 10 * number + (digit - 48) ≤ 65535 → IsRead i digits number → IsRead (i + 1) digits (10 * number + (digit - 48))
IsRead-more i digits number digit within here is_digit small h = record {
  value = rw (here, h.value) (sym (value_more digits i within));
  small = small;
  each = list_all_more is_ascii_digit digits i 0 within ∙ rw (h.each, ← here) is_digit;
}

-- a number that is too large in front
pub number_in-large : (i : ℕ) (digits : List ℕ) (number : ℕ) → i < length digits → 65535 < 10 * number + (get_or digits i 0 - 48)
    → IsRead i digits number → None ≡ number_in digits
unfolding number_in
number_in-large i digits number within large h =
    let same : decimal_value (take (i + 1) digits) ≡ 10 * number + (get_or digits i 0 - 48) = rw h.value (value_more digits i within) in
    let above : ltb (decimal_value digits) 65536 ≡ false = le-ltb _ _ (omega (arith, value_of_front (i + 1) digits, same)) in
    rw (above, and-false) refl

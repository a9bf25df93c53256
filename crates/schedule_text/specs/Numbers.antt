-- Numbers as words.
use Rattle.std.specs.Prelude.{ℕ, ◌+◌, ◌-◌, ◌*◌, Bool, not, ◌&&◌, ◌||◌, cond, Option, Some, None, List, [], ◌∷◌, ◌==◌, nat_lt, min, length, slice_index_or}
use Rattle.std.specs.List.{list_all}
use Rattle.std.specs.Char.{is_ascii_digit}

-- decimal digits, of which the first is 0 in the number 0 alone
abbrev pub is_number : List ℕ → Bool
is_number word = nat_lt 0 (length word) && (not (slice_index_or word 0 0 == 48) || length word == 1) && list_all is_ascii_digit word

abbrev pub number_after : ℕ → List ℕ → ℕ
number_after n [] = n
number_after n (c ∷ cs) = number_after (10 * n + (c - 48)) cs

-- and the number that they are
abbrev pub number : List ℕ → ℕ
number word = number_after 0 word

abbrev pub below : ℕ → ℕ → Option ℕ
below limit n = cond (nat_lt n limit) (Some n) None

-- the number, where it is below a limit
abbrev pub number_below : ℕ → List ℕ → Option ℕ
number_below limit word = cond (is_number word) (below limit (number word)) None

-- the number, or the most where it is above that
abbrev pub number_up_to : ℕ → List ℕ → Option ℕ
number_up_to most word = cond (is_number word) (Some (min (number word) most)) None

-- Which calls of a store are to fail.
use Rattle.std.specs.Prelude.{◌≡◌, ◌≢◌, ℕ, ◌+◌, ◌<◌, Option}
use Rattle.std.specs.Ordering.{nat_cmp}
use Rattle.std.specs.BTreeMap.{get}
use Rattle.vote_journal.specs.declared.striking.Calls.{Calls}

-- how much of an append stays at the call of this number from now on, counted from 1, if that call is to fail
abbrev pub struck_at : Calls → ℕ → Option ℕ
struck_at calls number = get nat_cmp calls.struck (calls.made + number)

-- there can be a call of this number: calls are counted up to the greatest u64
abbrev pub IsCountable : Calls → ℕ → Type 0
IsCountable calls number = calls.made + number < 18446744073709551616

-- at each other call it is as it was
abbrev pub SameBut : ℕ → Calls → Calls → Type 0
SameBut call old new = (number : ℕ) → number ≢ call → struck_at new number ≡ struck_at old number

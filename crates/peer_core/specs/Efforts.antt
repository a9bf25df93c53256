-- What asks may cost.
use Rattle.std.specs.Prelude.{ℕ, Bool, nat_le, ◌*◌, ◌/◌, ◌^◌, ◌-◌, min, max, Option, Some, None}
use Rattle.peer_core.specs.declared.efforts.Account.{Account}
use Rattle.peer_core.specs.Resting.{plus}

-- how many bytes the asks on one link may cost each millisecond: its share, where as many links as there are validators have one
abbrev pub share : ℕ → ℕ
share count = max (128000 / max count 1) 1

-- how many bytes are hashed for one of this size that is tagged for each validator, up to the greatest u64
abbrev pub tagged : ℕ → ℕ → ℕ
tagged size count = min (size * count) (2 ^ 64 - 1)

-- how many milliseconds of a share so many bytes are, at least one
abbrev pub cost : ℕ → ℕ → ℕ
cost bytes count = plus (bytes / share count) 1

-- no more was spent than the share of the next ten seconds
abbrev pub has_room : Account → ℕ → Bool
has_room a now = nat_le a.free (plus now 10000)

abbrev pub charged : Account → ℕ → ℕ → Account
charged a milliseconds now = record a { free = plus (max a.free now) milliseconds }

-- the one on which more was spent
abbrev pub later : Account → Account → Account
later a b = record a { free = max a.free b.free }

-- what a link begins with
abbrev pub carried : Option Account → Account
carried None = record { free = 0 }
carried (Some a) = a

abbrev pub with_debt : Account → Option Account → Option Account
with_debt debt None = None
with_debt debt (Some a) = Some (later a debt)

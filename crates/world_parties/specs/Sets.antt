-- For whom tags are right.
use Rattle.std.specs.Prelude.{ℕ, Bool, true, Option, Some, None, List, ◌==◌}
use Rattle.std.specs.List.{list_any}

-- the tag for validator q is right: all are where no validators are listed
abbrev pub is_right_for : Option (List ℕ) → ℕ → Bool
is_right_for None q = true
is_right_for (Some validators) q = list_any (λ validator. validator == q) validators

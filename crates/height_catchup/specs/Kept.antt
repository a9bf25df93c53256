-- The decisions that a validator keeps.
use Rattle.std.specs.Prelude.{◌≡◌, ℕ, ◌<◌, List, length, slice_index_or}
use Rattle.messages.specs.declared.body.Bundle.{Bundle}

-- The bundles in order of height, and for how many more there is room.
pub record Kept : Type 0 where
  pub bundles : List Bundle
  pub room : ℕ

-- each stands at the place of its height
abbrev pub IsInPlace : List Bundle → Type 0
IsInPlace bundles = (height : ℕ) (d : Bundle) → height < length bundles → (slice_index_or bundles height d).height ≡ height

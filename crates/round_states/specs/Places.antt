-- The places of kept proposals, by round.
use Rattle.std.specs.Prelude.{ℕ, ◌<◌, ◌==◌, List, [], length, filter, Vec, vec_len, vec_capacity, Option, Some, None, slice_index_or}
use Rattle.std.specs.Option.{option_map_or}
use Rattle.std.specs.Ordering.{nat_cmp}
use Rattle.std.specs.BTreeMap as tree
use Rattle.std.specs.BTreeMap.{BTreeMap}
use Rattle.protocol.specs.Messages.{Proposal, below}
use Rattle.round_states.specs.Steps.{nowhere}

-- where the proposals of a round stand in a list
abbrev pub places_of : ℕ → List Proposal → List ℕ
places_of round proposals = filter (λ place. (slice_index_or proposals place nowhere).round == round) (below (length proposals))

-- the places that a map has for a round
abbrev pub places_at : {Z : Type 0} → BTreeMap ℕ (Vec ℕ Z) → ℕ → List ℕ
places_at places round = option_map_or (λ list. list.items) (tree.get nat_cmp places round) []

abbrev pub IsRoom : {Z : Type 0} → Option (Vec ℕ Z) → Type 0
IsRoom None = ⊥
IsRoom (Some list) = vec_len list < vec_capacity list

-- there is room for one more place of the round
abbrev pub HasRoom : {Z : Type 0} → BTreeMap ℕ (Vec ℕ Z) → ℕ → Type 0
HasRoom places round = IsRoom (tree.get nat_cmp places round)

-- The order in which items are offered.
use Rattle.std.specs.Prelude.{◌≡◌, ℕ, suc, ◌+◌, ◌^◌, ◌<◌, true, List, [], ◌∷◌, map, length}
use Rattle.protocol.specs.Values.{Item, fifo}
pub use Rattle.subscriber_ring.specs.declared.delivered.Delivered.{Delivered}

abbrev pub items_of : List Delivered → List Item
items_of all = map (λ d. d.item) all

-- the positions are first, first + 1, ..
abbrev pub Consecutive : ℕ → List Delivered → Type 0
Consecutive first [] = Unit {0}
Consecutive first (d ∷ ds) = (d.position ≡ first) × Consecutive (suc first) ds

-- Positions count up from the first, and the one after the last is a number too. From 0 on the clients' order is kept.
pub record IsInOrder (first : ℕ) (all : List Delivered) : Type 0 where
  pub consecutive : Consecutive first all
  pub fits : first + length all < 2 ^ 64
  pub clients : first ≡ 0 → fifo (items_of all) ≡ true

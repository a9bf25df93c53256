-- Whether items are a piece of the delivered list.
use Rattle.std.specs.Prelude.{◌≡◌, ℕ, Bool, List, ◌++◌, length}
use Rattle.protocol.specs.Values.{Item}
use Rattle.subscriber_ring.specs.declared.delivered.Delivered.{Delivered}
use Rattle.subscriber_ring.specs.Order.{items_of, Consecutive}

-- The list begins with the items, and their positions count up from this one.
pub record AreNext (rest : List Item) (position : ℕ) (items : List Delivered) : Type 0 where
  pub behind : List Item
  pub goes_on : rest ≡ items_of items ++ behind
  pub positions : Consecutive position items

-- The items follow one another in the delivered list, each at its position. None at all always do.
pub record IsSegment (delivered : List Item) (items : List Delivered) : Type 0 where
  pub before : List Item
  pub rest : List Item
  pub whole : delivered ≡ before ++ rest
  pub next : AreNext rest (length before) items

-- the items that were looked for, and whether they are such a piece
pub record Meeting : Type 0 where
  pub items : List Delivered
  pub yes : Bool

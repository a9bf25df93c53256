-- What subscribers of two shared nodes took.
use Rattle.std.specs.Prelude.{◌≡◌, List}
use Rattle.protocol.specs.Messages.{◌∈◌}
use Rattle.protocol.specs.Premises.{Begins}
use Rattle.protocol.specs.Laws.{Comparable}
use Rattle.node_core.specs.Core.{delivered_in}
use Rattle.subscriber_ring.specs.declared.delivered.Delivered.{Delivered}
use Rattle.subscriber_ring.specs.Order.{items_of}
use Rattle.subscriber_ring.specs.Rule.{BeginsWith}
use Rattle.locked_node.specs.declared.feeding.Fed.{Fed}
use Rattle.locked_node.specs.Locked.{Locked, IsLocked}

-- The node has a ring from position 0 on, of which this was taken: a beginning of what it was offered.
pub record WasTaken (l : Locked) (taken : List Delivered) : Type 0 where
  pub ring : Fed
  pub there : ring ∈ l.feeders
  pub first : ring.feeder.first ≡ 0
  pub begins : BeginsWith ring.feeder.offered taken

-- What was taken from position 0 on begins what the node delivered; and where of two nodes' delivered lists one begins the
-- other, of what was taken of the two one begins the other.
abbrev pub SubscribersLaw : Type 0
SubscribersLaw = (l m : Locked) → IsLocked l → IsLocked m → (taken other : List Delivered) → WasTaken l taken → WasTaken m other →
    Begins (items_of taken) (delivered_in l.core.decisions)
    × (Comparable (delivered_in l.core.decisions) (delivered_in m.core.decisions) → Comparable (items_of taken) (items_of other))

-- Which items a ring was offered, and which come next.
use Rattle.std.specs.Prelude.{◌≡◌, ◌⊎◌, ℕ, zero, suc, ◌+◌, ◌-◌, ◌^◌, ◌<◌, ◌≤◌, List, [], ◌∷◌, ◌++◌, drop, length, Result, Ok, MatchResult}
use Rattle.protocol.specs.Values.{Item}
use Rattle.protocol.specs.Messages.{Bundle}
use Rattle.node_core.specs.Core.{delivered_in}
use Rattle.subscriber_ring.specs.Order.{items_of}
use Rattle.subscriber_ring.specs.Ends.{Feed, found_full, found_gone}
use Rattle.subscriber_ring.specs.declared.delivered.Delivered.{Delivered}
use Rattle.locked_node.specs.declared.place.Place.{Place}
use Rattle.locked_node.specs.declared.feeding.Fed.{Fed}
use Rattle.locked_node.specs.declared.feeding.Stop.{Stop}
use Rattle.locked_node.specs.declared.feeding.Stop.TheVariants.{Unoffered, Full, Gone, NoneLeft, OutOfMemory}

-- the items from this place on: so many behind the first of the height
abbrev pub left_at : List Bundle → Place → List Item
left_at decisions place = drop place.index (delivered_in (drop place.height decisions))

-- the place is one of the delivered list, or its end
pub record IsPlace (decisions : List Bundle) (place : Place) : Type 0 where
  pub height : place.height ≤ length decisions
  pub index : place.index ≤ length (delivered_in (drop place.height decisions))

-- What a ring was offered is a segment of the delivered list, which begins at the ring's first position; the place is where it ends.
pub record IsFed (decisions : List Bundle) (fed : Fed) : Type 0 where
  pub before : List Item
  pub start : length before ≡ fed.feeder.first
  pub whole : delivered_in decisions ≡ before ++ (items_of fed.feeder.offered ++ left_at decisions fed.place)
  pub place : IsPlace decisions fed.place

abbrev pub AreFed : List Bundle → List Fed → Type 0
AreFed decisions [] = Unit {0}
AreFed decisions (fed ∷ rest) = IsFed decisions fed × AreFed decisions rest

-- ---- normal places

abbrev pub StandsAt : List Bundle → ℕ → Type 0
StandsAt [] index = Unit {0}
StandsAt (b ∷ rest) index = index < length b.value.txs

-- the place lies within its height, or at the list's end
abbrev pub IsNormal : List Bundle → Place → Type 0
IsNormal decisions place = StandsAt (drop place.height decisions) place.index

-- the place of the next item
abbrev pub after_one : Place → Place
after_one place = record { height = place.height; index = place.index + 1 }

-- ---- offering

-- one item more was offered to the ring
abbrev pub IsOneMore : Fed → Fed → Type 0
IsOneMore old new = (d : Delivered) × (new.feeder ≡ record old.feeder { offered = old.feeder.offered ++ d ∷ [] })

-- the feeder with these items offered too
abbrev pub with_more : Feed → List Delivered → Feed
with_more feed more = record feed { offered = feed.offered ++ more }

-- some items more were offered to the ring
abbrev pub AreMore : Fed → Fed → Type 0
AreMore old new = (more : List Delivered) × (new.feeder ≡ with_more old.feeder more)

-- The feeder after the stop: one more offer was answered that the ring is full, or one was that its subscription is gone.
abbrev pub answered : Stop → Feed → Feed
answered Full feed = found_full feed
answered Gone feed = found_gone feed
answered Unoffered feed = feed
answered NoneLeft feed = feed
answered (OutOfMemory cause) feed = feed

-- Whether this may be why the offering stopped. What a ring holds was offered to it, and a position is a u64.
abbrev pub IsStop : List Bundle → Fed → Stop → Type 0
IsStop decisions fed Unoffered = ⊥
IsStop decisions fed Full = fed.feeder.capacity ≤ length fed.feeder.offered
IsStop decisions fed Gone = Unit {0}
IsStop decisions fed NoneLeft = (left_at decisions fed.place ≡ []) ⊎ (fed.feeder.first + length fed.feeder.offered ≡ 2 ^ 64 - 1)
IsStop decisions fed (OutOfMemory cause) = Unit {0}

-- The ring was offered the next items, until this stop. Full was answered by the ring within this offering, and gone in it or before.
pub record IsOffered (decisions : List Bundle) (old new : Fed) : Type 0 where
  pub more : List Delivered
  pub offered : new.feeder ≡ answered new.stopped (with_more old.feeder more)
  pub stop : IsStop decisions new new.stopped

-- a copy of an item was refused memory
abbrev pub LacksMemory : Stop → Type 0
LacksMemory (OutOfMemory cause) = Unit {0}
LacksMemory Unoffered = ⊥
LacksMemory Full = ⊥
LacksMemory Gone = ⊥
LacksMemory NoneLeft = ⊥

-- the first so many rings were, and the others are as they were
abbrev pub AreOffered : List Bundle → ℕ → List Fed → List Fed → Type 0
AreOffered decisions zero olds news = news ≡ olds
AreOffered decisions (suc n) (old ∷ olds) (new ∷ news) = IsOffered decisions old new × AreOffered decisions n olds news
AreOffered decisions (suc n) olds news = ⊥

-- The ring at this place was offered the next items, so many of them, just where the stop is not want of memory. Where none is there, nothing was done.
abbrev pub HasFilled : {E : Type 0} → List Bundle → ℕ → List Fed → List Fed → Result ℕ E → Type 0
HasFilled decisions place [] news result = (news ≡ []) × (result ≡ Ok 0)
HasFilled decisions zero (old ∷ olds) [] result = ⊥
HasFilled decisions zero (old ∷ olds) (new ∷ news) result = IsOffered decisions old new × (news ≡ olds) × MatchResult result (λ n. (length new.feeder.offered ≡ length old.feeder.offered + n) × (LacksMemory new.stopped → ⊥)) (λ e. LacksMemory new.stopped)
HasFilled decisions (suc place) (old ∷ olds) [] result = ⊥
HasFilled decisions (suc place) (old ∷ olds) (new ∷ news) result = (new ≡ old) × HasFilled decisions place olds news result

-- What callers see of a ring's two ends.
use Rattle.std.specs.Prelude.{ℕ, ◌+◌, ◌%◌, ◌^◌, Bool, true, ◌&&◌, nat_le, List}
use Rattle.atomic_table.specs.Seated.{TableId}
use Rattle.atomic_table.specs.declared.badge.Badge.{Badge}
use Rattle.crossbeam_channel.specs.declared.flavors.array.Doing.{Doing}
use Rattle.crossbeam_channel.specs.declared.flavors.array.Key.{Key}
use Rattle.crossbeam_channel.specs.declared.flavors.array.Rows.{Rows}
use Rattle.crossbeam_channel.specs.Claims.{Pass, view}
use Rattle.subscriber_ring.specs.Order.{Delivered}
use Rattle.subscriber_ring.specs.Rule.{Hand}
use Rattle.subscriber_ring.specs.declared.fault.OfferFault.{OfferFault}
use Rattle.subscriber_ring.specs.declared.fault.OfferFault.TheVariants.{Full, Gone}

-- what tells one ring from another
abbrev pub RingName : Type 0
RingName = TableId × Badge (Key Delivered)

-- the ring, the position of its first item, how many items it holds, and all that was offered; how often an offer was answered
-- that it is full, modulo 2^64, and whether one was answered that its subscription is gone
pub record Feed : Type 0 where
  pub ring : RingName
  pub first : ℕ
  pub capacity : ℕ
  pub offered : List Delivered
  pub times_full : ℕ
  pub gone : Bool

-- the ring, the position of its first item, and all that was taken
pub record Taken : Type 0 where
  pub ring : RingName
  pub first : ℕ
  pub taken : List Delivered

abbrev pub is_capacity : ℕ → Bool
is_capacity n = nat_le 1 n && nat_le n 65536

abbrev pub given_back : OfferFault → Delivered
given_back (Full d) = d
given_back (Gone d) = d

abbrev pub IsFullRing : OfferFault → Type 0
IsFullRing (Full d) = Unit {0}
IsFullRing (Gone d) = ⊥

-- the feeder after an offer was answered that the ring is full, or that its subscription is gone
abbrev pub found_full : Feed → Feed
found_full feed = record feed { times_full = (feed.times_full + 1) % 2 ^ 64 }

abbrev pub found_gone : Feed → Feed
found_gone feed = record feed { gone = true }

abbrev pub refused_by : OfferFault → Feed → Feed
refused_by (Full d) feed = found_full feed
refused_by (Gone d) feed = found_gone feed

abbrev pub name_of : {Q M L A : Type 0} → Rows (Badge (Key Delivered)) (Doing Delivered Hand) Q M (Key Delivered) L A → RingName
name_of channel = (channel.stamps.shared.table_id, channel.stamps.shared.key)

-- what an end's pass knows
abbrev pub known : Pass Delivered Hand → Hand
known p = view p

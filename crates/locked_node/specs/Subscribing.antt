-- A new ring of a node, and why there is none.
use Rattle.std.specs.Prelude.{◌≡◌, ℕ, ◌<◌, true, false, cond, nat_lt, []}
use Rattle.subscriber_ring.specs.Ends.{RingName, is_capacity}
use Rattle.subscriber_ring.specs.declared.fault.RingFault.{RingFault}
use Rattle.subscriber_ring.specs.declared.fault.RingFault.TheVariants as rings
use Rattle.locked_node.specs.declared.subscription.SubscribeFault.{SubscribeFault}
use Rattle.locked_node.specs.declared.subscription.SubscribeFault.TheVariants.{FromAhead, OutOfMemory, BadCapacity}
use Rattle.locked_node.specs.declared.feeding.Fed.{Fed}
use Rattle.locked_node.specs.declared.feeding.Stop.TheVariants.{Unoffered}

abbrev pub of_ring : RingFault → SubscribeFault
of_ring rings.BadCapacity = BadCapacity
of_ring rings.OutOfMemory = OutOfMemory

-- the first cause, by how many items are delivered
abbrev pub subscribe_fault : ℕ → ℕ → ℕ → SubscribeFault
subscribe_fault delivered from capacity = cond (nat_lt delivered from) (FromAhead delivered) (cond (is_capacity capacity) OutOfMemory BadCapacity)

-- what each says by itself; the number of delivered items is its own
abbrev pub IsSubscribeFault : SubscribeFault → ℕ → ℕ → Type 0
IsSubscribeFault (FromAhead delivered) from capacity = delivered < from
IsSubscribeFault BadCapacity from capacity = is_capacity capacity ≡ false
IsSubscribeFault OutOfMemory from capacity = is_capacity capacity ≡ true

abbrev pub fault_number : SubscribeFault → ℕ
fault_number (FromAhead delivered) = 1
fault_number OutOfMemory = 2
fault_number BadCapacity = 3

-- a ring to which nothing was offered
abbrev pub new_ring : RingName → ℕ → ℕ → Fed
new_ring name from capacity = record {
  feeder = record { ring = name; first = from; capacity = capacity; offered = []; times_full = 0; gone = false };
  place = record { height = 0; index = from };
  stopped = Unoffered;
}

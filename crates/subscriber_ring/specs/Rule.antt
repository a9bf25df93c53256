-- What stands in a ring, and what its two ends know of it.
use Rattle.std.specs.Prelude.{◌≡◌, ℕ, Bool, true, false, List, [], ◌∷◌, ◌++◌}
use mathlib.Core.Option.{some}
use lib.ListN.{get_elem?}
use Rattle.subscriber_ring.specs.Order.{Delivered, IsInOrder}
pub use Rattle.subscriber_ring.specs.declared.rule.Hand.{Hand}

abbrev pub hand : Bool → Bool → ℕ → List Delivered → List Delivered → Hand
hand offers takes first offered taken = record { offers = offers; takes = takes; first = first; offered = offered; taken = taken }

-- who offers knows what was offered, and who takes what was taken
abbrev pub offering : ℕ → List Delivered → Hand
offering first offered = hand true false first offered []

abbrev pub taking : ℕ → List Delivered → Hand
taking first taken = hand false true first [] taken

-- one offered item more, one taken item more
abbrev pub with_offered : Hand → Delivered → Hand
with_offered v d = hand v.offers v.takes v.first (v.offered ++ d ∷ []) v.taken

abbrev pub with_taken : Hand → Delivered → Hand
with_taken v d = hand v.offers v.takes v.first v.offered (v.taken ++ d ∷ [])

-- both ends together, and what then is left of the other pass
abbrev pub both_ends : Hand → Hand → Hand
both_ends v w = hand true true v.first v.offered w.taken

abbrev pub idle : Hand
idle = hand false false 0 [] []

-- these are the last of what was offered
abbrev pub EndsWith : List Delivered → List Delivered → Type 0
EndsWith offered queued = (taken : List Delivered) × (offered ≡ taken ++ queued)

abbrev pub BeginsWith : List Delivered → List Delivered → Type 0
BeginsWith offered taken = (queued : List Delivered) × (offered ≡ taken ++ queued)

-- of one hand that offers and takes: these are what is not taken yet
abbrev pub LiesBetween : Hand → List Delivered → Type 0
LiesBetween v queued = v.offered ≡ v.taken ++ queued

-- what a take tells: the item follows those taken
abbrev pub Took : Hand → Delivered → Hand → Type 0
Took v d w = (w ≡ with_taken v d) × IsInOrder v.first (v.taken ++ d ∷ [])

-- the hand at this place is the one that offers, the one that takes, or neither
abbrev pub Fits : ℕ → ℕ → ℕ → List Delivered → List Delivered → ℕ → Hand → Type 0
Fits feeder reader first offered taken place v =
    (v.offers ≡ true → (place ≡ feeder) × (v.first ≡ first) × (v.offered ≡ offered)) × (v.takes ≡ true → (place ≡ reader) × (v.first ≡ first) × (v.taken ≡ taken))

-- What was taken followed by what is queued is what was offered, in order.
pub record Rule (queued : List Delivered) (hands : List Hand) : Type 0 where
  pub feeder : ℕ
  pub reader : ℕ
  pub first : ℕ
  pub offered : List Delivered
  pub taken : List Delivered
  pub whole : offered ≡ taken ++ queued
  pub order : IsInOrder first offered
  pub fits : (place : ℕ) (v : Hand) → get_elem? hands place ≡ some v → Fits feeder reader first offered taken place v

abbrev pub Relayed : List Delivered → List Hand → Type 0
Relayed queued hands = Rule queued hands

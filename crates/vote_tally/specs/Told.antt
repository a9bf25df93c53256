-- What a tally knows of its kept messages beside their lists.
use Rattle.std.specs.Prelude.{◌≡◌, ℕ, ◌+◌, ◌<◌, ◌≤◌, ◌==◌, ◌↔◌, min, count_by, Bool, true, cond, List, [], Option, Some, None, IfSome, slice_index_or, Vec, vec_len, vec_capacity}
use Rattle.std.specs.List.{list_all, IsDistinct}
use Rattle.std.specs.BTreeMap.{BTreeMap}
use Rattle.powers.specs.Power.{is_weak, is_quorum}
use Rattle.protocol.specs.Values.{Id}
use Rattle.protocol.specs.Messages.{◌∈◌, Proposal, Vote}
use Rattle.protocol.specs.declared.types.Step.TheVariants.{Precommit}
use Rattle.protocol.specs.Tally.{power_above, power_for}
use Rattle.vote_tally.specs.declared.heights.Heights.{Heights}
use Rattle.vote_tally.specs.declared.heights.Heights.TheVariants.{Nothing, One, Several}
use Rattle.vote_tally.specs.declared.totals.Topic.{Topic}
use Rattle.vote_tally.specs.declared.totals.Total.{Total}
use Rattle.vote_tally.specs.declared.room.Ready.{Ready}
use Rattle.vote_tally.specs.declared.room.Ready.TheVariants.{Vote as ForVote, Proposal as ForProposal}
use Rattle.vote_tally.specs.Totals.{has, IsSmall, AreTotals, HasRoomForVote, HasRoomForProposal, speaks, total_at}

-- how many messages validator i sent
abbrev pub sent : List Proposal → List Vote → ℕ → ℕ
sent qs vs i = count_by (λ (q : Proposal). q.sender == i) qs + count_by (λ (v : Vote). v.sender == i) vs

abbrev pub with_height : Heights → ℕ → Heights
with_height Nothing h = One h
with_height (One only) h = cond (only == h) (One only) Several
with_height Several h = Several

-- the votes' heights
abbrev pub AreHeights : Heights → List Vote → Type 0
AreHeights Nothing vs = vs ≡ []
AreHeights (One h) vs = list_all (λ (v : Vote). v.height == h) vs ≡ true
AreHeights Several vs = Unit {0}

-- the best is no lower than the number
abbrev pub Reaches : Option ℕ → ℕ → Type 0
Reaches None r = ⊥
Reaches (Some best) r = r ≤ best

-- of all numbers that pass the highest
pub record IsHighest (test : ℕ → Bool) (best : Option ℕ) : Type 0 where
  pub each : (r : ℕ) → test r ≡ true → Reaches best r
  pub one : IfSome best (λ r. test r ≡ true)

pub record IsTold (powers : List ℕ) (qs : List Proposal) (vs : List Vote) (known : BTreeMap Topic Total) (counted : List ℕ) (those : Heights) (best : Option ℕ) : Type 0 where
  pub small : IsSmall powers
  pub totals : AreTotals powers known
  pub voters : (t : Topic) (i : ℕ) → i < 128 → has (total_at known t).voters i ≡ speaks qs vs t i
  pub counts : (i : ℕ) → i < 128 → slice_index_or counted i 0 ≡ min (sent qs vs i) 65535
  pub heights : AreHeights those vs
  pub highest : IsHighest (λ r. is_weak powers (power_above powers qs vs r)) best

-- all rounds in which a quorum precommitted one id, each once
pub record AreDecisive (powers : List ℕ) (vs : List Vote) (rounds : List ℕ) : Type 0 where
  pub each : (r : ℕ) → (r ∈ rounds) ↔ ((x : Id) × (is_quorum powers (power_for powers vs r Precommit (Some x)) ≡ true))
  pub once : IsDistinct (λ a b. a == b) rounds

abbrev pub HasSpace : {X Z : Type 0} → Vec X Z → Type 0
HasSpace list = vec_len list < vec_capacity list

-- there is room for what it is said for
abbrev pub HasRoomFor : {Z : Type 0} → Option Ready → BTreeMap Topic Total → Vec Vote Z → Vec ℕ Z → Vec Proposal Z → Type 0
HasRoomFor None totals votes rounds proposals = Unit {0}
HasRoomFor (Some (ForVote v)) totals votes rounds proposals = HasRoomForVote totals v × HasSpace votes × HasSpace rounds
HasRoomFor (Some (ForProposal r)) totals votes rounds proposals = HasRoomForProposal totals r × HasSpace proposals

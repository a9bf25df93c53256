-- What is watched of a validator's edge, and of how soon transactions are delivered.
use Rattle.std.specs.Prelude.{◌≡◌, ℕ, ◌+◌, ◌*◌, ◌^◌, ◌-◌, ◌==◌, ◌&&◌, Bool, true, false, if◌then◌else◌, nat_lt, nat_le, min, Option}
use Rattle.std.specs.Ordering.{nat_cmp}
use Rattle.std.specs.BTreeMap as tree
use Rattle.std.specs.BTreeMap.{BTreeMap}
use Rattle.cluster_checks.specs.declared.kinds.Kind.{Kind}
use Rattle.cluster_checks.specs.declared.kinds.Kind.TheVariants.{Proposal, Prevote, Precommit}
use Rattle.cluster_checks.specs.declared.kinds.Heading.{Heading}
use Rattle.cluster_checks.specs.declared.pace.Pace.{Pace}

-- the frame that is noted of a link
abbrev pub early_of : BTreeMap ℕ Heading → ℕ → Option Heading
early_of first link = tree.get nat_cmp first link

-- what is noted of other links stays
abbrev pub KeepsOtherLinks : ℕ → BTreeMap ℕ Heading → BTreeMap ℕ Heading → Type 0
KeepsOtherLinks link before after = (other : ℕ) → ¬ (other ≡ link) → early_of after other ≡ early_of before other

abbrev pub is_proposal : Kind → Bool
is_proposal Proposal = true
is_proposal _ = false

-- whether it is a proposal or a vote
abbrev pub is_of_round : Kind → Bool
is_of_round Proposal = true
is_of_round Prevote = true
is_of_round Precommit = true
is_of_round _ = false

-- whether a frame is a proposal or a vote of this validator
abbrev pub is_own : ℕ → Heading → Bool
is_own number heading = is_of_round heading.kind && (heading.sender == number)

-- whether a frame is a proposal of this validator, of a height more than one below this one
abbrev pub is_outdated : ℕ → ℕ → Heading → Bool
is_outdated number height heading = is_proposal heading.kind && ((heading.sender == number) && nat_lt (heading.height + 1) height)

-- one more transaction, late or not
abbrev pub counted : Bool → Pace → Pace
counted is_late pace = record { looked_at = min (pace.looked_at + 1) (2 ^ 64 - 1); late = min (pace.late + (if is_late then 1 else 0)) (2 ^ 64 - 1) }

-- of sixty-four or more, more than half were late
abbrev pub is_slow : Pace → Bool
is_slow pace = nat_le 64 pace.looked_at && nat_lt pace.looked_at (2 * pace.late)

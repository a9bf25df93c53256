-- Why two rounds of a height can't decide differently, over votes alone.
use Rattle.std.specs.Prelude.{◌≡◌, ℕ, ◌<◌, ◌≤◌, Bool, true, false, Option, Some, None, ◌⊎◌, List, [], ◌∷◌, length}
use Rattle.powers.specs.Power.{IsQuorum, FewLie}
use Rattle.protocol.specs.Values.{Id}
use Rattle.protocol.specs.declared.types.Step.{Step}
use Rattle.protocol.specs.declared.types.Step.TheVariants.{Propose, Prevote, Precommit}
use Rattle.protocol.specs.Messages.{◌∈◌}
use Rattle.protocol.specs.Laws.{place}

-- for a value, by its id, or for nil
pub record Cast : Type 0 where
  pub step : Step
  pub round : ℕ
  pub content : Option Id

abbrev pub cast : Step → ℕ → Id → Cast
cast step round x = record { step = step; round = round; content = Some x }

-- what each validator voted in one height, the newest first
pub record Votes : Type 0 where
  pub powers : List ℕ
  pub liars : ℕ → Bool
  pub by : ℕ → List Cast

-- some quorum, each correct member of which voted for the value in this step of the round
pub record QuorumFor (votes : Votes) (step : Step) (round : ℕ) (x : Id) : Type 0 where
  pub members : ℕ → Bool
  pub enough : IsQuorum votes.powers members
  pub voted : (i : ℕ) → i < length votes.powers → members i ≡ true → votes.liars i ≡ false → cast step round x ∈ votes.by i

-- what a vote makes of the lock before it: a precommit for a value locks it
abbrev pub locking : Step → ℕ → Option Id → Option (ℕ × Id) → Option (ℕ × Id)
locking Precommit round (Some x) before = Some (round, x)
locking Precommit round None before = before
locking Prevote round content before = before
locking Propose round content before = before

-- the lock: the round and the value of the last precommit for a value
abbrev pub lock : List Cast → Option (ℕ × Id)
lock [] = None
lock (v ∷ earlier) = locking v.step v.round v.content (lock earlier)

-- it is none, or on this value
abbrev pub IsFree : Option (ℕ × Id) → Id → Type 0
IsFree None x = Unit {0}
IsFree (Some locked) x = locked.1 ≡ x

-- it is none, on this value, or from a round up to this one
abbrev pub IsOlder : Option (ℕ × Id) → Id → ℕ → Type 0
IsOlder None x round = Unit {0}
IsOlder (Some locked) x round = (locked.1 ≡ x) ⊎ (locked.0 ≤ round)

-- a quorum of prevotes for the value in an earlier round, which isn't older than the lock
pub record Unlocks (votes : Votes) (round : ℕ) (x : Id) (locked : Option (ℕ × Id)) : Type 0 where
  pub earlier : ℕ
  pub before : earlier < round
  pub quorum : QuorumFor votes Prevote earlier x
  pub allowed : IsOlder locked x earlier

-- A prevote for a value is free to be cast under the lock, or is allowed by an earlier quorum; a precommit for one follows a quorum of prevotes for it in its round; one for nil needs nothing.
abbrev pub HasReason : Votes → Step → ℕ → Option Id → List Cast → Type 0
HasReason votes Prevote round (Some x) earlier = IsFree (lock earlier) x ⊎ Unlocks votes round x (lock earlier)
HasReason votes Precommit round (Some x) earlier = QuorumFor votes Prevote round x
HasReason votes _ round content earlier = Unit {0}

-- the vote is in the list, after these earlier ones
abbrev pub ComesAfter : List Cast → Cast → List Cast → Type 0
ComesAfter [] v earlier = ⊥
ComesAfter (w ∷ rest) v earlier = ((w ≡ v) × (rest ≡ earlier)) ⊎ ComesAfter rest v earlier

-- each vote comes in a later step than those before it, and has its reason
pub record IsInOrder (votes : Votes) (v : Cast) (earlier : List Cast) : Type 0 where
  pub later : (w : Cast) → w ∈ earlier → place w.step w.round < place v.step v.round
  pub reason : HasReason votes v.step v.round v.content earlier

-- correct validators vote so
abbrev pub AreLawful : Votes → Type 0
AreLawful votes = (i : ℕ) → i < length votes.powers → votes.liars i ≡ false → (v : Cast) (earlier : List Cast) → ComesAfter (votes.by i) v earlier → IsInOrder votes v earlier

-- Where a quorum precommitted x in a round, no later round has a quorum of prevotes for another value.
abbrev pub LocksLaw : Type 0
LocksLaw = (votes : Votes) → FewLie votes.powers votes.liars → AreLawful votes → (round later : ℕ) (x y : Id) → round < later
    → QuorumFor votes Precommit round x → QuorumFor votes Prevote later y → x ≡ y

-- Two quorums of precommits are for one value, whatever their rounds.
abbrev pub OneDecisionLaw : Type 0
OneDecisionLaw = (votes : Votes) → FewLie votes.powers votes.liars → AreLawful votes → (round other : ℕ) (x y : Id)
    → QuorumFor votes Precommit round x → QuorumFor votes Precommit other y → x ≡ y

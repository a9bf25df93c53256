-- What holds of a validator's variables in every run, and is kept from event to event.
use Rattle.std.specs.Prelude.{◌≡◌, ℕ, ◌≤◌, ◌⊎◌, Bool, true, false, Option, Some, None, List}
use Rattle.messages.specs.Grammar.{body_spelling}
use Rattle.protocol.specs.Values.{Id}
use Rattle.protocol.specs.Tags.{Setting, Validator, right}
use Rattle.protocol.specs.Messages.{◌∈◌, Step, Precommit, step_of_vote, Vote, OfVote, precommit, Record}
use Rattle.protocol.specs.State.{State, Stamp}
use Rattle.protocol.specs.Rules.{is_stamp}
use Rattle.protocol.specs.Restart.{height_of, delivered_of, lock_of, last_place}
use Rattle.protocol.specs.Laws.{place, Grows}

-- ---- height, delivered list, lock and place are as the journal tells

-- the last own message is at most where the state is, and there is none where no round has begun
abbrev pub IsReached : Bool → Option (ℕ × Step) → ℕ → Step → Type 0
IsReached false last round step = last ≡ None
IsReached true None round step = Unit {0}
IsReached true (Some last) round step = place last.1 last.0 ≤ place step round

pub record Tied (s : State) (j : List Record) : Type 0 where
  pub height : s.height ≡ height_of j
  pub delivered : s.delivered ≡ delivered_of j
  pub lock : s.lock ≡ lock_of j
  pub grows : Grows j
  pub last : IsReached s.begun (last_place j) s.round s.step

-- ---- the kept precommits from outside have their tags, and these are right

-- what is tagged of validator i's precommit for an id
abbrev pub precommit_text : ℕ → ℕ → Id → ℕ → List ℕ
precommit_text height round x i = body_spelling (OfVote (precommit height round i (Some x)))

-- a stamp of this round, id and sender
pub record StampFound (stamps : List Stamp) (r : ℕ) (x : Id) (i : ℕ) : Type 0 where
  pub stamp : Stamp
  pub there : stamp ∈ stamps
  pub is : is_stamp r x i stamp ≡ true

abbrev pub Stamped : ℕ → List Vote → List Stamp → Type 0
Stamped p votes stamps = (v : Vote) (x : Id) → v ∈ votes → step_of_vote v.step ≡ Precommit → v.content ≡ Some x → (v.sender ≡ p) ⊎ StampFound stamps v.round x v.sender

abbrev pub IsRight : Setting → ℕ → ℕ → Stamp → Type 0
IsRight c p height z = right c p (Validator z.signed.sender) (precommit_text height z.round z.id z.signed.sender) z.signed.tags ≡ true

pub record KeepsStamps (c : Setting) (p height : ℕ) (votes : List Vote) (stamps : List Stamp) : Type 0 where
  pub stamped : Stamped p votes stamps
  pub rights : (z : Stamp) → z ∈ stamps → IsRight c p height z

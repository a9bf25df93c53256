-- What a node's calls answer beyond the refusals of bytes: a timeout that is due, and a call that isn't done.
use Rattle.std.specs.Prelude.{ℕ, Bool, cond, not, ◌&&◌, Option, Some, List, [], ◌∷◌, ◌==◌, nat_lt, option_map}
use Rattle.protocol.specs.Messages.{Precommit, step_eq}
use Rattle.protocol.specs.State.{State, Timeout}
use Rattle.protocol.specs.Refusals.{Refusal, RoundLimit, Cause, ◌↪◌, first_cause, refusal_number}

-- ---- a timeout that is due

-- the precommit timeout of the present height and round
abbrev pub ends_round : State → Timeout → Bool
ends_round s t = (t.height == s.height) && (t.round == s.round) && step_eq t.kind Precommit && s.begun

-- Rounds end at 1,000,000. A timeout that doesn't fit does nothing, and is no refusal.
abbrev pub timeout_causes : State → Timeout → List (Cause Refusal)
timeout_causes s t = ((ends_round s t && not (nat_lt s.round 1000000)) ↪ RoundLimit) ∷ []

abbrev pub timeout_answer : State → Timeout → Option Refusal
timeout_answer s t = first_cause (timeout_causes s t)

-- ---- a call that isn't done

pub data CallRefusal : Type 0 where
  Refused : Refusal → CallRefusal  -- and nothing has changed
  Halted : CallRefusal  -- an earlier call answered JournalFailed
  NoMemory : CallRefusal
  JournalFailed : CallRefusal  -- the store didn't save a record: the node halts

-- a number, and an inner one
abbrev pub call_number : CallRefusal → ℕ × ℕ
call_number (Refused r) = refusal_number r
call_number Halted = (15, 0)
call_number NoMemory = (16, 0)
call_number JournalFailed = (17, 0)

-- What is told where memory and the store serve: a node that halted does nothing more.
abbrev pub call_answer : Bool → Option Refusal → Option CallRefusal
call_answer halted refusal = cond halted (Some Halted) (option_map Refused refusal)

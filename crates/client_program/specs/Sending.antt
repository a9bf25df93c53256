-- What a client sends.
use Rattle.std.specs.Prelude.{◌≡◌, ◌⊎◌, ℕ, ◌≤◌, ◌^◌, Bool, true, false, ◌&&◌, ◌==◌, List, [], Option, Some, None, Result, Ok, Err}
use Rattle.authenticators.specs.Ring.{Ring, tags_of}
use Rattle.transactions.specs.declared.tx.Op.{Op}
use Rattle.messages.specs.Grammar.{body_spelling}
use Rattle.messages.specs.declared.body.Body.{Body}
use Rattle.messages.specs.declared.body.Body.TheVariants.{Tx}
use Rattle.messages.specs.declared.body.Message.{Message}
use Rattle.messages.specs.Framing.{SpellsFrame}
use Rattle.messages.specs.declared.replies.Reply.{Reply}
use Rattle.node_settings.specs.Words.{line_op}
use Rattle.node_settings.specs.declared.failure.Failure.{Failure}
use Rattle.node_settings.specs.declared.failure.Failure.TheVariants.{OutOfMemory, Line}

-- a transaction as a body, whose tags stand behind it
abbrev pub sent_tx : ℕ → ℕ → ℕ → Op → Body
sent_tx client session number op = Tx (record { client = client; session = session; number = number; op = op; tags = [] })

-- the body with its sender's tag for each validator
abbrev pub sent_message : Ring → Body → Message
sent_message ring body = record { body = body; tags = tags_of ring (body_spelling body) }

-- a frame is that of the transaction which a line tells, in this session and under this number
pub record IsFrameOfLine (ring : Ring) (client session number : ℕ) (line frame : List ℕ) : Type 0 where
  pub op : Op
  pub told : line_op line ≡ Ok op
  pub numbered : number ≤ 2 ^ 48
  pub spells : SpellsFrame frame (sent_message ring (sent_tx client session number op))

-- what is told of a line that gives no frame, unless memory runs out
abbrev pub IsOfLine : Failure → Type 0
IsOfLine failure = (failure ≡ OutOfMemory) ⊎ ((line : ℕ) × (failure ≡ Line line))

-- ---- what is told of many

-- the client's queue is full, which another moment may change
abbrev pub is_full : Reply → Bool
is_full reply = reply.code == 13 && reply.inner == 6

-- a failure before all else, and then whether a transaction was refused
abbrev pub told_status : Option Failure → Bool → Result ℕ Failure
told_status (Some failure) is_refused = Err failure
told_status None true = Ok 1
told_status None false = Ok 0

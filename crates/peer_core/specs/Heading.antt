-- What stands at the front of a frame.
use Rattle.std.specs.Prelude.{◌≡◌, ℕ, List, Bool, true, false, Result, Ok, Err, ◌==◌, ◌||◌, if◌then◌else◌}
use Rattle.transactions.specs.declared.fault.Fault.{Fault}
use Rattle.transactions.specs.declared.fault.Fault.TheVariants.{BadKind}
use Rattle.transactions.specs.Fields.{◌>>=◌, byte_at, number_at, Read}
use Rattle.messages.specs.declared.body.Step.{Step}
use Rattle.messages.specs.declared.body.Step.TheVariants as steps
use Rattle.messages.specs.declared.body.Body.{Body}
use Rattle.messages.specs.declared.body.Body.TheVariants as kinds
use Rattle.messages.specs.declared.body.Message.{Message}
use Rattle.messages.specs.Framing.{SpellsFrame}
use Rattle.peer_core.specs.declared.heading.Kind.{Kind}
use Rattle.peer_core.specs.declared.heading.Kind.TheVariants.{Proposal, Prevote, Precommit, Ask, Bundle}
use Rattle.peer_core.specs.declared.heading.Heading.{Heading}

-- ---- where it stands

abbrev pub kind_of : ℕ → Result Kind Fault
kind_of byte =
    if byte == 0x10 then Ok Proposal
    else if byte == 0x11 then Ok Prevote
    else if byte == 0x12 then Ok Precommit
    else if byte == 0x13 then Ok Ask
    else if byte == 0x14 then Ok Bundle
    else Err BadKind

-- behind the height stands the sender; of a proposal or a vote behind the round
unfoldable pub behind_round : List ℕ → Read ℕ
behind_round bytes = do
  round ← number_at 4 bytes
  number_at 2 round.1

abbrev pub sender_at : Kind → List ℕ → Read ℕ
sender_at Proposal bytes = behind_round bytes
sender_at Prevote bytes = behind_round bytes
sender_at Precommit bytes = behind_round bytes
sender_at Ask bytes = number_at 2 bytes
sender_at Bundle bytes = number_at 2 bytes

-- the kind, the height, and the sender
unfoldable pub heading_in : List ℕ → Result Heading Fault
heading_in content = do
  byte ← byte_at content
  kind ← kind_of byte.0
  height ← number_at 8 byte.1
  sender ← sender_at kind height.1
  Ok (record { kind = kind; height = height.0; sender = sender.0 })

-- behind the length
unfoldable pub heading_at : List ℕ → Result Heading Fault
heading_at frame = do
  length ← number_at 4 frame
  heading_in length.1

-- ---- what it says

abbrev pub vote_kind : Step → Kind
vote_kind steps.Prevote = Prevote
vote_kind steps.Precommit = Precommit

abbrev pub heading_of : Body → Result Heading Fault
heading_of (kinds.Tx tx) = Err BadKind
heading_of (kinds.Proposal p) = Ok (record { kind = Proposal; height = p.height; sender = p.sender })
heading_of (kinds.Vote v) = Ok (record { kind = vote_kind v.step; height = v.height; sender = v.sender })
heading_of (kinds.Ask a) = Ok (record { kind = Ask; height = a.height; sender = a.sender })
heading_of (kinds.Bundle b) = Ok (record { kind = Bundle; height = b.height; sender = b.sender })

-- whether the kind, which stands behind the length, is 01
abbrev pub is_of_client : Result (ℕ × List ℕ) Fault → Bool
is_of_client (Ok byte) = (byte.0 == 1) || (byte.0 == 2)
is_of_client (Err e) = false

abbrev pub is_transaction_at : Result (ℕ × List ℕ) Fault → Bool
is_transaction_at (Ok length) = is_of_client (byte_at length.1)
is_transaction_at (Err e) = false

abbrev pub is_transaction : Body → Bool
is_transaction (kinds.Tx tx) = true
is_transaction _ = false

-- what the frame of a message tells at its front is what the message says
abbrev pub HeadingsLaw : Type 0
HeadingsLaw = (frame : List ℕ) (m : Message) → SpellsFrame frame m
    → (heading_at frame ≡ heading_of m.body) × (is_transaction_at (number_at 4 frame) ≡ is_transaction m.body)

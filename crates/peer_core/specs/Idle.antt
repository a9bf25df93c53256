-- The proposals of no transactions, which may wait.
use Rattle.std.specs.Prelude.{◌≡◌, ℕ, Bool, true, false, ◌&&◌, ◌==◌, if◌then◌else◌, List, length, Result, Ok, Err, Option, Some, None}
use Rattle.std.specs.Result.{result_ok}
use Rattle.transactions.specs.declared.fault.Fault.{Fault}
use Rattle.transactions.specs.declared.fault.Fault.TheVariants.{BadKind}
use Rattle.transactions.specs.Fields.{◌>>=◌, byte_at, number_at}
use Rattle.messages.specs.declared.body.Body.{Body}
use Rattle.messages.specs.declared.body.Body.TheVariants as kinds
use Rattle.messages.specs.declared.body.Message.{Message}
use Rattle.messages.specs.Framing.{SpellsFrame}

-- ---- where it stands

abbrev pub given_if : Bool → ℕ → Result ℕ Fault
given_if true height = Ok height
given_if false height = Err BadKind

-- behind the kind: the height, where the round and the number of transactions are 0
unfoldable pub rest_in : List ℕ → Result ℕ Fault
rest_in bytes = do
  height ← number_at 8 bytes
  round ← number_at 4 height.1
  sender ← number_at 2 round.1
  valid_round ← number_at 4 sender.1
  count ← number_at 2 valid_round.1
  given_if (round.0 == 0 && count.0 == 0) height.0

unfoldable pub idle_in : List ℕ → Result ℕ Fault
idle_in content = do
  byte ← byte_at content
  if byte.0 == 0x10 then rest_in byte.1 else Err BadKind

-- behind the length
unfoldable pub idle_at : List ℕ → Result ℕ Fault
idle_at frame = do
  length ← number_at 4 frame
  idle_in length.1

-- ---- what it says

abbrev pub some_if : Bool → ℕ → Option ℕ
some_if true height = Some height
some_if false height = None

-- the height of a proposal of no transactions in round 0
abbrev pub idle_height : Body → Option ℕ
idle_height (kinds.Proposal p) = some_if (p.round == 0 && length p.value.txs == 0) p.height
idle_height _ = None

-- what the frame of a message tells of it is what the message says
abbrev pub IdleLaw : Type 0
IdleLaw = (frame : List ℕ) (m : Message) → SpellsFrame frame m → result_ok (idle_at frame) ≡ idle_height m.body

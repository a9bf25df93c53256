-- Frames that a height brings in which nothing happens.
use Rattle.std.specs.Prelude.{ℕ, nat_lt, Bool, true, false, ◌&&◌, ◌||◌, ◌==◌, not, if◌then◌else◌, List, Result, Ok, Err, Option, Some, None}
use Rattle.std.specs.Result.{result_ok}
use Rattle.transactions.specs.declared.fault.Fault.{Fault}
use Rattle.transactions.specs.Fields.{◌>>=◌, byte_at, number_at}
use Rattle.peer_core.specs.Idle.{idle_at}

-- behind the kind of a vote: the height, the round, the sender, and whether it is for a value
unfoldable pub value_in : List ℕ → Result Bool Fault
value_in bytes = do
  height ← number_at 8 bytes
  round ← number_at 4 height.1
  sender ← number_at 2 round.1
  content ← byte_at sender.1
  Ok ((round.0 == 0) && not (content.0 == 0))

unfoldable pub first_vote_in : List ℕ → Result Bool Fault
first_vote_in content = do
  byte ← byte_at content
  if (byte.0 == 0x11) || (byte.0 == 0x12) then value_in byte.1 else Ok false

-- behind the length
unfoldable pub first_vote_at : List ℕ → Result Bool Fault
first_vote_at frame = do
  length ← number_at 4 frame
  first_vote_in length.1

abbrev pub is_some : Option ℕ → Bool
is_some None = false
is_some (Some height) = true

abbrev pub is_yes : Result Bool Fault → Bool
is_yes (Ok answer) = answer
is_yes (Err fault) = false

-- a proposal of no transactions or a vote for a value, of round 0
abbrev pub is_quiet : List ℕ → Bool
is_quiet frame = is_some (result_ok (idle_at frame)) || is_yes (first_vote_at frame)

-- ---- proposals of transactions

-- behind the kind of a proposal: the number of its transactions
unfoldable pub count_in : List ℕ → Result ℕ Fault
count_in bytes = do
  height ← number_at 8 bytes
  round ← number_at 4 height.1
  sender ← number_at 2 round.1
  valid_round ← number_at 4 sender.1
  count ← number_at 2 valid_round.1
  Ok count.0

unfoldable pub proposed_in : List ℕ → Result ℕ Fault
proposed_in content = do
  byte ← byte_at content
  if byte.0 == 0x10 then count_in byte.1 else Ok 0

-- behind the length
unfoldable pub proposed_at : List ℕ → Result ℕ Fault
proposed_at frame = do
  length ← number_at 4 frame
  proposed_in length.1

abbrev pub are_some : Result ℕ Fault → Bool
are_some (Ok count) = nat_lt 0 count
are_some (Err fault) = false

-- a proposal of some transactions, of whatever round
abbrev pub has_transactions : List ℕ → Bool
has_transactions frame = are_some (proposed_at frame)

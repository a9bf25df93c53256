-- The prevotes that a message rests on.
use Rattle.std.specs.Prelude.{ℕ, ◌-◌, Bool, true, false, ◌&&◌, ◌||◌, ◌==◌, not, if◌then◌else◌, List, Result, Ok, Err, Option, Some, None, nat_lt, is_none}
use Rattle.std.specs.Str.{bytes_eq}
use Rattle.transactions.specs.declared.fault.Fault.{Fault}
use Rattle.transactions.specs.Fields.{◌>>=◌, byte_at, number_at, bytes_at}
pub use Rattle.peer_core.specs.declared.grounds.Grounds.{Grounds}

-- a valid round, as a proposal has it: 0 for none, else one more than it
abbrev pub valid_round : ℕ → Option ℕ
valid_round number = if number == 0 then None else Some (number - 1)

-- behind the sender: the valid round of a proposal, or whether a vote is for a value
unfoldable pub rests_on : ℕ → ℕ → List ℕ → Result (Option ℕ) Fault
rests_on kind round bytes =
    if kind == 0x10 then (number_at 4 bytes >>= λ valid. Ok (valid_round valid.0))
    else if kind == 0x12 then (byte_at bytes >>= λ content. Ok (if content.0 == 0 then None else Some round))
    else Ok None

-- the kind, the height, the round and the sender, and what follows
unfoldable pub grounds_in : List ℕ → Result (Option ℕ) Fault
grounds_in content = do
  kind ← byte_at content
  height ← number_at 8 kind.1
  round ← number_at 4 height.1
  sender ← number_at 2 round.1
  rests_on kind.0 round.0 sender.1

-- behind the length
unfoldable pub grounds_at : List ℕ → Result (Option ℕ) Fault
grounds_at frame = do
  length ← number_at 4 frame
  grounds_in length.1

abbrev pub or_none : Result (Option ℕ) Fault → Option ℕ
or_none (Ok round) = round
or_none (Err fault) = None

-- the round of a precommit for a value, and the valid round of a proposal
abbrev pub grounds_of : List ℕ → Option ℕ
grounds_of frame = or_none (grounds_at frame)

unfoldable pub prevote_in : ℕ → List ℕ → Result Bool Fault
prevote_in wanted content = do
  kind ← byte_at content
  height ← number_at 8 kind.1
  round ← number_at 4 height.1
  sender ← number_at 2 round.1
  vote ← byte_at sender.1
  Ok ((kind.0 == 0x11) && (round.0 == wanted) && not (vote.0 == 0))

unfoldable pub prevote_at : ℕ → List ℕ → Result Bool Fault
prevote_at wanted frame = do
  length ← number_at 4 frame
  prevote_in wanted length.1

abbrev pub is_yes : Result Bool Fault → Bool
is_yes (Ok answer) = answer
is_yes (Err fault) = false

-- a prevote of this round, for a value
abbrev pub is_prevote_of : List ℕ → ℕ → Bool
is_prevote_of frame wanted = is_yes (prevote_at wanted frame)

-- a vote's value, which stands behind a byte that isn't 0
unfoldable pub named_by : ℕ → List ℕ → Result (Option (List ℕ)) Fault
named_by kind bytes =
    if (kind == 0x11) || (kind == 0x12)
    then (byte_at bytes >>= λ content. if content.0 == 0 then Ok None else (bytes_at 32 content.1 >>= λ value. Ok (Some value.0)))
    else Ok None

unfoldable pub value_in : List ℕ → Result (Option (List ℕ)) Fault
value_in content = do
  kind ← byte_at content
  height ← number_at 8 kind.1
  round ← number_at 4 height.1
  sender ← number_at 2 round.1
  named_by kind.0 sender.1

unfoldable pub value_at : List ℕ → Result (Option (List ℕ)) Fault
value_at frame = do
  length ← number_at 4 frame
  value_in length.1

abbrev pub value_or_none : Result (Option (List ℕ)) Fault → Option (List ℕ)
value_or_none (Ok value) = value
value_or_none (Err fault) = None

-- the digest that a vote for a value names
abbrev pub value_of : List ℕ → Option (List ℕ)
value_of frame = value_or_none (value_at frame)

-- Other grounds were known: they stay where they are of a higher round, or of this one and their value is known.
abbrev pub still_stands : ℕ → Grounds → Bool
still_stands round known = nat_lt round known.round || ((round == known.round) && not (is_none known.value))

abbrev pub newer : Option Grounds → Grounds → Grounds
newer None found = found
newer (Some known) found = if still_stands found.round known then known else found

abbrev pub after_round : Option Grounds → List ℕ → Option ℕ → Option Grounds
after_round known frame None = known
after_round known frame (Some round) = Some (newer known (record { round = round; value = value_of frame }))

-- what own messages rest on, with one more
abbrev pub after : Option Grounds → List ℕ → Option Grounds
after known frame = after_round known frame (grounds_of frame)

abbrev pub names : Option (List ℕ) → Option (List ℕ) → Bool
names wanted None = false
names None (Some value) = true
names (Some wanted) (Some value) = bytes_eq wanted value

-- a prevote of the round, for the value where it is known
abbrev pub includes : Grounds → List ℕ → Bool
includes grounds frame = is_prevote_of frame grounds.round && (is_none grounds.value || names grounds.value (value_of frame))

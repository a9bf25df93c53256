-- What reading a key file gives, told of the lines at their places in the file and not by their turn.
use Rattle.std.specs.Prelude.{◌≡◌, ◌≢◌, ℕ, ◌<◌, false, ◌⊎◌, ◌↔◌, List, slice_get, Some, Result, Ok, Err}
use Rattle.std.specs.List.{slice_split}
use Rattle.authenticators.specs.Lines.{key_line}
use Rattle.authenticators.specs.Ring.{Ring, incoming, outgoing}
use Rattle.authenticators.specs.Keys.{is_line_feed, is_skipped, is_mine, ring_of}
use Rattle.authenticators.specs.declared.party.Party.{Party}
use Rattle.authenticators.specs.declared.party.Party.TheVariants.{Validator}
use Rattle.authenticators.specs.declared.key_line.KeyLine.{KeyLine}
use Rattle.authenticators.specs.declared.fault.KeysFault.{KeysFault}
use Rattle.authenticators.specs.declared.fault.KeysFault.TheVariants.{BadLine, Missing, Repeated, OutOfMemory}

-- the lines of a text
abbrev pub lines_of : List ℕ → List (List ℕ)
lines_of text = slice_split is_line_feed text

-- line i of the file is this one, and it is neither empty nor a comment
abbrev pub Stands : List (List ℕ) → ℕ → List ℕ → Type 0
Stands file i line = (slice_get file i ≡ Some line) × (is_skipped line ≡ false)

-- and this is what it tells
abbrev pub Tells : List (List ℕ) → ℕ → KeyLine → Type 0
Tells file i told = (line : List ℕ) × Stands file i line × (key_line line ≡ Some told)

-- some line gives this key to what the party sends to the validator
abbrev pub HasKey : List (List ℕ) → Party → ℕ → List ℕ → Type 0
HasKey file from to key = (i : ℕ) × Tells file i (record { from = from; to = to; key = key })

-- ---- faults of a line

-- line i is no key line of known parties, of which I am one
abbrev pub IsBad : Party → ℕ → List (List ℕ) → ℕ → Type 0
IsBad me count file i = (line : List ℕ) × Stands file i line × ((told : KeyLine) → key_line line ≡ Some told → is_mine me count told ≡ false)

-- line i is about the sender and the receiver of an earlier one
abbrev pub IsRepeat : List (List ℕ) → ℕ → Type 0
IsRepeat file i = (j : ℕ) × (j < i) × (earlier later : KeyLine) × Tells file j earlier × Tells file i later × (earlier.from ≡ later.from) × (earlier.to ≡ later.to)

-- line i has neither fault
abbrev pub IsRight : Party → ℕ → List (List ℕ) → ℕ → Type 0
IsRight me count file i = (IsBad me count file i → ⊥) × (IsRepeat file i → ⊥)

-- each line before line i is right
abbrev pub AreRightBelow : Party → ℕ → List (List ℕ) → ℕ → Type 0
AreRightBelow me count file i = (j : ℕ) → j < i → IsRight me count file j

-- every line is
abbrev pub AreRight : Party → ℕ → List (List ℕ) → Type 0
AreRight me count file = (i : ℕ) → IsRight me count file i

-- ---- keys that have to be there

-- the keys of what I send to each validator, and of what each validator sends to me
abbrev pub IsWanted : Party → ℕ → Party → ℕ → Type 0
IsWanted me count from to = ((from ≡ me) × (to < count)) ⊎ ((number : ℕ) × (number < count) × (from ≡ Validator number) × (me ≡ Validator to))

-- each of them has its line
abbrev pub IsComplete : Party → ℕ → List (List ℕ) → Type 0
IsComplete me count file = (from : Party) (to : ℕ) → IsWanted me count from to → (key : List ℕ) × HasKey file from to key

-- one of them has none
abbrev pub LacksOne : Party → ℕ → List (List ℕ) → Type 0
LacksOne me count file = (from : Party) × (to : ℕ) × IsWanted me count from to × ((key : List ℕ) → HasKey file from to key → ⊥)

-- ---- laws

-- The keys of a ring are just those of the file's lines about its party, and no two lines are about one pair.
pub record HoldsFile (me : Party) (count : ℕ) (file : List (List ℕ)) (ring : Ring) : Type 0 where
  pub mine : ring.me ≡ me
  pub of_all : ring.count ≡ count
  pub sent : (to : ℕ) (key : List ℕ) → (outgoing ring to ≡ Some key) ↔ HasKey file me to key
  pub received : (from : Party) (key : List ℕ) → (incoming ring from ≡ Some key) ↔ ((number : ℕ) × (me ≡ Validator number) × HasKey file from number key)
  pub once : (i : ℕ) → IsRepeat file i → ⊥

abbrev pub HeldLaw : Type 0
HeldLaw = (me : Party) (count : ℕ) (text : List ℕ) (ring : Ring) → ring_of me count text ≡ Ok ring → HoldsFile me count (lines_of text) ring

-- A ring is read exactly where no line has a fault and no wanted key is absent.
abbrev pub GivenLaw : Type 0
GivenLaw = (me : Party) (count : ℕ) (text : List ℕ) →
    ((ring : Ring) × (ring_of me count text ≡ Ok ring)) ↔ (AreRight me count (lines_of text) × IsComplete me count (lines_of text))

-- Otherwise the first line with a fault tells which it is, and a key is missing only where no line has one.
abbrev pub FaultLaw : Type 0
FaultLaw = (me : Party) (count : ℕ) (text : List ℕ) →
    let file : List (List ℕ) = lines_of text in
    let answer : Result Ring KeysFault = ring_of me count text in
    ((answer ≡ Err BadLine) ↔ ((i : ℕ) × AreRightBelow me count file i × IsBad me count file i))
    × ((answer ≡ Err Repeated) ↔ ((i : ℕ) × AreRightBelow me count file i × IsRepeat file i))
    × ((answer ≡ Err Missing) ↔ (AreRight me count file × LacksOne me count file))
    × (answer ≢ Err OutOfMemory)

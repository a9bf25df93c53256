-- The one spelling of each record, which records have one, and which bytes are a journal.
use Rattle.std.specs.Prelude.{◌≡◌, ℕ, ◌&&◌, Bool, true, List, [], ◌∷◌, ◌++◌, length, Some, None, Result, Ok, Err, nat_lt}
use Rattle.std.specs.List.{flat_map}
use Rattle.transactions.specs.Fields.{number_bytes}
use Rattle.transactions.specs.Grammar.{value_spelling, IsValue}
use Rattle.messages.specs.Grammar.{body_spelling, IsBody, IsBundle}
use Rattle.protocol.specs.Values.{id}
use Rattle.protocol.specs.Messages.{Signed, Bundle, OfBundle, Act, Proposing, Prevoting, Precommitting, Record, Own, Decided, body_of}
use Rattle.protocol.specs.declared.records.Record.{Record as Held}
use Rattle.vote_journal.specs.declared.fault.JournalFault.{JournalFault}
use Rattle.vote_journal.specs.declared.fault.JournalFault.TheVariants.{Failed, OutOfMemory, BadRecord}
use Rattle.protocol.specs.Records.{record_of}

-- the ASCII text TMJ1
abbrev pub header : List ℕ
header = 0x54 ∷ 0x4d ∷ 0x4a ∷ 0x31 ∷ []

-- ---- spellings

-- the kind, the body, and the value that a precommit locks
abbrev pub act_spelling : List ℕ → Act → List ℕ
act_spelling body (Proposing valid_round value) = 1 ∷ body
act_spelling body (Prevoting content) = 1 ∷ body
act_spelling body (Precommitting None) = 1 ∷ body
act_spelling body (Precommitting (Some value)) = 2 ∷ (body ++ value_spelling value)

-- what stands behind a record's length
abbrev pub content_spelling : ℕ → Record → List ℕ
content_spelling me (Own height round act) = act_spelling (body_spelling (body_of me height round act)) act
content_spelling me (Decided bundle) = 3 ∷ body_spelling (OfBundle bundle)

-- a length, and that many bytes
unfoldable pub framed : List ℕ → List ℕ
framed content = number_bytes 4 (length content) ++ content

unfoldable pub record_spelling : ℕ → Record → List ℕ
record_spelling me r = framed (content_spelling me r)

-- the oldest first
abbrev pub records_spelling : ℕ → List Record → List ℕ
records_spelling me rs = flat_map (record_spelling me) rs

-- ---- what has a spelling

-- the value that a precommit locks has a spelling
abbrev pub HasLock : Act → Type 0
HasLock (Proposing valid_round value) = Unit {0}
HasLock (Prevoting content) = Unit {0}
HasLock (Precommitting None) = Unit {0}
HasLock (Precommitting (Some value)) = IsValue value

-- each sender is above the one before
abbrev pub is_rising : List Signed → Bool
is_rising [] = true
is_rising (p ∷ []) = true
is_rising (p ∷ q ∷ ps) = nat_lt p.sender q.sender && is_rising (q ∷ ps)

-- A decision of this validator's own journal: under its number, with its value's digest as id.
pub record IsDecision (me : ℕ) (b : Bundle) : Type 0 where
  pub fits : IsBundle b
  pub sender : b.sender ≡ me
  pub name : b.id ≡ id b.value
  pub order : is_rising b.precommits ≡ true

abbrev pub IsRecord : ℕ → Record → Type 0
IsRecord me (Own height round act) = IsBody (body_of me height round act) × HasLock act
IsRecord me (Decided bundle) = IsDecision me bundle

-- the content spells the record
pub record Spells (me : ℕ) (content : List ℕ) (r : Record) : Type 0 where
  pub lawful : IsRecord me r
  pub same : content ≡ content_spelling me r

-- ---- entries

-- a record, or the mark that the form with sessions has begun
pub data Entry : Type 0 where
  OfRecord : Record → Entry
  Mark : Entry

-- the kind, and the number of the form
abbrev pub mark_content : List ℕ
mark_content = 4 ∷ 0 ∷ 0 ∷ 0 ∷ 2 ∷ []

abbrev pub entry_content : ℕ → Entry → List ℕ
entry_content me (OfRecord r) = content_spelling me r
entry_content me Mark = mark_content

-- its nine bytes
abbrev pub mark : List ℕ
mark = 0 ∷ 0 ∷ 0 ∷ 5 ∷ mark_content

unfoldable pub entry_spelling : ℕ → Entry → List ℕ
entry_spelling me e = framed (entry_content me e)

-- the oldest first
abbrev pub entries_spelling : ℕ → List Entry → List ℕ
entries_spelling me es = flat_map (entry_spelling me) es

abbrev pub IsEntry : ℕ → Entry → Type 0
IsEntry me (OfRecord r) = IsRecord me r
IsEntry me Mark = Unit {0}

-- the content spells the entry
pub record SpellsEntry (me : ℕ) (content : List ℕ) (e : Entry) : Type 0 where
  pub lawful : IsEntry me e
  pub same : content ≡ entry_content me e

-- What is read is what is spelled, and what is refused spells nothing; or memory ran out.
abbrev pub IsReading : ℕ → List ℕ → Result Held JournalFault → Type 0
IsReading me content (Ok r) = Spells me content (record_of r)
IsReading me content (Err BadRecord) = (r : Record) → Spells me content r → ⊥
IsReading me content (Err OutOfMemory) = Unit {0}
IsReading me content (Err Failed) = ⊥

-- Which bytes are a journal of which records.
use Rattle.std.specs.Prelude.{◌≡◌, ◌⊎◌, ℕ, ◌<◌, ◌≤◌, List, [], ◌++◌, length, take, drop, true}
use Rattle.byteorder.specs.Endian.{big_number}
use Rattle.protocol.specs.Messages.{Record}
use Rattle.vote_journal.specs.declared.scanning.Front.{Front}
use Rattle.vote_journal.specs.declared.scanning.Front.TheVariants as fronts
use Rattle.vote_journal.specs.Grammar.{header, framed, Entry, entries_spelling}
use Rattle.vote_journal.specs.Order.{records_in, is_marked, AreInOrder}

-- as much as a record may have behind its length
abbrev pub IsContent : List ℕ → Type 0
IsContent content = (1 ≤ length content) × (length content ≤ 1100000)

-- less than a whole record: fewer bytes than a length has, or than a length within the limit says
abbrev pub IsTorn : List ℕ → Type 0
IsTorn rest = (length rest < 4) ⊎ ((1 ≤ big_number 4 rest) × (big_number 4 rest ≤ 1100000) × (length (drop 4 rest) < big_number 4 rest))

-- less than the header, which begins it
abbrev pub IsBegunHeader : List ℕ → Type 0
IsBegunHeader bytes = (k : ℕ) × (k < 4) × (bytes ≡ take k header)

-- behind a header: entries, the oldest first, whose records are these, and less than a whole one
pub record Splits (powers : List ℕ) (me : ℕ) (bytes : List ℕ) (rs : List Record) : Type 0 where
  pub entries : List Entry
  pub records : records_in entries ≡ rs
  pub rest : List ℕ
  pub whole : bytes ≡ entries_spelling me entries ++ rest
  pub lawful : AreInOrder powers me [] entries
  pub torn : IsTorn rest

-- The bytes are the journal of these records of validator me, or one that a stop cut short.
abbrev pub IsJournal : List ℕ → ℕ → List ℕ → List Record → Type 0
IsJournal powers me bytes rs = (IsBegunHeader bytes × (rs ≡ [])) ⊎ ((behind : List ℕ) × (bytes ≡ header ++ behind) × Splits powers me behind rs)

-- and none of it is cut short, and it has the mark
pub record IsWhole (powers : List ℕ) (me : ℕ) (bytes : List ℕ) (rs : List Record) : Type 0 where
  pub entries : List Entry
  pub records : records_in entries ≡ rs
  pub same : bytes ≡ header ++ entries_spelling me entries
  pub lawful : AreInOrder powers me [] entries
  pub marked : is_marked entries ≡ true

-- ---- what the reader finds

-- the record at the front, or that there is less than one, or a length that no record has
abbrev pub IsFront : List ℕ → Front → Type 0
IsFront bytes fronts.Torn = IsTorn bytes
IsFront bytes fronts.Bad = (4 ≤ length bytes) × (1 ≤ big_number 4 bytes → big_number 4 bytes ≤ 1100000 → ⊥)
IsFront bytes (fronts.Whole content after) = IsContent content.now × (bytes ≡ framed content.now ++ after.now)

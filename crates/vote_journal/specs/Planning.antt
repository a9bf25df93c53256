-- What the reader finds in a store's bytes, which come piece by piece, and what opening keeps of them.
use Rattle.std.specs.Prelude.{◌≡◌, ℕ, ◌+◌, ◌<◌, Bool, true, false, List, [], ◌++◌, length, reverse, Result, Ok, Err}
use Rattle.protocol.specs.Messages.{Record}
use Rattle.vote_journal.specs.declared.fault.JournalFault.{JournalFault}
use Rattle.vote_journal.specs.declared.fault.JournalFault.TheVariants.{Failed, OutOfMemory, BadRecord}
use Rattle.vote_journal.specs.declared.keeping.Kept.{Kept}
use Rattle.vote_journal.specs.declared.standing.Standing.{Standing}
use Rattle.vote_journal.specs.declared.opening.Plan.{Plan}
use Rattle.vote_journal.specs.declared.scanning.Scan.{Scan}
use Rattle.vote_journal.specs.declared.stages.Behind.{Behind}
use Rattle.vote_journal.specs.declared.stages.Reading.{Reading}
use Rattle.vote_journal.specs.declared.stages.Stage.{Stage}
use Rattle.vote_journal.specs.declared.stages.Stage.TheVariants as stages
use Rattle.vote_journal.specs.Grammar.{Entry, header, entries_spelling}
use Rattle.vote_journal.specs.Order.{is_marked, records_in, AreInOrder, Remembers}
use Rattle.vote_journal.specs.Layout.{IsBegunHeader, IsTorn, Splits, IsJournal}
use Rattle.vote_journal.specs.Kept.{Keeps}

-- what is kept is of these records
abbrev pub IsOf : List Record → Kept → Type 0
IsOf rs kept = Keeps rs kept.decisions.items kept.own.items

-- Of bytes behind a header, whole records are read, of which this is kept and remembered, and the rest is not.
pub record Read (powers : List ℕ) (me : ℕ) (bytes : List ℕ) (kept : Kept) (standing : Standing) (rest : List ℕ) : Type 0 where
  pub entries : List Entry
  pub whole : bytes ≡ entries_spelling me entries ++ rest
  pub lawful : AreInOrder powers me [] entries
  pub remembers : Remembers (reverse entries) standing
  pub keeps : IsOf (records_in entries) kept

-- why bytes behind a header are not read: no journal has them there, whatever follows; or memory was short
abbrev pub IsNotRead : List ℕ → ℕ → List ℕ → JournalFault → Type 0
IsNotRead powers me bytes BadRecord = (more : List ℕ) (rs : List Record) → Splits powers me (bytes ++ more) rs → ⊥
IsNotRead powers me bytes OutOfMemory = Unit {0}
IsNotRead powers me bytes Failed = ⊥

-- The last of the bytes behind a header are read: whole records, and less than one more, of this length.
abbrev pub IsScan : List ℕ → ℕ → List ℕ → List ℕ → Result Scan JournalFault → Type 0
IsScan powers me bytes last (Ok found) = (whole : List ℕ) × (rest : List ℕ) × (last ≡ whole ++ rest) × IsTorn rest × (length rest ≡ found.torn) × Read powers me bytes found.kept found.standing rest
IsScan powers me bytes last (Err e) = IsNotRead powers me bytes e

-- All of the bytes behind a header are read, but for less than a record, which is at hand; and so many are read with the header.
abbrev pub IsBehind : List ℕ → ℕ → List ℕ → Behind → Type 0
IsBehind powers me bytes b = IsTorn b.left.items × (b.read + length b.left.items ≡ 4 + length bytes) × Read powers me bytes b.kept b.standing b.left.items

abbrev pub GoesOn : List ℕ → ℕ → List ℕ → Result Behind JournalFault → Type 0
GoesOn powers me bytes (Ok b) = IsBehind powers me bytes b
GoesOn powers me bytes (Err e) = IsNotRead powers me bytes e

-- how far a store's bytes are read
abbrev pub IsStage : List ℕ → ℕ → List ℕ → Stage → Type 0
IsStage powers me bytes (stages.Front front) = (front.items ≡ bytes) × (length bytes < 4)
IsStage powers me bytes (stages.Records b) = (behind : List ℕ) × (bytes ≡ header ++ behind) × IsBehind powers me behind b

-- A store's bytes so far are read, or begin no journal, or memory was short.
abbrev pub Comes : List ℕ → ℕ → List ℕ → Result Stage JournalFault → Type 0
Comes powers me bytes (Ok stage) = IsStage powers me bytes stage
Comes powers me bytes (Err BadRecord) = (more : List ℕ) (rs : List Record) → IsJournal powers me (bytes ++ more) rs → ⊥
Comes powers me bytes (Err OutOfMemory) = Unit {0}
Comes powers me bytes (Err Failed) = ⊥

-- The one becomes the other by these bytes of its store.
abbrev pub Becomes : Reading → List ℕ → Reading → Type 0
Becomes start bytes now = (now.me ≡ start.me) × (now.powers.now ≡ start.powers.now) × Comes start.powers.now start.me bytes now.stage

-- Of bytes with this journal so many are kept: none where the header is missing, else those of the whole records.
abbrev pub PlanFor : Bool → Bool → List ℕ → ℕ → List ℕ → List Record → ℕ → Type 0
PlanFor true marked powers me bytes rs keep = IsBegunHeader bytes × (rs ≡ []) × (keep ≡ 0) × (marked ≡ false)
PlanFor false marked powers me bytes rs keep = (behind : List ℕ) × (bytes ≡ header ++ behind) × (s : Splits powers me behind rs) × (keep + length s.rest ≡ length bytes) × (is_marked s.entries ≡ marked)

abbrev pub IsPlan : List ℕ → ℕ → List ℕ → Result Plan JournalFault → Type 0
IsPlan powers me bytes (Ok p) = (rs : List Record) × PlanFor p.fresh p.marked powers me bytes rs p.keep × IsOf rs p.kept
IsPlan powers me bytes (Err BadRecord) = (rs : List Record) → IsJournal powers me bytes rs → ⊥
IsPlan powers me bytes (Err OutOfMemory) = Unit {0}
IsPlan powers me bytes (Err Failed) = ⊥

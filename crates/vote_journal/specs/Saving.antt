-- What saving and opening leave.
use Rattle.std.specs.Prelude.{◌≡◌, ◌⊎◌, ℕ, Bool, true, false, not, List, [], ◌∷◌, ◌++◌, take, reverse, Result, Ok, Err}
use Rattle.protocol.specs.Messages.{Record}
use Rattle.vote_journal.specs.declared.fault.JournalFault.{JournalFault}
use Rattle.vote_journal.specs.declared.fault.JournalFault.TheVariants.{Failed, OutOfMemory, BadRecord}
use Rattle.vote_journal.specs.Grammar.{header, mark, IsRecord}
use Rattle.vote_journal.specs.Order.{may_follow}
use Rattle.vote_journal.specs.Layout.{IsJournal, IsWhole}
use Rattle.vote_journal.specs.Store.{Shortened, Begun, Grew}

-- why a record is not saved: the device failed, and this holds; or memory was short, and that does
abbrev pub IsSaveFault : {T : Type 0} → Result T JournalFault → Type 0 → Type 0 → Type 0
IsSaveFault (Ok x) failed nothing = Unit {0}
IsSaveFault (Err Failed) failed nothing = failed
IsSaveFault (Err OutOfMemory) failed nothing = nothing
IsSaveFault (Err BadRecord) failed nothing = ⊥

-- how often the device failed, before a save and after it
abbrev pub CountsSave : {T : Type 0} → Result T JournalFault → ℕ → ℕ → Type 0
CountsSave (Ok x) before now = now ≡ before
CountsSave (Err Failed) before now = Grew before now
CountsSave (Err OutOfMemory) before now = now ≡ before
CountsSave (Err BadRecord) before now = ⊥

-- the bytes are a journal of these records, or of them and this one
abbrev pub IsBeforeOrAfter : List ℕ → ℕ → List ℕ → List Record → Record → Type 0
IsBeforeOrAfter powers me bytes rs r = IsJournal powers me bytes rs ⊎ IsJournal powers me bytes (rs ++ r ∷ [])

-- and so is whatever a stop leaves
abbrev pub LeavesBeforeOrAfter : List ℕ → ℕ → (List ℕ → Type 0) → List Record → Record → Type 0
LeavesBeforeOrAfter powers me outcomes rs r = (c : List ℕ) → outcomes c → IsBeforeOrAfter powers me c rs r

-- every journal that the one is, the other is too
abbrev pub KeepsRecords : List ℕ → ℕ → List ℕ → List ℕ → Type 0
KeepsRecords powers me old new = (rs : List Record) → IsJournal powers me old rs → IsJournal powers me new rs

-- one of what a stop might have left is a journal of these records
abbrev pub IsFoundIn : List ℕ → ℕ → (List ℕ → Type 0) → List Record → Type 0
IsFoundIn powers me outcomes rs = (d : List ℕ) × outcomes d × IsJournal powers me d rs

-- one of what a stop might have left is no journal
abbrev pub HasNoJournal : List ℕ → ℕ → (List ℕ → Type 0) → Type 0
HasNoJournal powers me outcomes = (d : List ℕ) × outcomes d × ((rs : List Record) → IsJournal powers me d rs → ⊥)

-- whatever a stop leaves has the records of something that it might have left before
abbrev pub KeepsEach : List ℕ → ℕ → (List ℕ → Type 0) → (List ℕ → Type 0) → Type 0
KeepsEach powers me old new = (c : List ℕ) → new c → (d : List ℕ) × old d × KeepsRecords powers me d c

-- The record may be saved behind any records that stand, whole, and then this holds of the powers and of those.
abbrev pub WhereSaved : ℕ → List ℕ → Record → (List ℕ → List Record → Type 0) → Type 0
WhereSaved me stood r P = (powers : List ℕ) (rs : List Record) → IsWhole powers me stood rs → IsRecord me r → may_follow powers (reverse rs) r ≡ true → P powers rs

-- bytes, where they are wanted
abbrev pub if_wanted : Bool → List ℕ → List ℕ
if_wanted true bytes = bytes
if_wanted false bytes = []

-- what is appended behind what is kept: the header and the mark, where each is missing
abbrev pub added : Bool → Bool → List ℕ
added fresh marked = if_wanted fresh header ++ if_wanted (not marked) mark

-- what opening may leave beside what stood: a shorter torn rest, or a beginning of what is appended
abbrev pub BegunOpening : ℕ → Bool → Bool → List ℕ → List ℕ → Type 0
BegunOpening keep fresh marked stood c = Shortened keep stood c ⊎ Begun (take keep stood) (added fresh marked) c

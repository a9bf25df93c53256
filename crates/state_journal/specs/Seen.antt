-- How callers see a node's journal.
use Rattle.std.specs.Prelude.{◌≡◌, ℕ, Bool, true, false, List, Option, Some, None}
use Rattle.vote_journal.specs.Store.{Begun}

-- a save that failed for the device: what had stood, and what it was adding
pub record Saving : Type 0 where
  pub stood : List ℕ
  pub added : List ℕ

-- the journal: the bytes that stand, whose it is, whether a save failed for the device and which, and how often the device failed
pub record JournalSeen : Type 0 where
  pub bytes : List ℕ
  pub me : ℕ
  pub failed : Bool
  pub broken : Option Saving
  pub failures : ℕ

-- what a stop may leave: what stands, or, once a save failed, a beginning of what that was adding behind what had stood
abbrev pub LeftOf : List ℕ → Option Saving → List ℕ → Type 0
LeftOf bytes None c = c ≡ bytes
LeftOf bytes (Some saving) c = Begun saving.stood saving.added c

-- a save, where the journal has failed
abbrev pub where_failed : Bool → Saving → Option Saving
where_failed false saving = None
where_failed true saving = Some saving

abbrev pub MayLeave : JournalSeen → List ℕ → Type 0
MayLeave journal c = LeftOf journal.bytes journal.broken c

-- The journal tells all that its store may leave; while it has not failed, no save has.
pub record TellsLeft (may_leave : List ℕ → Type 0) (journal : JournalSeen) : Type 0 where
  pub serves : journal.failed ≡ false → journal.broken ≡ None
  pub left : (c : List ℕ) → may_leave c → MayLeave journal c

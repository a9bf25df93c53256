-- What happens to a journal on a store from its first opening on, stops among it.
use Rattle.std.specs.Prelude.{◌≡◌, ◌≢◌, ◌⊎◌, ℕ, Bool, true, false, Option, Some, None, List, [], ◌∷◌, ◌++◌, map, reverse, Result, Ok, Err}
use Rattle.protocol.specs.Messages.{Record}
use Rattle.vote_journal.specs.declared.fault.JournalFault.{JournalFault}
use Rattle.vote_journal.specs.declared.fault.JournalFault.TheVariants.{Failed, OutOfMemory, BadRecord}
use Rattle.vote_journal.specs.Grammar.{IsRecord}
use Rattle.vote_journal.specs.Order.{may_follow}
use Rattle.vote_journal.specs.Layout.{IsWhole}
use Rattle.vote_journal.specs.Store.{Just, Only, NoMore}
use Rattle.vote_journal.specs.Saving.{LeavesBeforeOrAfter, IsFoundIn, HasNoJournal, KeepsEach, WhereSaved}

-- A call and how it ended. A stop within a call is that call failing half done, whatever it would have answered.
pub data Call : Type 0 where
  Opened : List Record → Call  -- an opening that found these records
  NotOpened : JournalFault → Call  -- one that was refused, or a stop within one
  Saved : Record → Call
  NotSaved : Record → Call  -- a save that found no memory
  Broken : Record → Call  -- one whose device failed, or a stop within one
  Left : Call  -- a stop between two calls, or a close

-- which of them a save of this record was, by its answer
abbrev pub save_of : {T : Type 0} → Record → Result T JournalFault → Call
save_of r (Ok saved) = Saved r
save_of r (Err Failed) = Broken r
save_of r (Err OutOfMemory) = NotSaved r
save_of r (Err BadRecord) = Broken r  -- no save answers this

-- ---- what the calls come to, the newest first, behind an opening that found the first records

abbrev pub is_open : List Call → Bool
is_open [] = true
is_open (Opened rs ∷ calls) = true
is_open (Saved r ∷ calls) = is_open calls
is_open (NotSaved r ∷ calls) = is_open calls
is_open (call ∷ calls) = false

-- the records of the last opening, and those saved since
abbrev pub known : List Record → List Call → List Record
known first [] = first
known first (Opened rs ∷ calls) = rs
known first (Saved r ∷ calls) = known first calls ++ r ∷ []
known first (call ∷ calls) = known first calls

-- the record that was being saved as the store failed or a stop came, since the last opening
abbrev pub doubtful : List Call → Option Record
doubtful [] = None
doubtful (Opened rs ∷ calls) = None
doubtful (Broken r ∷ calls) = Some r
doubtful (call ∷ calls) = doubtful calls

-- those, and at most the one more
abbrev pub IsKnown : List Record → List Call → List Record → Type 0
IsKnown first calls rs = (rs ≡ known first calls) ⊎ ((r : Record) × (doubtful calls ≡ Some r) × (rs ≡ known first calls ++ r ∷ []))

-- ---- a store after each call, the newest first

abbrev pub last_store : {S : Type 0} → S → List (Call × S) → S
last_store start [] = start
last_store start (entry ∷ history) = entry.1

abbrev pub calls_of : {S : Type 0} → List (Call × S) → List Call
calls_of history = map (λ entry. entry.0) history

-- ---- what each call says of the store before it and after it

module _ {S : Type 0} (seen : S → List ℕ) (may_leave : S → List ℕ → Type 0) (powers : List ℕ) (me : ℕ) where
  abbrev pub HasOpened : S → S → List Record → Type 0
  HasOpened old new rs = IsFoundIn powers me (may_leave old) rs × IsWhole powers me (seen new) rs × Only (seen new) (may_leave new)

  -- an open journal saves a record that it may
  abbrev pub MaySave : List Record → List Call → Record → Type 0
  MaySave first calls r = (is_open calls ≡ true) × IsRecord me r × (may_follow powers (reverse (known first calls)) r ≡ true)

  -- what a call does to its store
  abbrev pub Does : Call → S → S → Type 0
  Does (Opened rs) old new = HasOpened old new rs
  Does (NotOpened fault) old new = KeepsEach powers me (may_leave old) (may_leave new) × (fault ≡ BadRecord → HasNoJournal powers me (may_leave old))
  Does (Saved r) old new = WhereSaved me (seen old) r (λ powers rs. IsWhole powers me (seen new) (rs ++ r ∷ [])) × Only (seen new) (may_leave new)
  Does (NotSaved r) old new = (seen new ≡ seen old) × NoMore (may_leave old) (may_leave new)
  Does (Broken r) old new = WhereSaved me (seen old) r (λ powers rs. LeavesBeforeOrAfter powers me (may_leave new) rs r)
  Does Left old new = NoMore (may_leave old) (may_leave new)

  -- Reading took nothing but what a stop might have left, and a stop then leaves just that.
  pub record WasRead (old read : S) : Type 0 where
    pub before : Does Left old read
    pub stands : Just (seen read) (may_leave read)

  -- The store was read, and the call did this to what was read.
  pub record AsRead (call : Call) (old new : S) : Type 0 where
    pub read : S
    pub was : WasRead old read
    pub does : Does call read new

  -- An opening was refused: before all was read, and a stop leaves nothing more; or what was read was not opened.
  abbrev pub RefusesAsRead : JournalFault → S → S → Type 0
  RefusesAsRead fault old new = ((fault ≢ BadRecord) × Does Left old new) ⊎ AsRead (NotOpened fault) old new

  -- what a call wants of its caller
  abbrev pub IsAsked : List Record → List Call → Call → Type 0
  IsAsked first calls (Saved r) = MaySave first calls r
  IsAsked first calls (Broken r) = MaySave first calls r
  IsAsked first calls call = Unit {0}

  abbrev pub IsStep : List Record → List Call → Call → S → S → Type 0
  IsStep first calls call old new = IsAsked first calls call × Does call old new

  abbrev pub Happened : List Record → S → List (Call × S) → Type 0
  Happened first start [] = Unit {0}
  Happened first start (entry ∷ history) = Happened first start history × IsStep first (calls_of history) entry.0 (last_store start history) entry.1

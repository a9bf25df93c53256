-- What holds of every journal.
use Rattle.std.specs.Prelude.{◌≡◌, ◌⊎◌, ℕ, true, List, [], ◌∷◌, ◌++◌, take, reverse}
use Rattle.protocol.specs.Values.{id}
use Rattle.protocol.specs.Messages.{Bundle, Record, Own, Decided}
use Rattle.protocol.specs.Tags.{Setting}
use Rattle.protocol.specs.State.{Node}
use Rattle.protocol.specs.World.{Event, run, beginning}
use Rattle.protocol.specs.Lawful.{Tied, KeepsStamps}
use Rattle.vote_journal.specs.Grammar.{record_spelling, IsRecord, is_rising}
use Rattle.vote_journal.specs.Order.{may_follow}
use Rattle.vote_journal.specs.Layout.{IsTorn, IsJournal, IsWhole}
use Rattle.vote_journal.specs.Store.{Begun}
use Rattle.vote_journal.specs.declared.fault.JournalFault.TheVariants.{BadRecord}
use Rattle.vote_journal.specs.History.{Call, NotOpened, IsKnown, HasOpened, IsStep, Happened, last_store, calls_of}

-- each record, the newest first, may follow those before it
abbrev pub EachFollows : List ℕ → List Record → Type 0
EachFollows powers [] = Unit {0}
EachFollows powers (r ∷ rest) = (may_follow powers rest r ≡ true) × EachFollows powers rest

-- A decision as the record of one has to be, but for the ranges of its fields: under this validator's number, of its value's id, its precommits in order of sender, each once.
pub record IsMade (me : ℕ) (b : Bundle) : Type 0 where
  pub sender : b.sender ≡ me
  pub name : b.id ≡ id b.value
  pub order : is_rising b.precommits ≡ true

abbrev pub EachMade : ℕ → List Record → Type 0
EachMade me [] = Unit {0}
EachMade me (Own height round act ∷ rest) = EachMade me rest
EachMade me (Decided b ∷ rest) = IsMade me b × EachMade me rest

-- A validator's variables are as its journal tells, its kept precommits from outside have their tags, and each record may follow those before it.
pub record IsLawful (c : Setting) (p : ℕ) (n : Node) : Type 0 where
  pub tied : Tied n.state n.journal
  pub keeps : KeepsStamps c p n.state.height n.state.votes n.state.stamps
  pub follows : EachFollows c.powers n.journal
  pub made : EachMade p n.journal

-- What any validator of any run has saved may follow what it saved before, and its decisions are made as their records have to be.
abbrev pub FollowsLaw : Type 0
FollowsLaw = (c : Setting) (events : List Event) (p : ℕ) → let journal = ((run c (beginning c) events).nodes p).journal in EachFollows c.powers journal × EachMade p journal

-- bytes are the journal of one list of records at most
abbrev pub OneJournalLaw : Type 0
OneJournalLaw = (powers : List ℕ) (me : ℕ) (bytes : List ℕ) (rs others : List Record) → IsJournal powers me bytes rs → IsJournal powers me bytes others → rs ≡ others

-- Where these records stood and one that may follow was being saved, what a stop left is a journal, and its records are
-- those, or those and the one.
abbrev pub StopLaw : Type 0
StopLaw = (powers : List ℕ) (me : ℕ) (stood : List ℕ) (rs : List Record) (r : Record) (left : List ℕ) → IsWhole powers me stood rs → IsRecord me r → may_follow powers (reverse rs) r ≡ true → Begun stood (record_spelling me r) left
    → (found : List Record) × IsJournal powers me left found × ((found ≡ rs) ⊎ (found ≡ rs ++ r ∷ []))

-- what is left of a rest that is less than a whole record is one
abbrev pub TornLaw : Type 0
TornLaw = (rest : List ℕ) (k : ℕ) → IsTorn rest → IsTorn (take k rest)

-- From an opening that found the first records on, whatever was called and wherever stops came: an opening finds the
-- records of the last opening and those saved since, in order, and at most the one that was being saved; and none calls
-- the bytes no journal.
abbrev pub JournalLaw : {S : Type 0} → (S → List ℕ) → (S → List ℕ → Type 0) → Type 0
JournalLaw {S} seen may_leave = (powers : List ℕ) (me : ℕ) (unopened start : S) (first : List Record) (history : List (Call × S)) (new : S)
    → HasOpened seen may_leave powers me unopened start first → Happened seen may_leave powers me first start history
    → ((found : List Record) → HasOpened seen may_leave powers me (last_store start history) new found → IsKnown first (calls_of history) found)
    × (IsStep seen may_leave powers me first (calls_of history) (NotOpened BadRecord) (last_store start history) new → ⊥)

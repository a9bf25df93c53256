-- What a save makes of a node's journal.
use Rattle.std.specs.Prelude.{◌≡◌, ℕ, ◌<◌, ◌^◌, true, false, List, [], ◌∷◌, ◌++◌, length, All, Option, Some, None}
use Rattle.protocol.specs.Messages.{Bundle, Record, Own, Decided}
use Rattle.protocol.specs.declared.refusal.Refusal.{Refusal as Answer}
use Rattle.protocol.specs.declared.refusal.Refusal.TheVariants as answers
use Rattle.vote_journal.specs.Layout.{IsWhole}
use Rattle.vote_journal.specs.Saving.{IsBeforeOrAfter, LeavesBeforeOrAfter, WhereSaved}
use Rattle.vote_journal.specs.Store.{Grew}
use Rattle.state_journal.specs.Seen.{JournalSeen, MayLeave}
use Rattle.state_journal.specs.declared.journal.Unfired.{Unfired}
use Rattle.state_journal.specs.declared.journal.Unfired.TheVariants.{OutOfMemory, JournalFailed}

abbrev pub decision_in : Record → List Bundle
decision_in (Own height round act) = []
decision_in (Decided b) = b ∷ []

-- the numbers of a bundle fit their fields
pub record IsNarrow (b : Bundle) : Type 0 where
  pub height : b.height < 2 ^ 64
  pub round : b.round < 2 ^ 32
  pub sender : b.sender < 2 ^ 16
  pub id : length b.id ≡ 32

-- it has one record more
pub record HasSaved (r : Record) (old new : JournalSeen) : Type 0 where
  pub whole : WhereSaved old.me old.bytes r (λ powers rs. IsWhole powers old.me new.bytes (rs ++ r ∷ []))
  pub me : new.me ≡ old.me
  pub failed : new.failed ≡ old.failed
  pub failures : new.failures ≡ old.failures

-- it failed, or had failed: then what stands has the records before, or this one too, and no others, and so has whatever a stop may leave
pub record HasBroken (r : Record) (old new : JournalSeen) : Type 0 where
  pub me : new.me ≡ old.me
  pub failed : new.failed ≡ true
  pub grew : old.failed ≡ false → Grew old.failures new.failures
  pub left : old.failed ≡ false → WhereSaved old.me old.bytes r (λ powers rs. IsBeforeOrAfter powers old.me new.bytes rs r × LeavesBeforeOrAfter powers old.me (MayLeave new) rs r)
  pub narrow : All IsNarrow (decision_in r)

-- the journal has the record, if there is one
abbrev pub IsWritten : Option Record → JournalSeen → JournalSeen → Type 0
IsWritten None old new = new ≡ old
IsWritten (Some r) old new = HasSaved r old new

-- Where a plan was not carried out: nothing happened, if memory was short; else what the save that failed did.
abbrev pub IsUnwritten : Unfired → Option Record → JournalSeen → JournalSeen → Type 0
IsUnwritten OutOfMemory wrote old new = new ≡ old
IsUnwritten JournalFailed None old new = ⊥
IsUnwritten JournalFailed (Some r) old new = HasBroken r old new

-- what a node answers for it
abbrev pub of_unfired : Unfired → Answer
of_unfired OutOfMemory = answers.OutOfMemory
of_unfired JournalFailed = answers.JournalFailed

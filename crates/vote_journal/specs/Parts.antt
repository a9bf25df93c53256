-- What the reader finds in the parts of a record.
use Rattle.std.specs.Prelude.{ℕ, Bool, ◌&&◌, Option, Some, None, Result, Ok, Err, ◌==◌, if◌then◌else◌, option_map}
use Rattle.std.specs.Str.{bytes_eq}
use Rattle.protocol.specs.Values.{Id, Value, id}
use Rattle.protocol.specs.Messages.{Vote, Bundle, Body, OfProposal, OfVote, OfBundle, Act, Proposing, Prevoting, Precommitting, Record, Own, precommit, vote_eq}
use Rattle.messages.specs.declared.body.Step.{Step}
use Rattle.messages.specs.declared.body.Step.TheVariants as steps
use Rattle.vote_journal.specs.Grammar.{is_rising}
use Rattle.vote_journal.specs.declared.fault.JournalFault.{JournalFault}
use Rattle.vote_journal.specs.declared.fault.JournalFault.TheVariants.{Failed, OutOfMemory, BadRecord}

-- What is found is P, and where it is refused nothing is; or memory ran out.
abbrev pub IsReadingOf : {T : Type 0} → (T → Type 0) → Result T JournalFault → Type 0
IsReadingOf P (Ok x) = P x
IsReadingOf {T} P (Err BadRecord) = (x : T) → P x → ⊥
IsReadingOf P (Err OutOfMemory) = Unit {0}
IsReadingOf P (Err Failed) = ⊥

abbrev pub act_by : Step → Option Id → Option Act
act_by steps.Prevote content = Some (Prevoting content)
act_by steps.Precommit None = Some (Precommitting None)
act_by steps.Precommit (Some x) = None

-- what a vote says where no value goes with it
abbrev pub plain_act : Vote → Option Act
plain_act v = act_by v.step v.content

-- the own message that a body is, but for a precommit for a value
abbrev pub plain_record : ℕ → Body → Option Record
plain_record me (OfProposal q) = if q.sender == me then Some (Own q.height q.round (Proposing q.valid_round q.value)) else None
plain_record me (OfVote v) = if v.sender == me then option_map (Own v.height v.round) (plain_act v) else None
plain_record me _ = None

-- the own precommit for this value that a body is
abbrev pub lock_record : ℕ → Body → Value → Option Record
lock_record me (OfVote v) value = if vote_eq v (precommit v.height v.round me (Some (id value))) then Some (Own v.height v.round (Precommitting (Some value))) else None
lock_record me _ value = None

abbrev pub bundle_of : Body → Option Bundle
bundle_of (OfBundle b) = Some b
bundle_of _ = None

-- what a decision has beside its spelling
abbrev pub is_decision : ℕ → Bundle → Bool
is_decision me b = (b.sender == me) && is_rising b.precommits && bytes_eq b.id (id b.value)

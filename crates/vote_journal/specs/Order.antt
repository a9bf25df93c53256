-- Which record may follow those of a journal, and what is remembered of these to tell.
use Rattle.std.specs.Prelude.{◌≡◌, ℕ, ◌^◌, Bool, true, not, ◌&&◌, ◌||◌, Option, Some, None, List, [], ◌∷◌, ◌==◌, false, nat_lt, Result, Ok, Err}
use Rattle.std.specs.List.{list_all}
use Rattle.transactions.specs.Grammar.{IsValue}
use Rattle.powers.specs.Power.{power, is_quorum}
use Rattle.protocol.specs.Values.{Tx, Value, valid}
use Rattle.protocol.specs.declared.types.Step.{Step}
use Rattle.protocol.specs.Messages.{Act, Proposing, Precommitting, Record, Own, Decided, step_of, step_number}
use Rattle.protocol.specs.Refusals.{named_senders}
use Rattle.protocol.specs.Restart.{delivered_of, height_of, last_place}
use Rattle.proposal_validity.specs.Standing.{IsFrontierOf}
use Rattle.vote_journal.specs.declared.fault.JournalFault.{JournalFault}
use Rattle.vote_journal.specs.declared.fault.JournalFault.TheVariants.{Failed, OutOfMemory, BadRecord}
use Rattle.protocol.specs.declared.records.Record.{Record as Held}
use Rattle.vote_journal.specs.declared.standing.Standing.{Standing}
use Rattle.protocol.specs.Records.{record_of}
use Rattle.vote_journal.specs.Grammar.{IsRecord, Entry, OfRecord, Mark, IsEntry, SpellsEntry}

-- a later round, or a later step of the round
abbrev pub is_after : Option (ℕ × Step) → ℕ → Step → Bool
is_after None round step = true
is_after (Some place) round step = nat_lt place.0 round || ((place.0 == round) && nat_lt (step_number place.1) (step_number step))

-- Behind these records, the newest first, an own message is of the height that they leave, after the last one of that
-- height; a decision is that height's, where that is below 2^48, by a quorum, of a value that may be delivered next.
unfoldable pub may_follow : List ℕ → List Record → Record → Bool
may_follow powers before (Own height round act) = (height == height_of before) && is_after (last_place before) round (step_of act)
may_follow powers before (Decided b) = (b.height == height_of before) && nat_lt b.height (2 ^ 48) && is_quorum powers (power powers (named_senders b)) && valid (delivered_of before) b.value

abbrev pub records_in : List Entry → List Record
records_in [] = []
records_in (OfRecord r ∷ es) = r ∷ records_in es
records_in (Mark ∷ es) = records_in es

abbrev pub is_marked : List Entry → Bool
is_marked [] = false
is_marked (OfRecord r ∷ es) = is_marked es
is_marked (Mark ∷ es) = true

-- no transaction of a session after its client's first
abbrev pub is_early : Value → Bool
is_early v = list_all (λ (t : Tx). t.session == 0) v.txs

abbrev pub says_early : Act → Bool
says_early (Proposing valid_round v) = is_early v
says_early (Precommitting (Some v)) = is_early v
says_early _ = true

abbrev pub has_early : Record → Bool
has_early (Own height round act) = says_early act
has_early (Decided b) = is_early b.value

-- Behind these entries, the newest first, a mark stands where there is none, and a record where it may follow the records; before the mark it has no transaction of a later session.
unfoldable pub may_stand : List ℕ → List Entry → Entry → Bool
may_stand powers before (OfRecord r) = may_follow powers (records_in before) r && (is_marked before || has_early r)
may_stand powers before Mark = not (is_marked before)

-- entries, the oldest first, each of which has a spelling and may stand behind those before it
abbrev pub AreInOrder : List ℕ → ℕ → List Entry → List Entry → Type 0
AreInOrder powers me before [] = Unit {0}
AreInOrder powers me before (e ∷ es) = IsEntry me e × (may_stand powers before e ≡ true) × AreInOrder powers me (e ∷ before) es

-- records, the oldest first, each of which has a spelling and may follow those before it
abbrev pub AreLawful : List ℕ → ℕ → List Record → List Record → Type 0
AreLawful powers me before [] = Unit {0}
AreLawful powers me before (r ∷ rs) = IsRecord me r × (may_follow powers before r ≡ true) × AreLawful powers me (r ∷ before) rs

-- what is remembered is what these entries, the newest first, leave
pub record Remembers (before : List Entry) (s : Standing) : Type 0 where
  pub height : s.height ≡ height_of (records_in before)
  pub last : s.last ≡ last_place (records_in before)
  pub frontier : IsFrontierOf (delivered_of (records_in before)) s.frontier
  pub marked : s.marked ≡ is_marked before

abbrev pub HasSpelledValue : Record → Type 0
HasSpelledValue (Own height round act) = Unit {0}
HasSpelledValue (Decided b) = IsValue b.value

-- What is passed may stand there, and then it is remembered.
abbrev pub IsPassed : List ℕ → List Entry → Record → Standing → Result (Unit {0}) JournalFault → Type 0
IsPassed powers before r after (Ok done) = (may_stand powers before (OfRecord r) ≡ true) × Remembers (OfRecord r ∷ before) after
IsPassed powers before r after (Err BadRecord) = may_stand powers before (OfRecord r) ≡ false
IsPassed powers before r after (Err OutOfMemory) = Unit {0}
IsPassed powers before r after (Err Failed) = ⊥

-- its first byte is the mark's
abbrev pub is_of_mark : List ℕ → Bool
is_of_mark [] = false
is_of_mark (kind ∷ bytes) = kind == 4

abbrev pub IsMarkTaken : List ℕ → ℕ → List Entry → List ℕ → Standing → Result (Unit {0}) JournalFault → Type 0
IsMarkTaken powers me before content after (Ok done) = SpellsEntry me content Mark × (may_stand powers before Mark ≡ true) × Remembers (Mark ∷ before) after
IsMarkTaken powers me before content after (Err BadRecord) = SpellsEntry me content Mark → may_stand powers before Mark ≡ true → ⊥
IsMarkTaken powers me before content after (Err OutOfMemory) = ⊥
IsMarkTaken powers me before content after (Err Failed) = ⊥

-- the record that was taken, or the mark
abbrev pub entry_of : Option Held → Entry
entry_of None = Mark
entry_of (Some r) = OfRecord (record_of r)

-- What is taken is what the content spells and may stand there, and then it is remembered; what is refused isn't.
abbrev pub IsTaken : List ℕ → ℕ → List Entry → List ℕ → Standing → Result (Option Held) JournalFault → Type 0
IsTaken powers me before content after (Ok o) = SpellsEntry me content (entry_of o) × (may_stand powers before (entry_of o) ≡ true) × Remembers (entry_of o ∷ before) after
IsTaken powers me before content after (Err BadRecord) = (e : Entry) → SpellsEntry me content e → may_stand powers before e ≡ true → ⊥
IsTaken powers me before content after (Err OutOfMemory) = Unit {0}
IsTaken powers me before content after (Err Failed) = ⊥

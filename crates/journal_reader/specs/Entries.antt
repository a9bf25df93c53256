-- Which entry a content is, for a reader that may not know yet whose journal it reads.
use Rattle.std.specs.Prelude.{◌≡◌, ℕ, ◌==◌, if◌then◌else◌, List, [], ◌∷◌, take, Option, Some, None, Result, Ok, Err}
use Rattle.messages.specs.Grammar.{SpellsBody}
use Rattle.protocol.specs.Messages.{Record as AnyRecord, Body, OfTx, OfProposal, OfVote, OfAsk, OfBundle}
use Rattle.protocol.specs.Records.{record_of}
use Rattle.vote_journal.specs.declared.fault.JournalFault.{JournalFault}
use Rattle.vote_journal.specs.declared.fault.JournalFault.TheVariants.{Failed, OutOfMemory, BadRecord}
use Rattle.vote_journal.specs.Grammar.{Spells, Entry as AnyEntry, SpellsEntry, mark_content}
use Rattle.journal_reader.specs.declared.entry.Entry.{Entry}
use Rattle.journal_reader.specs.declared.entry.Entry.TheVariants.{Record, Mark}

-- this validator, or any where it isn't known
abbrev pub IsOf : Option ℕ → ℕ → Type 0
IsOf None owner = Unit {0}
IsOf (Some known) owner = owner ≡ known

-- the content is this entry's
abbrev pub IsEntryOf : Option ℕ → List ℕ → Entry → Type 0
IsEntryOf known content (Record owner r) = IsOf known owner × Spells owner content (record_of r)
IsEntryOf known content Mark = content ≡ mark_content

-- it is no entry's
abbrev pub IsNoEntry : Option ℕ → List ℕ → Type 0
IsNoEntry known content = (owner : ℕ) (e : AnyEntry) → IsOf known owner → SpellsEntry owner content e → ⊥

-- What is read is what the content is, and what is refused is no entry; or memory ran out.
abbrev pub IsEntryRead : Option ℕ → List ℕ → Result Entry JournalFault → Type 0
IsEntryRead known content (Ok e) = IsEntryOf known content e
IsEntryRead known content (Err BadRecord) = IsNoEntry known content
IsEntryRead known content (Err OutOfMemory) = Unit {0}
IsEntryRead known content (Err Failed) = ⊥

-- ---- whose record a content is

abbrev pub sender_of : Body → ℕ
sender_of (OfTx t) = t.client
sender_of (OfProposal q) = q.sender
sender_of (OfVote v) = v.sender
sender_of (OfAsk a) = a.sender
sender_of (OfBundle b) = b.sender

-- the body behind a kind, in front of the value of a lock
abbrev pub front_body : List ℕ → List ℕ
front_body [] = []
front_body (kind ∷ bytes) = if kind == 2 then take 48 bytes else bytes

-- the body that bytes are, if they are any's
abbrev pub IsBodyIn : List ℕ → Option Body → Type 0
IsBodyIn bytes None = (body : Body) → SpellsBody bytes body → ⊥
IsBodyIn bytes (Some body) = SpellsBody bytes body

-- no other validator's, and nobody's where none is told
abbrev pub IsOwner : List ℕ → Option ℕ → Type 0
IsOwner content None = (me : ℕ) (r : AnyRecord) → Spells me content r → ⊥
IsOwner content (Some owner) = (me : ℕ) (r : AnyRecord) → Spells me content r → me ≡ owner

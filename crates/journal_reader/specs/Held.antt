-- What a reader of a journal holds, and what it tells.
use Rattle.std.specs.Prelude.{◌≡◌, ℕ, ◌+◌, ◌-◌, ◌^◌, Bool, true, false, min, List, [], ◌++◌, length, drop, Option, Some, None, Result, Ok, Err}
use Rattle.vote_journal.specs.Grammar.{header, framed}
use Rattle.vote_journal.specs.Layout.{IsContent, IsTorn, IsBegunHeader}
use Rattle.vote_journal.specs.declared.fault.JournalFault.{JournalFault}
use Rattle.vote_journal.specs.declared.fault.JournalFault.TheVariants.{Failed, OutOfMemory, BadRecord}
use Rattle.journal_reader.specs.declared.entry.Entry.{Entry}
use Rattle.journal_reader.specs.declared.entry.Entry.TheVariants.{Record, Mark}
use Rattle.journal_reader.specs.declared.reader.Found.{Found}
use Rattle.journal_reader.specs.Entries.{IsEntryOf, IsNoEntry}

-- the bytes that it was fed and hasn't read, where they begin, and whose journal it is, once a record told
pub record Held : Type 0 where
  pub rest : List ℕ
  pub offset : ℕ
  pub owner : Option ℕ

abbrev pub nothing : Held
nothing = record { rest = []; offset = 0; owner = None }

abbrev pub with_piece : Held → List ℕ → Held
with_piece held piece = record held { rest = held.rest ++ piece }

abbrev pub without_rest : Held → Held
without_rest held = record held { rest = [] }

-- so many bytes further, as far as a `u64` tells
abbrev pub passed : ℕ → Held → Held
passed count held = record held { rest = drop count held.rest; offset = min (held.offset + count) (2 ^ 64 - 1) }

-- the header is read, or isn't whole, or is another one
abbrev pub IsHeaderRead : Held → Result Bool JournalFault → Held → Type 0
IsHeaderRead old (Ok true) new = (old.rest ≡ header ++ new.rest) × (new ≡ passed 4 old)
IsHeaderRead old (Ok false) new = IsBegunHeader old.rest × (new ≡ old)
IsHeaderRead old (Err BadRecord) new = (IsBegunHeader old.rest → ⊥) × ((after : List ℕ) → old.rest ≡ header ++ after → ⊥) × (new ≡ old)
IsHeaderRead old (Err other) new = ⊥

abbrev pub owner_after : Option ℕ → Entry → Option ℕ
owner_after known (Record owner r) = Some owner
owner_after known Mark = known

-- The entry in front was read, and nothing else.
pub record IsFound (old : Held) (found : Found) (new : Held) : Type 0 where
  pub content : List ℕ
  pub lawful : IsContent content
  pub front : old.rest ≡ framed content ++ new.rest
  pub entry : IsEntryOf old.owner content found.entry
  pub place : found.offset ≡ old.offset
  pub len : found.len ≡ length (framed content)
  pub passed : new.offset ≡ (passed found.len old).offset
  pub owner : new.owner ≡ owner_after old.owner found.entry

-- no entry stands in front, whatever follows
abbrev pub HasNoEntry : Held → Type 0
HasNoEntry held = (IsTorn held.rest → ⊥) × ((content after : List ℕ) → IsContent content → held.rest ≡ framed content ++ after → IsNoEntry held.owner content)

-- what is told where the next entry is wanted, and what is held then
abbrev pub IsNext : Held → Result (Option Found) JournalFault → Held → Type 0
IsNext old (Ok (Some found)) new = IsFound old found new
IsNext old (Ok None) new = IsTorn old.rest × (new ≡ old)
IsNext old (Err BadRecord) new = HasNoEntry old × (new ≡ old)
IsNext old (Err OutOfMemory) new = new ≡ old
IsNext old (Err Failed) new = ⊥

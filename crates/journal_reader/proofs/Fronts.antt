-- The entry at the front of what a reader holds.
use Rattle.std.proofs.Common.{◌≡◌, ℕ, ◌+◌, ◌≤◌, List, ◌∷◌, ◌++◌, length, drop, Err, refl, sym, ap, subst, ◌∙◌, arith, length-append}
use Rattle.std.proofs.lemmas.List.{drop_at}
use Rattle.transactions.specs.Fields.{number_bytes}
use Rattle.transactions.proofs.Formats.{length-number_bytes}
use Rattle.vote_journal.specs.declared.fault.JournalFault.{JournalFault}
use Rattle.vote_journal.specs.declared.fault.JournalFault.TheVariants.{Failed, OutOfMemory, BadRecord}
use Rattle.vote_journal.specs.Grammar.{framed}
use Rattle.vote_journal.specs.declared.scanning.Front.TheVariants as fronts
use Rattle.vote_journal.specs.Layout.{IsContent, IsFront}
use Rattle.vote_journal.proofs.Layouts.{bad_front, same_content, torn_is_short}
use Rattle.journal_reader.specs.declared.entry.Entry.{Entry}
use Rattle.journal_reader.specs.Entries.{IsEntryOf, IsEntryRead, IsNoEntry}
use Rattle.journal_reader.specs.Held.{Held, passed, owner_after, IsFound, IsNext}

framed_length : (content : List ℕ) → length (framed content) ≡ 4 + length content
unfolding framed
framed_length content = omega (arith, length-append (number_bytes 4 (length content)) content, length-number_bytes 4 (length content))

pub fits : (rest content after : List ℕ) → rest ≡ framed content ++ after → 4 + length content ≤ length rest
fits rest content after e = omega (arith, ap length e, length-append (framed content) after, framed_length content)

pub no_next : (held : Held) (content after : List ℕ) (fault : JournalFault) → IsContent content → held.rest ≡ framed content ++ after → IsEntryRead held.owner content (Err fault) → IsNext held (Err fault) held
no_next held content after Failed h e read = read
no_next held content after OutOfMemory h e read = refl
no_next held content after BadRecord h e read = (
  (
    torn_is_short held.rest content after h e,
    λ other behind lawful front. subst (IsNoEntry held.owner) (same_content content after other behind h lawful (sym e ∙ front)).0 read,
  ),
  refl,
)

pub bad_next : (held : Held) → IsFront held.rest fronts.Bad → IsNext held (Err BadRecord) held
bad_next held front =
    let bad = bad_front held.rest front.0 front.1 in
    ((bad.0, λ content after h e. absurd (bad.1 content after h e)), refl)

pub found_next : (held : Held) (content after : List ℕ) (entry : Entry) → IsContent content → held.rest ≡ framed content ++ after → IsEntryOf held.owner content entry
    → IsFound held (record { offset = held.offset; len = 4 + length content; entry = entry }) (passed (4 + length content) (record held { owner = owner_after held.owner entry }))
found_next held content after entry h e read =
    let len : length (framed content) ≡ 4 + length content = framed_length content in
    record {
      content = content;
      lawful = h;
      front = e ∙ ap (λ (w : List ℕ). framed content ++ w) (sym (ap (drop (4 + length content)) e ∙ drop_at (framed content) after (4 + length content) len));
      entry = read;
      place = refl;
      len = sym len;
      passed = refl;
      owner = refl;
    }

-- What is refused because it may not stand there is not what the content spells and may stand there.
use Rattle.std.proofs.Common.{◌≡◌, ℕ, Bool, true, false, List, [], ◌∷◌, Err, ap, ◌∙◌}
use Rattle.protocol.specs.Messages.{Record}
use Rattle.vote_journal.specs.declared.fault.JournalFault.{JournalFault}
use Rattle.vote_journal.specs.declared.fault.JournalFault.TheVariants.{Failed, OutOfMemory, BadRecord}
use Rattle.vote_journal.specs.declared.standing.Standing.{Standing}
use Rattle.vote_journal.specs.Grammar.{Spells, IsReading, Entry, OfRecord, Mark, SpellsEntry}
use Rattle.vote_journal.specs.Order.{may_stand, IsPassed, IsTaken, IsMarkTaken, is_of_mark}
use Rattle.vote_journal.proofs.RecordFormats.{same_record, kind_four}

both_answers : (b : Bool) → b ≡ true → b ≡ false → ⊥
both_answers b t f = absurd cc

-- content of another kind spells no mark
no_mark : (me : ℕ) (content : List ℕ) → is_of_mark content ≡ false → SpellsEntry me content Mark → ⊥
no_mark me content h s = both_answers (is_of_mark content) (ap is_of_mark s.same) h

-- and content of the mark's kind no record
no_record : (me : ℕ) (content : List ℕ) (r : Record) → is_of_mark content ≡ true → SpellsEntry me content (OfRecord r) → ⊥
no_record me [] r h s = absurd cc
no_record me (kind ∷ bytes) r h s = kind_four me kind bytes r h (record { lawful = s.lawful; same = s.same })

pub unread : (powers : List ℕ) (me : ℕ) (before : List Entry) (content : List ℕ) (after : Standing) (e : JournalFault) → is_of_mark content ≡ false → IsReading me content (Err e) → IsTaken powers me before content after (Err e)
unread powers me before content after Failed h s = s
unread powers me before content after OutOfMemory h s = tt
unread powers me before content after BadRecord h s = spelled
  where
    spelled : (e : Entry) → SpellsEntry me content e → may_stand powers before e ≡ true → ⊥
    spelled (OfRecord r) t f = s r (record { lawful = t.lawful; same = t.same })
    spelled Mark t f = no_mark me content h t

pub taken_err : (powers : List ℕ) (me : ℕ) (before : List Entry) (content : List ℕ) (after : Standing) (r : Record) (e : JournalFault) → is_of_mark content ≡ false → Spells me content r → IsPassed powers before r after (Err e) → IsTaken powers me before content after (Err e)
taken_err powers me before content after r Failed k s h = h
taken_err powers me before content after r OutOfMemory k s h = tt
taken_err powers me before content after r BadRecord k s h = spelled
  where
    spelled : (e : Entry) → SpellsEntry me content e → may_stand powers before e ≡ true → ⊥
    spelled (OfRecord q) t f = both_answers (may_stand powers before (OfRecord q)) f (ap (λ (x : Record). may_stand powers before (OfRecord x)) (same_record me content q r (record { lawful = t.lawful; same = t.same }) s) ∙ h)
    spelled Mark t f = no_mark me content k t

pub mark_err : (powers : List ℕ) (me : ℕ) (before : List Entry) (content : List ℕ) (after : Standing) (e : JournalFault) → is_of_mark content ≡ true → IsMarkTaken powers me before content after (Err e) → IsTaken powers me before content after (Err e)
mark_err powers me before content after Failed k h = absurd h
mark_err powers me before content after OutOfMemory k h = absurd h
mark_err powers me before content after BadRecord k h = spelled
  where
    spelled : (e : Entry) → SpellsEntry me content e → may_stand powers before e ≡ true → ⊥
    spelled (OfRecord r) t f = no_record me content r k t
    spelled Mark t f = h t f

-- A journal is the journal of one list of records.
use Rattle.std.proofs.Common.{◌≡◌, inl, inr, ℕ, ◌+◌, ◌<◌, ◌≤◌, Bool, true, false, leb, ◌&&◌, ◌||◌, List, [], ◌∷◌, ◌++◌, length, take, drop, reverse, Some, None, Ok, Err, refl, sym, ap, subst, ◌∙◌, arith, append_assoc, length-append}
use Rattle.std.proofs.lemmas.List.{append-nil, take_at, drop_at, take-append-drop, length-take-le, reverse-append}
use Rattle.std.proofs.lemmas.Bool.{le-ltb, le-leb, leb-true, and_from, and_parts}
use Rattle.byteorder.specs.Endian.{big_number}
use Rattle.byteorder.specs.Numbers.{big_number-reads_back}
use Rattle.transactions.specs.Fields.{number_bytes, number_at}
use Rattle.transactions.specs.Grammar.{value_spelling}
use Rattle.transactions.proofs.Formats.{IsBytes, u32_format, length-number_bytes}
use Rattle.messages.specs.Grammar.{body_spelling}
use Rattle.messages.proofs.Sizes.{body_short}
use Rattle.messages.proofs.Lengths.{vote_length}
use Rattle.protocol.specs.Values.{id}
use Rattle.protocol.specs.Messages.{OfVote, OfBundle, Proposing, Prevoting, Precommitting, Record, Own, Decided, precommit, body_of}
use Rattle.vote_journal.specs.Grammar.{content_spelling, framed, IsRecord, Entry, OfRecord, Mark, entry_content, entry_spelling, entries_spelling, IsEntry, SpellsEntry}
use Rattle.vote_journal.specs.declared.standing.Standing.{Standing}
use Rattle.vote_journal.specs.declared.fault.JournalFault.{JournalFault}
use Rattle.vote_journal.specs.declared.fault.JournalFault.TheVariants.{Failed, OutOfMemory, BadRecord}
use Rattle.vote_journal.specs.Order.{may_follow, AreLawful, records_in, is_marked, has_early, may_stand, AreInOrder, IsTaken}
use Rattle.vote_journal.specs.Layout.{IsContent, IsTorn}
use Rattle.vote_journal.specs.Planning.{IsNotRead}
use Rattle.vote_journal.proofs.RecordFormats.{same_entry}

-- ---- the front of a framed content

pub number_back : (n : ℕ) (rest : List ℕ) → n ≤ 1100000 → big_number 4 (number_bytes 4 n ++ rest) ≡ n
unfolding number_bytes
number_back n rest h = big_number-reads_back 4 n rest (omega arith)

pub record Begins (bytes content after : List ℕ) : Type 0 where
  pub long : 4 ≤ length bytes
  pub number : big_number 4 bytes ≡ length content
  pub behind : drop 4 bytes ≡ content ++ after

pub begins : (content after : List ℕ) → IsContent content → Begins (framed content ++ after) content after
unfolding framed
begins content after h =
    let n = number_bytes 4 (length content) in
    let four : length n ≡ 4 = length-number_bytes 4 (length content) in
    let grouped : (n ++ content) ++ after ≡ n ++ (content ++ after) = append_assoc n content after in
    record {
      long = omega (arith, four, ap length grouped, length-append n (content ++ after));
      number = ap (big_number 4) grouped ∙ number_back (length content) (content ++ after) h.1;
      behind = ap (drop 4) grouped ∙ drop_at n (content ++ after) 4 four;
    }

-- less than a whole record has no whole one at its front
pub torn_is_short : (bytes content after : List ℕ) → IsContent content → bytes ≡ framed content ++ after → IsTorn bytes → ⊥
torn_is_short bytes content after h e (inl short) = let b = begins content after h in omega (arith, short, ap length e, b.long)
torn_is_short bytes content after h e (inr t) =
    let b = begins content after h in
    omega (arith, t.2, ap (big_number 4) e, b.number, ap length (ap (drop 4) e ∙ b.behind), length-append content after)

framed_length : (content : List ℕ) → length (framed content) ≡ 4 + length content
unfolding framed
framed_length content = omega (arith, length-append (number_bytes 4 (length content)) content, length-number_bytes 4 (length content))

-- what follows a record is shorter
pub rest_shorter : (left content after : List ℕ) → left ≡ framed content ++ after → length after < length left
rest_shorter left content after e = omega (arith, ap length e, length-append (framed content) after, framed_length content)

-- two contents at one front are one
pub same_content : (content after content' after' : List ℕ) → IsContent content → IsContent content' → framed content ++ after ≡ framed content' ++ after' → (content ≡ content') × (after ≡ after')
same_content content after content' after' h h' e =
    let b = begins content after h in
    let b' = begins content' after' h' in
    let len : length content ≡ length content' = sym b.number ∙ ap (big_number 4) e ∙ b'.number in
    let behind : content ++ after ≡ content' ++ after' = sym b.behind ∙ ap (drop 4) e ∙ b'.behind in (
      sym (take_at content after (length content) refl) ∙ ap (take (length content)) behind ∙ take_at content' after' (length content) (sym len),
      sym (drop_at content after (length content) refl) ∙ ap (drop (length content)) behind ∙ drop_at content' after' (length content) (sym len),
    )

pub lawful_length : (n : ℕ) → leb 1 n && leb n 1100000 ≡ true → (1 ≤ n) × (n ≤ 1100000)
lawful_length n e = let p = and_parts (leb 1 n) (leb n 1100000) e in (leb-true 1 n p.0, leb-true n 1100000 p.1)

true_is_false : (b : Bool) → b ≡ true → b ≡ false → ⊥
true_is_false b t f = absurd cc

pub outside_length : (n : ℕ) → leb 1 n && leb n 1100000 ≡ false → 1 ≤ n → n ≤ 1100000 → ⊥
outside_length n e low high = true_is_false (leb 1 n && leb n 1100000) (and_from (leb 1 n) (leb n 1100000) (le-leb 1 n low) (le-leb n 1100000 high)) e

-- a length that no record has
pub bad_front : (bytes : List ℕ) → 4 ≤ length bytes → (1 ≤ big_number 4 bytes → big_number 4 bytes ≤ 1100000 → ⊥) → (IsTorn bytes → ⊥) × ((content after : List ℕ) → IsContent content → bytes ≡ framed content ++ after → ⊥)
bad_front bytes long outside = (
  not_torn,
  λ content after h e.
      let b = begins content after h in
      let n : big_number 4 bytes ≡ length content = ap (big_number 4) e ∙ b.number in
      outside (omega (arith, h.0)) (omega (arith, h.1)),
)
  where
    not_torn : IsTorn bytes → ⊥
    not_torn (inl short) = omega (arith, short)
    not_torn (inr t) = outside t.0 t.1

-- a length, and as many bytes behind it
pub whole_front : (bytes : List ℕ) (n : ℕ) → IsBytes bytes → 4 ≤ length bytes → n ≡ big_number 4 bytes → n ≤ length (drop 4 bytes) → bytes ≡ framed (take n (drop 4 bytes)) ++ drop n (drop 4 bytes)
unfolding framed
whole_front bytes n each long is fit =
    let d = drop 4 bytes in
    let at : number_at 4 bytes ≡ Ok (big_number 4 bytes, d) = rw (le-ltb (length bytes) 4 long) refl in
    let parts : bytes ≡ number_bytes 4 (big_number 4 bytes) ++ d = (u32_format.takes bytes (big_number 4 bytes, d) each at).0.parts in
    let len : length (take n d) ≡ big_number 4 bytes = length-take-le n d fit ∙ is in
    parts ∙ ap (λ (k : ℕ). number_bytes 4 k ++ d) (sym len) ∙ ap (λ (x : List ℕ). number_bytes 4 (length (take n d)) ++ x) (sym (take-append-drop n d))
    ∙ sym (append_assoc (number_bytes 4 (length (take n d))) (take n d) (drop n d))

-- ---- records have contents within the limit

pub fits : (me : ℕ) (r : Record) → IsRecord me r → IsContent (content_spelling me r)
fits me (Own height round (Proposing vr v)) h = (omega arith, omega (arith, body_short (body_of me height round (Proposing vr v)) h.0))
fits me (Own height round (Prevoting x)) h = (omega arith, omega (arith, body_short (body_of me height round (Prevoting x)) h.0))
fits me (Own height round (Precommitting None)) h = (omega arith, omega (arith, body_short (body_of me height round (Precommitting None)) h.0))
fits me (Own height round (Precommitting (Some v))) h =
    let w = precommit height round me (Some (id v)) in
    (omega arith, omega (arith, vote_length w h.0.content, length-append (body_spelling (OfVote w)) (value_spelling v), h.1.short))
fits me (Decided b) h = (omega arith, omega (arith, body_short (OfBundle b) h.fits))

pub fits_entry : (me : ℕ) (e : Entry) → IsEntry me e → IsContent (entry_content me e)
fits_entry me (OfRecord r) h = fits me r h
fits_entry me Mark h = (omega arith, omega arith)

pub is_framed : (me : ℕ) (r : Entry) → entry_spelling me r ≡ framed (entry_content me r)
unfolding entry_spelling
is_framed me r = refl

-- the first record, and what follows
pub first_framed : (me : ℕ) (r : Entry) (rs : List Entry) (rest : List ℕ) → entries_spelling me (r ∷ rs) ++ rest ≡ framed (entry_content me r) ++ (entries_spelling me rs ++ rest)
first_framed me r rs rest = append_assoc (entry_spelling me r) (entries_spelling me rs) rest ∙ ap (λ (x : List ℕ). x ++ (entries_spelling me rs ++ rest)) (is_framed me r)

-- ---- one list of records

pub same_entries : (powers : List ℕ) (me : ℕ) (before rs rs' : List Entry) (rest rest' : List ℕ) → AreInOrder powers me before rs → AreInOrder powers me before rs' → IsTorn rest → IsTorn rest'
    → entries_spelling me rs ++ rest ≡ entries_spelling me rs' ++ rest' → rs ≡ rs'
same_entries powers me before [] [] rest rest' l l' t t' e = refl
same_entries powers me before [] (r ∷ rs) rest rest' l l' t t' e = absurd (torn_is_short rest (entry_content me r) (entries_spelling me rs ++ rest') (fits_entry me r l'.0) (e ∙ first_framed me r rs rest') t)
same_entries powers me before (r ∷ rs) [] rest rest' l l' t t' e = absurd (torn_is_short rest' (entry_content me r) (entries_spelling me rs ++ rest) (fits_entry me r l.0) (sym e ∙ first_framed me r rs rest) t')
same_entries powers me before (r ∷ rs) (q ∷ qs) rest rest' l l' t t' e =
    let c = same_content (entry_content me r) (entries_spelling me rs ++ rest) (entry_content me q) (entries_spelling me qs ++ rest') (fits_entry me r l.0) (fits_entry me q l'.0)
    (sym (first_framed me r rs rest) ∙ e ∙ first_framed me q qs rest') in
    let is : r ≡ q = same_entry me (entry_content me r) r q (record { lawful = l.0; same = refl }) (record { lawful = l'.0; same = c.0 }) in
    let lawful : AreInOrder powers me (r ∷ before) qs = subst (λ (x : Entry). AreInOrder powers me (x ∷ before) qs) (sym is) l'.2 in
    let others : rs ≡ qs = same_entries powers me (r ∷ before) rs qs rest rest' l.2 lawful t t' c.1 in
    λ i. is i ∷ others i

-- what was read already is the beginning of every reading
pub record Goes (powers : List ℕ) (me : ℕ) (before : List Entry) (left : List ℕ) (rs : List Entry) (rest : List ℕ) : Type 0 where
  pub others : List Entry
  pub whole : left ≡ entries_spelling me others ++ rest
  pub lawful : AreInOrder powers me before others

pub reverse_onto : {X : Type 0} (r : X) (rs before : List X) → reverse rs ++ (r ∷ before) ≡ reverse (r ∷ rs) ++ before
reverse_onto {X = X} r rs before = sym (ap (λ (x : List X). x ++ before) (reverse-append (r ∷ []) rs) ∙ append_assoc (reverse rs) (r ∷ []) before)

pub goes_on : (powers : List ℕ) (me : ℕ) (before done : List Entry) (left : List ℕ) (rs : List Entry) (rest : List ℕ) → AreInOrder powers me before done → AreInOrder powers me before rs → IsTorn rest
    → entries_spelling me done ++ left ≡ entries_spelling me rs ++ rest → Goes powers me (reverse done ++ before) left rs rest
goes_on powers me before [] left rs rest l l' t e = record { others = rs; whole = e; lawful = l' }
goes_on powers me before (r ∷ done) left [] rest l l' t e = absurd (torn_is_short rest (entry_content me r) (entries_spelling me done ++ left) (fits_entry me r l.0) (sym e ∙ first_framed me r done left) t)
goes_on powers me before (r ∷ done) left (q ∷ qs) rest l l' t e =
    let c = same_content (entry_content me r) (entries_spelling me done ++ left) (entry_content me q) (entries_spelling me qs ++ rest) (fits_entry me r l.0) (fits_entry me q l'.0)
    (sym (first_framed me r done left) ∙ e ∙ first_framed me q qs rest) in
    let is : r ≡ q = same_entry me (entry_content me r) r q (record { lawful = l.0; same = refl }) (record { lawful = l'.0; same = c.0 }) in
    let lawful : AreInOrder powers me (r ∷ before) qs = subst (λ (x : Entry). AreInOrder powers me (x ∷ before) qs) (sym is) l'.2 in
    let g = goes_on powers me (r ∷ before) done left qs rest l.2 lawful t c.1 in
    let lawful' : AreInOrder powers me (reverse (r ∷ done) ++ before) g.others = subst (λ (x : List Entry). AreInOrder powers me x g.others) (reverse_onto r done before) g.lawful in
    record { others = g.others; whole = g.whole; lawful = lawful' }

-- ---- one more record

pub lawful_push : (powers : List ℕ) (me : ℕ) (before rs : List Entry) (r : Entry) → AreInOrder powers me before rs → IsEntry me r → may_stand powers (reverse rs ++ before) r ≡ true → AreInOrder powers me before (rs ++ r ∷ [])
lawful_push powers me before [] r l h f = (h, f, tt)
lawful_push powers me before (q ∷ rs) r l h f =
    (l.0, l.1, lawful_push powers me (q ∷ before) rs r l.2 h (ap (λ (x : List Entry). may_stand powers x r) (reverse_onto q rs before) ∙ f))

pub spelling_push : (me : ℕ) (rs : List Entry) (r : Entry) → entries_spelling me (rs ++ r ∷ []) ≡ entries_spelling me rs ++ entry_spelling me r
spelling_push me [] r = append-nil (entry_spelling me r)
spelling_push me (q ∷ rs) r = ap (λ (x : List ℕ). entry_spelling me q ++ x) (spelling_push me rs r) ∙ sym (append_assoc (entry_spelling me q) (entries_spelling me rs) (entry_spelling me r))

-- ---- reading on behind what was read

-- a record more was read
pub scan_step : (powers : List ℕ) (me : ℕ) (bytes : List ℕ) (done : List Entry) (r : Entry) (left content after : List ℕ) → bytes ≡ entries_spelling me done ++ left → AreInOrder powers me [] done
    → left ≡ framed content ++ after → SpellsEntry me content r → may_stand powers (reverse done) r ≡ true
    → (bytes ≡ entries_spelling me (done ++ r ∷ []) ++ after) × AreInOrder powers me [] (done ++ r ∷ [])
scan_step powers me bytes done r left content after whole lawful front s f =
    let text : framed content ≡ entry_spelling me r = ap framed s.same ∙ sym (is_framed me r) in (
      whole ∙ ap (λ (x : List ℕ). entries_spelling me done ++ x) (front ∙ ap (λ (x : List ℕ). x ++ after) text)
          ∙ sym (append_assoc (entries_spelling me done) (entry_spelling me r) after) ∙ ap (λ (x : List ℕ). x ++ after) (sym (spelling_push me done r)),
      lawful_push powers me [] done r lawful s.lawful (ap (λ (x : List Entry). may_stand powers x r) (append-nil (reverse done)) ∙ f),
    )

bad_left : (powers : List ℕ) (me : ℕ) (before : List Entry) (left : List ℕ) (others : List Entry) (rest : List ℕ) → (IsTorn left → ⊥) × ((content after : List ℕ) → IsContent content → left ≡ framed content ++ after → ⊥)
    → left ≡ entries_spelling me others ++ rest → AreInOrder powers me before others → IsTorn rest → ⊥
bad_left powers me before left [] rest bad e l t = bad.0 (subst IsTorn (sym e) t)
bad_left powers me before left (r ∷ others) rest bad e l t = bad.1 (entry_content me r) (entries_spelling me others ++ rest) (fits_entry me r l.0) (e ∙ first_framed me r others rest)

-- what follows stands behind the rest
pub whole_more : (bytes front rest more : List ℕ) → bytes ≡ front ++ rest → bytes ++ more ≡ front ++ (rest ++ more)
whole_more bytes front rest more e = ap (λ (x : List ℕ). x ++ more) e ∙ append_assoc front rest more

front_number : (bytes more : List ℕ) → 4 ≤ length bytes → big_number 4 (bytes ++ more) ≡ big_number 4 bytes
front_number [] more long = absurd (omega (arith, long))
front_number (a ∷ []) more long = absurd (omega (arith, long))
front_number (a ∷ b ∷ []) more long = absurd (omega (arith, long))
front_number (a ∷ b ∷ c ∷ []) more long = absurd (omega (arith, long))
front_number (a ∷ b ∷ c ∷ d ∷ rest) more long = refl

-- what begins with a length that no record has is no journal, whatever follows
pub scan_bad : (powers : List ℕ) (me : ℕ) (bytes : List ℕ) (done : List Entry) (left : List ℕ) → bytes ≡ entries_spelling me done ++ left → AreInOrder powers me [] done
    → 4 ≤ length left → (1 ≤ big_number 4 left → big_number 4 left ≤ 1100000 → ⊥) → IsNotRead powers me bytes BadRecord
scan_bad powers me bytes done left whole lawful long outside = λ more rs s.
    let number = front_number left more long in
    let bad = bad_front (left ++ more) (omega (arith, long, length-append left more)) (λ low high. outside (omega (arith, number, low)) (omega (arith, number, high))) in
    let g = goes_on powers me [] done (left ++ more) s.entries s.rest lawful s.lawful s.torn (sym (whole_more bytes (entries_spelling me done) left more whole) ∙ s.whole) in
    bad_left powers me (reverse done ++ []) (left ++ more) g.others s.rest bad g.whole g.lawful s.torn

refused_left : (powers : List ℕ) (me : ℕ) (before : List Entry) (left content after : List ℕ) (others : List Entry) (rest : List ℕ) → IsContent content → left ≡ framed content ++ after
    → ((e : Entry) → SpellsEntry me content e → may_stand powers before e ≡ true → ⊥) → left ≡ entries_spelling me others ++ rest → AreInOrder powers me before others → IsTorn rest → ⊥
refused_left powers me before left content after [] rest h front refused e l t = torn_is_short left content after h front (subst IsTorn (sym e) t)
refused_left powers me before left content after (r ∷ others) rest h front refused e l t =
    let c = same_content content after (entry_content me r) (entries_spelling me others ++ rest) h (fits_entry me r l.0) (sym front ∙ e ∙ first_framed me r others rest) in
    refused r (record { lawful = l.0; same = c.0 }) l.1

-- what is refused behind what was read is no journal, whatever follows
pub scan_refused : (powers : List ℕ) (me : ℕ) (bytes : List ℕ) (done : List Entry) (left content after : List ℕ) (standing : Standing) (e : JournalFault) → bytes ≡ entries_spelling me done ++ left → AreInOrder powers me [] done
    → IsContent content → left ≡ framed content ++ after → IsTaken powers me (reverse done) content standing (Err e) → IsNotRead powers me bytes e
scan_refused powers me bytes done left content after standing Failed whole lawful h front taken = taken
scan_refused powers me bytes done left content after standing OutOfMemory whole lawful h front taken = tt
scan_refused powers me bytes done left content after standing BadRecord whole lawful h front taken = λ more rs s.
    let g = goes_on powers me [] done (left ++ more) s.entries s.rest lawful s.lawful s.torn (sym (whole_more bytes (entries_spelling me done) left more whole) ∙ s.whole) in
    let l : AreInOrder powers me (reverse done) g.others = subst (λ (x : List Entry). AreInOrder powers me x g.others) (append-nil (reverse done)) g.lawful in
    refused_left powers me (reverse done) (left ++ more) content (after ++ more) g.others s.rest h (whole_more left (framed content) after more front) taken g.whole l s.torn

-- ---- entries and their records

pub records_append : (es fs : List Entry) → records_in (es ++ fs) ≡ records_in es ++ records_in fs
records_append [] fs = refl
records_append (OfRecord r ∷ es) fs = ap (λ (x : List Record). r ∷ x) (records_append es fs)
records_append (Mark ∷ es) fs = records_append es fs

pub records_reverse : (es : List Entry) → records_in (reverse es) ≡ reverse (records_in es)
records_reverse [] = refl
records_reverse (OfRecord r ∷ es) = ap records_in (reverse-append (OfRecord r ∷ []) es) ∙ records_append (reverse es) (OfRecord r ∷ []) ∙ ap (λ (x : List Record). x ++ r ∷ []) (records_reverse es) ∙ sym (reverse-append (r ∷ []) (records_in es))
records_reverse (Mark ∷ es) = ap records_in (reverse-append (Mark ∷ []) es) ∙ records_append (reverse es) (Mark ∷ []) ∙ append-nil (records_in (reverse es)) ∙ records_reverse es

pub marked_append : (es fs : List Entry) → is_marked (es ++ fs) ≡ (is_marked es || is_marked fs)
marked_append [] fs = refl
marked_append (OfRecord r ∷ es) fs = marked_append es fs
marked_append (Mark ∷ es) fs = refl

or_false : (b : Bool) → (b || false) ≡ b
or_false true = refl
or_false false = refl

pub or_true : (b : Bool) → (b || true) ≡ true
or_true true = refl
or_true false = refl

pub marked_reverse : (es : List Entry) → is_marked (reverse es) ≡ is_marked es
marked_reverse [] = refl
marked_reverse (OfRecord r ∷ es) = ap is_marked (reverse-append (OfRecord r ∷ []) es) ∙ marked_append (reverse es) (OfRecord r ∷ []) ∙ or_false (is_marked (reverse es)) ∙ marked_reverse es
marked_reverse (Mark ∷ es) = ap is_marked (reverse-append (Mark ∷ []) es) ∙ marked_append (reverse es) (Mark ∷ []) ∙ or_true (is_marked (reverse es))

-- the records of entries in order are lawful
pub lawful_records : (powers : List ℕ) (me : ℕ) (before es : List Entry) → AreInOrder powers me before es → AreLawful powers me (records_in before) (records_in es)
unfolding may_stand
lawful_records powers me before [] l = tt
lawful_records powers me before (OfRecord r ∷ es) l = (l.0, (and_parts _ _ l.1).0, lawful_records powers me (OfRecord r ∷ before) es l.2)
lawful_records powers me before (Mark ∷ es) l = lawful_records powers me (Mark ∷ before) es l.2

-- behind a mark a record may stand that may follow
pub stands_behind : (powers : List ℕ) (es : List Entry) (rs : List Record) (r : Record) → records_in es ≡ rs → is_marked es ≡ true → may_follow powers (reverse rs) r ≡ true → may_stand powers (reverse es) (OfRecord r) ≡ true
unfolding may_stand
stands_behind powers es rs r is marked f =
    and_from _ _ (ap (λ (x : List Record). may_follow powers x r) (records_reverse es ∙ ap reverse is) ∙ f) (ap (λ b. b || has_early r) (marked_reverse es ∙ marked))

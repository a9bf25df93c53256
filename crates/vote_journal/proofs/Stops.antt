-- What a stop leaves of a journal is a journal of the same records, or has the one more that was being saved.
use Rattle.std.proofs.Common.{◌≡◌, ◌⊎◌, inl, inr, ℕ, zero, suc, ◌+◌, ◌-◌, ◌<◌, ◌≤◌, Bool, true, false, not, ◌||◌, List, [], ◌∷◌, ◌++◌, length, take, drop, reverse, refl, sym, ap, subst, ◌∙◌, arith, append_assoc, length-append}
use Rattle.std.proofs.lemmas.List.{append-nil, append_cancel_left, take-append-le, take_at, drop_at, length-take-le, take_all, take-take}
use Rattle.std.proofs.Math.Seq.{take-append-add}
use native.Mathlib.Decide.{dec_le}
use Rattle.byteorder.specs.Endian.{big_number}
use Rattle.transactions.specs.Fields.{number_bytes}
use Rattle.transactions.proofs.Formats.{length-number_bytes}
use Rattle.protocol.specs.Messages.{Record}
use Rattle.vote_journal.specs.Grammar.{header, framed, record_spelling, IsRecord, Entry, OfRecord, Mark, mark, entry_content, entry_spelling, entries_spelling, IsEntry}
use Rattle.vote_journal.specs.Order.{may_follow, AreLawful, records_in, is_marked, may_stand, AreInOrder}
use Rattle.vote_journal.specs.Layout.{IsContent, IsTorn, IsBegunHeader, Splits, IsJournal, IsWhole}
use Rattle.vote_journal.specs.Store.{Begun, Only, NoMore}
use Rattle.vote_journal.specs.declared.opening.Plan.{Plan}
use Rattle.vote_journal.specs.declared.stages.Behind.{Behind}
use Rattle.std.proofs.Common.{Ok, Err}
use Rattle.vote_journal.specs.declared.fault.JournalFault.{JournalFault}
use Rattle.vote_journal.specs.declared.fault.JournalFault.TheVariants.{Failed, OutOfMemory, BadRecord}
use Rattle.vote_journal.specs.Saving.{KeepsRecords, BegunOpening, added}
use Rattle.vote_journal.specs.Kept.{IsOpened}
use Rattle.vote_journal.specs.Planning.{IsNotRead, IsBehind, Comes, PlanFor, IsPlan}
use Rattle.vote_journal.specs.Laws.{StopLaw}
use Rattle.vote_journal.proofs.Layouts.{number_back, fits_entry, is_framed, same_entries, lawful_push, spelling_push, records_append, marked_append, marked_reverse, or_true, lawful_records, stands_behind}

-- ---- torn rests

short_take : (t : List ℕ) (k : ℕ) → length (take k t) ≤ length t
short_take [] zero = omega arith
short_take [] (suc k) = omega arith
short_take (x ∷ t) zero = omega arith
short_take (x ∷ t) (suc k) = omega (arith, short_take t k)

-- a beginning of a torn rest is torn
pub torn_less : (t : List ℕ) (k : ℕ) → IsTorn t → IsTorn (take k t)
torn_less t k (inl short) = inl (omega (arith, short_take t k))
torn_less [] k (inr h) = inl (omega (arith, short_take [] k))
torn_less (a ∷ []) k (inr h) = inl (omega (arith, short_take (a ∷ []) k))
torn_less (a ∷ b ∷ []) k (inr h) = inl (omega (arith, short_take (a ∷ b ∷ []) k))
torn_less (a ∷ b ∷ c ∷ []) k (inr h) = inl (omega (arith, short_take (a ∷ b ∷ c ∷ []) k))
torn_less (a ∷ b ∷ c ∷ d ∷ t) zero (inr h) = inl (omega arith)
torn_less (a ∷ b ∷ c ∷ d ∷ t) (suc zero) (inr h) = inl (omega arith)
torn_less (a ∷ b ∷ c ∷ d ∷ t) (suc (suc zero)) (inr h) = inl (omega arith)
torn_less (a ∷ b ∷ c ∷ d ∷ t) (suc (suc (suc zero))) (inr h) = inl (omega arith)
torn_less (a ∷ b ∷ c ∷ d ∷ t) (suc (suc (suc (suc k)))) (inr h) = inr (h.0, h.1, omega (arith, h.2, short_take t k))

-- less than all of a framed content is torn
torn_by : (n content : List ℕ) (k : ℕ) → length n ≡ 4 → ((m : ℕ) → big_number 4 (n ++ take m content) ≡ length content) → IsContent content → k < 4 + length content → Dec (4 ≤ k) → IsTorn (take k (n ++ content))
torn_by n content k four number h less (no d) = inl (omega (arith, short_length k (n ++ content)))
  where
    short_length : (k : ℕ) (t : List ℕ) → length (take k t) ≤ k
    short_length zero [] = omega arith
    short_length zero (x ∷ t) = omega arith
    short_length (suc k) [] = omega arith
    short_length (suc k) (x ∷ t) = omega (arith, short_length k t)
torn_by n content k four number h less (yes d) =
    let m = k - 4 in
    let size : k ≡ length n + m = omega (arith, four, d) in
    let is : take k (n ++ content) ≡ n ++ take m content = ap (λ (j : ℕ). take j (n ++ content)) size ∙ take-append-add n content m in
    subst IsTorn (sym is) (inr (omega (arith, number m, h.0), omega (arith, number m, h.1), omega (arith, number m, ap length (behind m), length-take-le m content (omega arith))))
  where
    behind : (m : ℕ) → drop 4 (n ++ take m content) ≡ take m content
    behind m = drop_at n (take m content) 4 four

pub torn_part : (content : List ℕ) (k : ℕ) → IsContent content → k < length (framed content) → IsTorn (take k (framed content))
unfolding framed
torn_part content k h less =
    let n = number_bytes 4 (length content) in
    let four : length n ≡ 4 = length-number_bytes 4 (length content) in
    torn_by n content k four (λ m. number_back (length content) (take m content) h.1) h (omega (arith, less, length-append n content, four)) (dec_le 4 k)

-- ---- journals

none_torn : IsTorn []
none_torn = inl (omega arith)

pub whole_is_journal : (powers : List ℕ) (me : ℕ) (bytes : List ℕ) (rs : List Record) → IsWhole powers me bytes rs → IsJournal powers me bytes rs
whole_is_journal powers me bytes rs w =
    inr (entries_spelling me w.entries, w.same, record { entries = w.entries; records = w.records; rest = []; whole = sym (append-nil (entries_spelling me w.entries)); lawful = w.lawful; torn = none_torn })

-- and its records are lawful
pub whole_lawful : (powers : List ℕ) (me : ℕ) (bytes : List ℕ) (rs : List Record) → IsWhole powers me bytes rs → AreLawful powers me [] rs
whole_lawful powers me bytes rs w = subst (AreLawful powers me []) w.records (lawful_records powers me [] w.entries w.lawful)

short_header : (bytes : List ℕ) → IsBegunHeader bytes → length bytes < 4
short_header bytes h = omega (arith, h.1, ap length h.2, length-take-le h.0 header (omega (arith, h.1)))

long_header : (bytes behind : List ℕ) → bytes ≡ header ++ behind → 4 ≤ length bytes
long_header bytes behind e = omega (arith, ap length e)

-- bytes are the journal of one list of records
pub one_journal : (powers : List ℕ) (me : ℕ) (bytes : List ℕ) (rs rs' : List Record) → IsJournal powers me bytes rs → IsJournal powers me bytes rs' → rs ≡ rs'
one_journal powers me bytes rs rs' (inl h) (inl k) = h.1 ∙ sym k.1
one_journal powers me bytes rs rs' (inl h) (inr k) = absurd (omega (arith, short_header bytes h.0, long_header bytes k.0 k.1))
one_journal powers me bytes rs rs' (inr h) (inl k) = absurd (omega (arith, short_header bytes k.0, long_header bytes h.0 h.1))
one_journal powers me bytes rs rs' (inr h) (inr k) =
    let behind : h.0 ≡ k.0 = append_cancel_left header h.0 k.0 (sym h.1 ∙ k.1) in
    sym h.2.records ∙ ap records_in (same_entries powers me [] h.2.entries k.2.entries h.2.rest k.2.rest h.2.lawful k.2.lawful h.2.torn k.2.torn (sym h.2.whole ∙ behind ∙ k.2.whole)) ∙ k.2.records

-- a beginning of the header holds no record, and so does the header
pub header_part : (powers : List ℕ) (me k : ℕ) → IsJournal powers me (take k header) []
header_part powers me zero = inl ((0, omega arith, refl), refl)
header_part powers me (suc zero) = inl ((1, omega arith, refl), refl)
header_part powers me (suc (suc zero)) = inl ((2, omega arith, refl), refl)
header_part powers me (suc (suc (suc zero))) = inl ((3, omega arith, refl), refl)
header_part powers me (suc (suc (suc (suc k)))) = inr ([], ap (λ (x : List ℕ). header ++ x) (take_all k [] (omega arith)), record { entries = []; records = refl; rest = []; whole = refl; lawful = tt; torn = none_torn })

-- ---- one more entry

pub entry_is : (me : ℕ) (r : Record) → entry_spelling me (OfRecord r) ≡ record_spelling me r
unfolding entry_spelling record_spelling
entry_is me r = refl

pub mark_is : (me : ℕ) → entry_spelling me Mark ≡ mark
unfolding entry_spelling framed number_bytes
mark_is me = refl

-- entries and all of one more, or a part of it
by_length : (powers : List ℕ) (me : ℕ) (es : List Entry) (e : Entry) (k : ℕ) (c : List ℕ) → AreInOrder powers me [] es → IsEntry me e → may_stand powers (reverse es) e ≡ true
    → c ≡ header ++ (entries_spelling me es ++ take k (entry_spelling me e)) → Dec (length (entry_spelling me e) ≤ k) → IsJournal powers me c (records_in es) ⊎ IsJournal powers me c (records_in (es ++ e ∷ []))
by_length powers me es e k c l h f is (yes d) =
    let all : c ≡ header ++ entries_spelling me (es ++ e ∷ []) = is ∙ ap (λ (x : List ℕ). header ++ (entries_spelling me es ++ x)) (take_all k (entry_spelling me e) d) ∙ ap (λ (x : List ℕ). header ++ x) (sym (spelling_push me es e)) in
    let lawful : AreInOrder powers me [] (es ++ e ∷ []) = lawful_push powers me [] es e l h (ap (λ (x : List Entry). may_stand powers x e) (append-nil (reverse es)) ∙ f) in
    inr (inr (entries_spelling me (es ++ e ∷ []), all, record { entries = es ++ e ∷ []; records = refl; rest = []; whole = sym (append-nil (entries_spelling me (es ++ e ∷ []))); lawful = lawful; torn = none_torn }))
by_length powers me es e k c l h f is (no d) =
    let rest = take k (entry_spelling me e) in
    let framing = is_framed me e in
    let less : k < length (framed (entry_content me e)) = omega (arith, ap length framing) in
    let torn : IsTorn rest = subst (λ (x : List ℕ). IsTorn (take k x)) (sym framing) (torn_part (entry_content me e) k (fits_entry me e h) less) in
    inl (inr (entries_spelling me es ++ rest, is, record { entries = es; records = refl; rest = rest; whole = refl; lawful = l; torn = torn }))

begun_entry : (powers : List ℕ) (me : ℕ) (es : List Entry) (e : Entry) (k : ℕ) (c : List ℕ) → AreInOrder powers me [] es → IsEntry me e → may_stand powers (reverse es) e ≡ true
    → c ≡ header ++ (entries_spelling me es ++ take k (entry_spelling me e)) → IsJournal powers me c (records_in es) ⊎ IsJournal powers me c (records_in (es ++ e ∷ []))
begun_entry powers me es e k c l h f is = by_length powers me es e k c l h f is (dec_le (length (entry_spelling me e)) k)

one_more : (es : List Entry) (rs : List Record) (r : Record) → records_in es ≡ rs → records_in (es ++ OfRecord r ∷ []) ≡ rs ++ r ∷ []
one_more es rs r is = records_append es (OfRecord r ∷ []) ∙ ap (λ (x : List Record). x ++ r ∷ []) is

-- what a save leaves at any stop
pub saving_leaves : (powers : List ℕ) (me : ℕ) (stood : List ℕ) (rs : List Record) (r : Record) (c : List ℕ) → IsWhole powers me stood rs → IsRecord me r → may_follow powers (reverse rs) r ≡ true
    → Begun stood (record_spelling me r) c → IsJournal powers me c rs ⊎ IsJournal powers me c (rs ++ r ∷ [])
saving_leaves powers me stood rs r c w h f b =
    let text : record_spelling me r ≡ entry_spelling me (OfRecord r) = sym (entry_is me r) in
    let e : c ≡ header ++ (entries_spelling me w.entries ++ take b.0 (entry_spelling me (OfRecord r))) =
    b.1 ∙ ap (λ (x : List ℕ). stood ++ take b.0 x) text ∙ ap (λ (x : List ℕ). x ++ take b.0 (entry_spelling me (OfRecord r))) w.same ∙ append_assoc header (entries_spelling me w.entries) (take b.0 (entry_spelling me (OfRecord r))) in
    elim (begun_entry powers me w.entries (OfRecord r) b.0 c w.lawful h (stands_behind powers w.entries rs r w.records w.marked f) e) [
      | inl j ↦ inl (subst (IsJournal powers me c) w.records j)
      | inr j ↦ inr (subst (IsJournal powers me c) (one_more w.entries rs r w.records) j)
    ]

-- ---- opening

-- a cut at the end of the last whole record, or behind it, takes no record
pub cut_leaves : (powers : List ℕ) (me keep k : ℕ) (bytes behind : List ℕ) (rs : List Record) → bytes ≡ header ++ behind → (s : Splits powers me behind rs) → keep + length s.rest ≡ length bytes → keep ≤ k → IsJournal powers me (take k bytes) rs
cut_leaves powers me keep k bytes behind rs e s room le =
    let front = header ++ entries_spelling me s.entries in
    let all : bytes ≡ front ++ s.rest = e ∙ ap (λ (x : List ℕ). header ++ x) s.whole ∙ sym (append_assoc header (entries_spelling me s.entries) s.rest) in
    let len : length front ≡ keep = omega (arith, room, ap length all, length-append front s.rest) in
    let m = k - length front in
    let size : k ≡ length front + m = omega (arith, len, le) in
    let cut : take k bytes ≡ header ++ (entries_spelling me s.entries ++ take m s.rest) = ap (take k) all ∙ ap (λ (j : ℕ). take j (front ++ s.rest)) size ∙ take-append-add front s.rest m ∙ append_assoc header (entries_spelling me s.entries) (take m s.rest) in
    inr (entries_spelling me s.entries ++ take m s.rest, cut, record { entries = s.entries; records = s.records; rest = take m s.rest; whole = refl; lawful = s.lawful; torn = torn_less s.rest m s.torn })

-- and what is kept is the whole entries
pub cut_front : (powers : List ℕ) (me keep : ℕ) (bytes behind : List ℕ) (rs : List Record) → bytes ≡ header ++ behind → (s : Splits powers me behind rs) → keep + length s.rest ≡ length bytes → take keep bytes ≡ header ++ entries_spelling me s.entries
cut_front powers me keep bytes behind rs e s room =
    let front = header ++ entries_spelling me s.entries in
    let all : bytes ≡ front ++ s.rest = e ∙ ap (λ (x : List ℕ). header ++ x) s.whole ∙ sym (append_assoc header (entries_spelling me s.entries) s.rest) in
    let len : length front ≡ keep = omega (arith, room, ap length all, length-append front s.rest) in
    ap (take keep) all ∙ take_at front s.rest keep len

-- a mark may stand where there is none
mark_stands : (powers : List ℕ) (es : List Entry) → is_marked es ≡ false → may_stand powers (reverse es) Mark ≡ true
unfolding may_stand
mark_stands powers es h = ap not (marked_reverse es ∙ h)

-- and takes no record away, cut short or not
mark_begun : (powers : List ℕ) (me : ℕ) (es : List Entry) (k : ℕ) (c : List ℕ) → AreInOrder powers me [] es → is_marked es ≡ false → c ≡ header ++ (entries_spelling me es ++ take k mark) → IsJournal powers me c (records_in es)
mark_begun powers me es k c l unmarked e =
    let text : c ≡ header ++ (entries_spelling me es ++ take k (entry_spelling me Mark)) = e ∙ ap (λ (x : List ℕ). header ++ (entries_spelling me es ++ take k x)) (sym (mark_is me)) in
    let same : records_in (es ++ Mark ∷ []) ≡ records_in es = records_append es (Mark ∷ []) ∙ append-nil (records_in es) in
    elim (begun_entry powers me es Mark k c l tt (mark_stands powers es unmarked) text) [
      | inl j ↦ j
      | inr j ↦ subst (IsJournal powers me c) same j
    ]

mark_whole : (powers : List ℕ) (me : ℕ) (es : List Entry) (rs : List Record) (c : List ℕ) → AreInOrder powers me [] es → records_in es ≡ rs → is_marked es ≡ false → c ≡ header ++ (entries_spelling me es ++ mark) → IsWhole powers me c rs
mark_whole powers me es rs c l is unmarked e = record {
  entries = es ++ Mark ∷ [];
  records = records_append es (Mark ∷ []) ∙ append-nil (records_in es) ∙ is;
  same = e ∙ ap (λ (x : List ℕ). header ++ (entries_spelling me es ++ x)) (sym (mark_is me)) ∙ ap (λ (x : List ℕ). header ++ x) (sym (spelling_push me es Mark));
  lawful = lawful_push powers me [] es Mark l tt (ap (λ (x : List Entry). may_stand powers x Mark) (append-nil (reverse es)) ∙ mark_stands powers es unmarked);
  marked = marked_append es (Mark ∷ []) ∙ or_true (is_marked es);
}

-- the header and the mark, as an empty journal has them
pub front_whole : (powers : List ℕ) (me : ℕ) → IsWhole powers me (header ++ mark) []
front_whole powers me = mark_whole powers me [] [] (header ++ mark) tt refl refl refl

-- ---- the laws

pub stop_holds : StopLaw
stop_holds = λ powers me stood rs r c w h f b. one_of powers me rs r c (saving_leaves powers me stood rs r c w h f b)
  where
    one_of : (powers : List ℕ) (me : ℕ) (rs : List Record) (r : Record) (c : List ℕ) → IsJournal powers me c rs ⊎ IsJournal powers me c (rs ++ r ∷ []) → (found : List Record) × IsJournal powers me c found × ((found ≡ rs) ⊎ (found ≡ rs ++ r ∷ []))
    one_of powers me rs r c (inl j) = (rs, j, inl refl)
    one_of powers me rs r c (inr j) = (rs ++ r ∷ [], j, inr refl)

-- ---- what stands after a save

pub whole_push : (powers : List ℕ) (me : ℕ) (stood now : List ℕ) (rs : List Record) (r : Record) → IsWhole powers me stood rs → IsRecord me r → may_follow powers (reverse rs) r ≡ true → now ≡ stood ++ record_spelling me r → IsWhole powers me now (rs ++ r ∷ [])
whole_push powers me stood now rs r w h f e = record {
  entries = w.entries ++ OfRecord r ∷ [];
  records = one_more w.entries rs r w.records;
  same = e ∙ ap (λ (x : List ℕ). stood ++ x) (sym (entry_is me r)) ∙ ap (λ (x : List ℕ). x ++ entry_spelling me (OfRecord r)) w.same ∙ append_assoc header (entries_spelling me w.entries) (entry_spelling me (OfRecord r))
      ∙ ap (λ (x : List ℕ). header ++ x) (sym (spelling_push me w.entries (OfRecord r)));
  lawful = lawful_push powers me [] w.entries (OfRecord r) w.lawful h (ap (λ (x : List Entry). may_stand powers x (OfRecord r)) (append-nil (reverse w.entries)) ∙ stands_behind powers w.entries rs r w.records w.marked f);
  marked = marked_append w.entries (OfRecord r ∷ []) ∙ ap (λ b. b || false) w.marked;
}

nil_take : (l : List ℕ) → take 0 l ≡ []
nil_take [] = refl
nil_take (x ∷ l) = refl

pub begun_none : (stood bytes c : List ℕ) → c ≡ stood → Begun stood bytes c
begun_none stood bytes c e = (0, e ∙ sym (append-nil stood) ∙ ap (λ (x : List ℕ). stood ++ x) (sym (nil_take bytes)))

-- a stop in a call that appends to what was synced leaves that with a beginning of the bytes
pub begun_by : (stood bytes c : List ℕ) (old : List ℕ → Type 0) → Only stood old → old c ⊎ Begun stood bytes c → Begun stood bytes c
begun_by stood bytes c old only (inl h) = begun_none stood bytes c (only c h)
begun_by stood bytes c old only (inr h) = h

-- a stop in a save over what was synced
pub save_leaves : (powers : List ℕ) (me : ℕ) (stood bytes : List ℕ) (rs : List Record) (r : Record) (c : List ℕ) (old : List ℕ → Type 0) → Only stood old → bytes ≡ record_spelling me r → old c ⊎ Begun stood bytes c
    → IsWhole powers me stood rs → IsRecord me r → may_follow powers (reverse rs) r ≡ true → IsJournal powers me c rs ⊎ IsJournal powers me c (rs ++ r ∷ [])
save_leaves powers me stood bytes rs r c old only e b w h f =
    saving_leaves powers me stood rs r c w h f (subst (λ (x : List ℕ). Begun stood x c) e (begun_by stood bytes c old only b))

-- ---- what opening leaves

fresh_cut : (powers : List ℕ) (me k : ℕ) (bytes : List ℕ) → IsBegunHeader bytes → IsJournal powers me (take k bytes) []
fresh_cut powers me k bytes h = fresh_by (dec_le k h.0)
  where
    fresh_by : Dec (k ≤ h.0) → IsJournal powers me (take k bytes) []
    fresh_by (yes d) = subst (λ (x : List ℕ). IsJournal powers me x []) (sym (ap (take k) h.2 ∙ take-take k h.0 header d)) (header_part powers me k)
    fresh_by (no d) =
        let len : length (take h.0 header) ≡ h.0 = length-take-le h.0 header (omega (arith, h.1)) in
        subst (λ (x : List ℕ). IsJournal powers me x []) (sym (ap (take k) h.2 ∙ take_all k (take h.0 header) (omega (arith, len, d)))) (header_part powers me h.0)

-- a beginning of the header and the mark holds no record
front_part : (powers : List ℕ) (me k : ℕ) → IsJournal powers me (take k (header ++ mark)) []
front_part powers me zero = header_part powers me 0
front_part powers me (suc zero) = header_part powers me 1
front_part powers me (suc (suc zero)) = header_part powers me 2
front_part powers me (suc (suc (suc zero))) = header_part powers me 3
front_part powers me (suc (suc (suc (suc k)))) = mark_begun powers me [] k (header ++ take k mark) tt refl refl

-- opening over a header that was cut short leaves a beginning of the header and the mark
pub fresh_leaves : (powers : List ℕ) (me : ℕ) (bytes c : List ℕ) → IsBegunHeader bytes → BegunOpening 0 true false bytes c → IsJournal powers me c []
fresh_leaves powers me bytes c h (inl s) = subst (λ (x : List ℕ). IsJournal powers me x []) (sym s.2) (fresh_cut powers me s.0 bytes h)
fresh_leaves powers me bytes c h (inr b) =
    let e : c ≡ take b.0 (header ++ mark) = b.1 ∙ ap (λ (x : List ℕ). x ++ take b.0 (header ++ mark)) (nil_take bytes) in
    subst (λ (x : List ℕ). IsJournal powers me x []) (sym e) (front_part powers me b.0)

take_none : (k : ℕ) → take {A = ℕ} k [] ≡ []
take_none zero = refl
take_none (suc k) = refl

-- behind whole entries a beginning of the mark, where it is missing
old_leaves : (powers : List ℕ) (me keep : ℕ) (bytes c behind : List ℕ) (rs : List Record) (marked : Bool) → bytes ≡ header ++ behind → (s : Splits powers me behind rs) → keep + length s.rest ≡ length bytes → is_marked s.entries ≡ marked
    → BegunOpening keep false marked bytes c → IsJournal powers me c rs
old_leaves powers me keep bytes c behind rs marked e s room has (inl d) = subst (λ (x : List ℕ). IsJournal powers me x rs) (sym d.2) (cut_leaves powers me keep d.0 bytes behind rs e s room d.1)
old_leaves powers me keep bytes c behind rs true e s room has (inr b) =
    let is : c ≡ take keep bytes = b.1 ∙ ap (λ (x : List ℕ). take keep bytes ++ x) (take_none b.0) ∙ append-nil (take keep bytes) in
    subst (λ (x : List ℕ). IsJournal powers me x rs) (sym is) (cut_leaves powers me keep keep bytes behind rs e s room (omega arith))
old_leaves powers me keep bytes c behind rs false e s room has (inr b) =
    let is : c ≡ header ++ (entries_spelling me s.entries ++ take b.0 mark) = b.1 ∙ ap (λ (x : List ℕ). x ++ take b.0 mark) (cut_front powers me keep bytes behind rs e s room) ∙ append_assoc header (entries_spelling me s.entries) (take b.0 mark) in
    subst (IsJournal powers me c) s.records (mark_begun powers me s.entries b.0 c s.lawful has is)

-- Opening keeps the records of what it read.
pub opening_keeps : (powers : List ℕ) (me : ℕ) (bytes c : List ℕ) (rs : List Record) (keep : ℕ) (fresh marked : Bool) → PlanFor fresh marked powers me bytes rs keep → BegunOpening keep fresh marked bytes c → KeepsRecords powers me bytes c
opening_keeps powers me bytes c rs keep true marked plan b = λ others j.
    let none : [] ≡ others = one_journal powers me bytes [] others (inl (plan.0, refl)) j in
    let here : BegunOpening 0 true false bytes c = subst (λ (k : ℕ). BegunOpening k true false bytes c) plan.2 (subst (λ m. BegunOpening keep true m bytes c) plan.3 b) in
    subst (IsJournal powers me c) none (fresh_leaves powers me bytes c plan.0 here)
opening_keeps powers me bytes c rs keep false marked plan b = λ others j.
    let one : rs ≡ others = one_journal powers me bytes rs others (inr (plan.0, plan.1, plan.2)) j in
    subst (IsJournal powers me c) one (old_leaves powers me keep bytes c plan.0 rs marked plan.1 plan.2 plan.3 plan.4 b)

-- what opening read is a journal of the records that are planned for
pub plan_holds : (powers : List ℕ) (me : ℕ) (bytes : List ℕ) (rs : List Record) (keep : ℕ) (fresh marked : Bool) → PlanFor fresh marked powers me bytes rs keep → IsJournal powers me bytes rs
plan_holds powers me bytes rs keep true marked plan = inl (plan.0, plan.1)
plan_holds powers me bytes rs keep false marked plan = inr (plan.0, plan.1, plan.2)

-- and what then stands is whole
pub plan_whole : (powers : List ℕ) (me : ℕ) (bytes now : List ℕ) (rs : List Record) (keep : ℕ) (fresh marked : Bool) → PlanFor fresh marked powers me bytes rs keep → now ≡ take keep bytes ++ added fresh marked → IsWhole powers me now rs
plan_whole powers me bytes now rs keep true marked plan e =
    let all : now ≡ header ++ mark = e ∙ ap (λ m. take keep bytes ++ added true m) plan.3 ∙ ap (λ (k : ℕ). take k bytes ++ (header ++ mark)) plan.2 ∙ ap (λ (x : List ℕ). x ++ (header ++ mark)) (nil_take bytes) in
    subst (IsWhole powers me now) (sym plan.1) (subst (λ (x : List ℕ). IsWhole powers me x []) (sym all) (front_whole powers me))
plan_whole powers me bytes now rs keep false true plan e =
    let s = plan.2 in
    record { entries = s.entries; records = s.records; same = e ∙ append-nil (take keep bytes) ∙ cut_front powers me keep bytes plan.0 rs plan.1 s plan.3; lawful = s.lawful; marked = plan.4 }
plan_whole powers me bytes now rs keep false false plan e =
    let s = plan.2 in
    mark_whole powers me s.entries rs now s.lawful s.records plan.4 (e ∙ ap (λ (x : List ℕ). x ++ mark) (cut_front powers me keep bytes plan.0 rs plan.1 s plan.3) ∙ append_assoc header (entries_spelling me s.entries) mark)

pub plan_keep : (powers : List ℕ) (me : ℕ) (bytes : List ℕ) (rs : List Record) (keep : ℕ) (fresh marked : Bool) → PlanFor fresh marked powers me bytes rs keep → keep ≤ length bytes
plan_keep powers me bytes rs keep true marked plan = omega (arith, plan.2)
plan_keep powers me bytes rs keep false marked plan = omega (arith, plan.3)

-- what is kept of a plan's records is what was opened
pub plan_opened : (powers : List ℕ) (me : ℕ) (bytes now : List ℕ) (old : List ℕ → Type 0) (p : Plan) → IsPlan powers me bytes (Ok p) → old bytes → now ≡ take p.keep bytes ++ added p.fresh p.marked
    → IsOpened powers me old now p.kept.decisions.items p.kept.own.items
plan_opened powers me bytes now old p plan here e = record {
  rs = plan.0;
  found = (bytes, here, plan_holds powers me bytes plan.0 p.keep p.fresh p.marked plan.1);
  whole = plan_whole powers me bytes now plan.0 p.keep p.fresh p.marked plan.1 e;
  keeps = plan.2;
}

-- whatever stands or is left has the records of what was read, or is something that stood
pub opening_leaves : (powers : List ℕ) (me : ℕ) (bytes seen x : List ℕ) (p : Plan) (old mid : List ℕ → Type 0) → seen ≡ bytes → IsPlan powers me bytes (Ok p) → old bytes → NoMore old mid
    → mid x ⊎ BegunOpening p.keep p.fresh p.marked seen x → (d : List ℕ) × old d × KeepsRecords powers me d x
opening_leaves powers me bytes seen x p old mid is plan here fewer (inl h) = (x, fewer x h, λ rs j. j)
opening_leaves powers me bytes seen x p old mid is plan here fewer (inr b) =
    (bytes, here, opening_keeps powers me bytes x plan.0 p.keep p.fresh p.marked plan.1 (subst (λ (s : List ℕ). BegunOpening p.keep p.fresh p.marked s x) is b))

-- ---- which bytes have no header

pub begun_header : (bytes : List ℕ) → length bytes < 4 → bytes ≡ take (length bytes) header → IsBegunHeader bytes
begun_header bytes short e = (length bytes, short, e)

pub no_begun_header : (powers : List ℕ) (me : ℕ) (bytes : List ℕ) → length bytes < 4 → (bytes ≡ take (length bytes) header → ⊥) → (rs : List Record) → IsJournal powers me bytes rs → ⊥
no_begun_header powers me bytes short differs rs (inl h) =
    let len : length bytes ≡ h.0.0 = ap length h.0.2 ∙ length-take-le h.0.0 header (omega (arith, h.0.1)) in
    differs (h.0.2 ∙ ap (λ (k : ℕ). take k header) (sym len))
no_begun_header powers me bytes short differs rs (inr h) = omega (arith, short, long_header bytes h.0 h.1)

pub other_header : (powers : List ℕ) (me : ℕ) (bytes : List ℕ) → 4 ≤ length bytes → (take 4 bytes ≡ header → ⊥) → (rs : List Record) → IsJournal powers me bytes rs → ⊥
other_header powers me bytes long differs rs (inl h) = omega (arith, long, short_header bytes h.0)
other_header powers me bytes long differs rs (inr h) = differs (ap (take 4) h.1 ∙ take_at header h.0 4 refl)

-- behind a header stands what is told of what follows it
pub behind_is : (powers : List ℕ) (me : ℕ) (behind : List ℕ) (rs : List Record) → IsJournal powers me (header ++ behind) rs → Splits powers me behind rs
behind_is powers me behind rs (inl h) = absurd (omega (arith, short_header (header ++ behind) h.0, length-append header behind))
behind_is powers me behind rs (inr h) = subst (λ (x : List ℕ). Splits powers me x rs) (sym (append_cancel_left header behind h.0 h.1)) h.2

-- so what can't be read there is no journal's
pub not_behind : (powers : List ℕ) (me : ℕ) (bytes behind : List ℕ) (e : JournalFault) → bytes ≡ header ++ behind → IsNotRead powers me behind e → Comes powers me bytes (Err e)
not_behind powers me bytes behind Failed is h = h
not_behind powers me bytes behind OutOfMemory is h = tt
not_behind powers me bytes behind BadRecord is h = λ more rs j.
    h more rs (behind_is powers me (behind ++ more) rs (subst (λ (x : List ℕ). IsJournal powers me x rs) (ap (λ (x : List ℕ). x ++ more) is ∙ append_assoc header behind more) j))

-- another header is none, whatever follows
pub not_header : (powers : List ℕ) (me : ℕ) (bytes : List ℕ) → 4 ≤ length bytes → (take 4 bytes ≡ header → ⊥) → Comes powers me bytes (Err BadRecord)
not_header powers me bytes long differs = λ more. other_header powers me (bytes ++ more) (omega (arith, long, length-append bytes more)) (λ e. differs (sym (take-append-le 4 bytes more long) ∙ e))

-- of a header, and of what was read behind it
pub plan_behind : (powers : List ℕ) (me : ℕ) (bytes behind : List ℕ) (b : Behind) → bytes ≡ header ++ behind → IsBehind powers me behind b
    → IsPlan powers me bytes (Ok (record { kept = b.kept; keep = b.read; torn = length b.left.items; fresh = false; marked = b.standing.marked }))
plan_behind powers me bytes behind b e h =
    let r = h.2 in
    let s : Splits powers me behind (records_in r.entries) = record { entries = r.entries; records = refl; rest = b.left.items; whole = r.whole; lawful = r.lawful; torn = h.0 } in
    (records_in r.entries, (behind, e, s, omega (arith, h.1, ap length e), sym (marked_reverse r.entries) ∙ sym r.remembers.marked), r.keeps)

-- what is no journal whatever follows is none by itself
pub plan_err : (powers : List ℕ) (me : ℕ) (bytes : List ℕ) (e : JournalFault) → Comes powers me bytes (Err e) → IsPlan powers me bytes (Err e)
plan_err powers me bytes Failed h = h
plan_err powers me bytes OutOfMemory h = tt
plan_err powers me bytes BadRecord h = λ rs j. h [] rs (subst (λ (x : List ℕ). IsJournal powers me x rs) (sym (append-nil bytes)) j)

-- ---- two appends, one behind the other

-- a beginning of the first is one of both
pub begun_front : (stood a b c : List ℕ) → Begun stood a c → Begun stood (a ++ b) c
begun_front stood a b c h = by_length (dec_le h.0 (length a))
  where
    by_length : Dec (h.0 ≤ length a) → Begun stood (a ++ b) c
    by_length (yes d) = (h.0, h.1 ∙ ap (λ (x : List ℕ). stood ++ x) (sym (take-append-le h.0 a b d)))
    by_length (no d) = (length a, h.1 ∙ ap (λ (x : List ℕ). stood ++ x) (take_all h.0 a (omega (arith, d)) ∙ sym (take_at a b (length a) refl)))

-- and so is a beginning of the second behind the first
pub begun_behind : (stood a b c : List ℕ) → Begun (stood ++ a) b c → Begun stood (a ++ b) c
begun_behind stood a b c h = (length a + h.0, h.1 ∙ append_assoc stood a (take h.0 b) ∙ ap (λ (x : List ℕ). stood ++ x) (sym (take-append-add a b h.0)))

-- What openings find after any calls and stops.
use Rattle.std.proofs.Common.{◌≡◌, ◌⊎◌, inl, inr, ℕ, true, false, List, [], ◌∷◌, ◌++◌, refl, sym, subst, ◌∙◌}
use Rattle.std.proofs.lemmas.Bool.{false≢true}
use Rattle.protocol.specs.Messages.{Record}
use Rattle.vote_journal.specs.Layout.{IsJournal, IsWhole}
use Rattle.vote_journal.specs.Store.{Only}
use Rattle.vote_journal.specs.History.{Call, Opened, NotOpened, Saved, NotSaved, Broken, Left, is_open, known, IsKnown, HasOpened, IsStep, Happened, last_store, calls_of}
use Rattle.vote_journal.specs.Saving.{HasNoJournal}
use Rattle.vote_journal.specs.Laws.{JournalLaw}
use Rattle.vote_journal.proofs.Stops.{whole_is_journal, one_journal}

module _ {S : Type 0} (seen : S → List ℕ) (may_leave : S → List ℕ → Type 0) (powers : List ℕ) (me : ℕ) (first : List Record) where
  -- what a stop leaves is a journal of known records
  abbrev pub IsLeft : List Call → List ℕ → Type 0
  IsLeft calls c = (rs : List Record) × IsJournal powers me c rs × IsKnown first calls rs

  -- while the journal is open, all of it is synced
  pub record Stands (calls : List Call) (store : S) : Type 0 where
    pub left : (c : List ℕ) → may_leave store c → IsLeft calls c
    pub whole : is_open calls ≡ true → IsWhole powers me (seen store) (known first calls)
    pub synced : is_open calls ≡ true → Only (seen store) (may_leave store)

  pub settled : (calls : List Call) (store : S) → IsWhole powers me (seen store) (known first calls) → Only (seen store) (may_leave store) → Stands calls store
  settled calls store w only = record {
    left = λ c h. (known first calls, subst (λ (x : List ℕ). IsJournal powers me x (known first calls)) (sym (only c h)) (whole_is_journal powers me (seen store) (known first calls) w), inl refl);
    whole = λ _. w;
    synced = λ _. only;
  }

  closed : (calls : List Call) (store : S) → is_open calls ≡ false → ((c : List ℕ) → may_leave store c → IsLeft calls c) → Stands calls store
  closed calls store shut left = record {
    left = left;
    whole = λ is. absurd (false≢true (sym shut ∙ is));
    synced = λ is. absurd (false≢true (sym shut ∙ is));
  }

  pub goes_on : (calls : List Call) (call : Call) (old new : S) → Stands calls old → IsStep seen may_leave powers me first calls call old new → Stands (call ∷ calls) new
  goes_on calls (Opened rs) old new s h = settled (Opened rs ∷ calls) new h.1.1 h.1.2
  goes_on calls (NotOpened fault) old new s h = closed (NotOpened fault ∷ calls) new refl (λ c l.
      let d = h.1.0 c l in
      let is = s.left d.0 d.1 in
      (is.0, d.2 is.0 is.1, is.2))
  goes_on calls (Saved r) old new s h =
      let may = h.0 in
      settled (Saved r ∷ calls) new (h.1.0 powers (known first calls) (s.whole may.0) may.1 may.2) h.1.1
  goes_on calls (NotSaved r) old new s h = record {
    left = λ c l. s.left c (h.1.1 c l);
    whole = λ is. subst (λ (x : List ℕ). IsWhole powers me x (known first calls)) (sym h.1.0) (s.whole is);
    synced = λ is c l. s.synced is c (h.1.1 c l) ∙ sym h.1.0;
  }
  goes_on calls (Broken r) old new s h = closed (Broken r ∷ calls) new refl (λ c l. by_half c (h.1 powers (known first calls) (s.whole h.0.0) h.0.1 h.0.2 c l))
    where
      by_half : (c : List ℕ) → IsJournal powers me c (known first calls) ⊎ IsJournal powers me c (known first calls ++ r ∷ []) → IsLeft (Broken r ∷ calls) c
      by_half c (inl j) = (known first calls, j, inl refl)
      by_half c (inr j) = (known first calls ++ r ∷ [], j, inr (r, refl, refl))
  goes_on calls Left old new s h = closed (Left ∷ calls) new refl (λ c l. s.left c (h.1 c l))

  -- an opening finds known records, and it never finds that there is no journal
  pub finds : (calls : List Call) (old new : S) (rs : List Record) → Stands calls old → HasOpened seen may_leave powers me old new rs → IsKnown first calls rs
  finds calls old new rs s o = let is = s.left o.0.0 o.0.1 in subst (IsKnown first calls) (one_journal powers me o.0.0 is.0 rs is.1 o.0.2) is.2

  pub never_bad : (calls : List Call) (old : S) → Stands calls old → HasNoJournal powers me (may_leave old) → ⊥
  never_bad calls old s d = let is = s.left d.0 d.1 in d.2 is.0 is.1

  stands : (start : S) (history : List (Call × S)) → IsWhole powers me (seen start) first → Only (seen start) (may_leave start) → Happened seen may_leave powers me first start history → Stands (calls_of history) (last_store start history)
  stands start [] w only h = settled [] start w only
  stands start (entry ∷ history) w only h = goes_on (calls_of history) entry.0 (last_store start history) entry.1 (stands start history w only h.0) h.1

pub journal_holds : {S : Type 0} (seen : S → List ℕ) (may_leave : S → List ℕ → Type 0) → JournalLaw seen may_leave
journal_holds seen may_leave powers me unopened start first history new opened h =
    let s = stands seen may_leave powers me first start history opened.1 opened.2 h in (
      λ found o. finds seen may_leave powers me first (calls_of history) (last_store start history) new found s o,
      λ bad. never_bad seen may_leave powers me first (calls_of history) (last_store start history) s (bad.1.1 refl),
    )

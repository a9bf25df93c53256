-- A plan is the account of its calls, in order of time.
use Rattle.std.proofs.Common.{◌≡◌, ℕ, zero, suc, ◌<◌, ◌≤◌, inl, inr, Bool, true, false, Some, None, List, [], ◌∷◌, ◌++◌, length, get_or, refl, sym, ◌∙◌, ap, subst, arith, leb, ltb, eqb}
use Rattle.std.specs.List.{All, AllWithin, filter}
use Rattle.std.specs.List.Sorted.{IsNonDecreasingBy}
use Rattle.std.proofs.lemmas.Bool.{cases_Bool, leb-true, leb-false, le-leb, lt-leb, lt-ltb, le-ltb, eqb-true, eqb-false, eq-eqb, ne_eqb}
use Rattle.std.proofs.lemmas.List.{append-nil}
use Rattle.std.proofs.lemmas.List.Elements.{filter-append, All-nil, All-cons, All-head, All-tail, All-same, All-filter, All-weaker}
use Rattle.std.proofs.lemmas.List.Kept.{IsNonDecreasingBy-filter}
use Rattle.protocol.specs.declared.types.Timeout.{Timeout}
use Rattle.timeouts.specs.Waiting.{Due, placed, given, left, of_heights_from}
use Rattle.timeouts.specs.Laws.{at_time, IsInTime, Next, IsGiven, AccountLaw}
use Rattle.timeouts.proofs.Filters.{filter_comm, filter_wide, filter_apart, Split, split_at_first, All_front, All_back}
use Rattle.timeouts.proofs.Placing.{IsPlaceOf, insert_is_placed, insert_is_ordered}

abbrev time : Due → ℕ
time d = d.at

abbrev is_at : ℕ → Due → Bool
is_at at d = eqb d.at at

-- ---- order

tail_ordered : (d : Due) (ds : List Due) → IsNonDecreasingBy time (d ∷ ds) → IsNonDecreasingBy time ds
tail_ordered d ds up i j x l m = up (suc i) (suc j) x (omega arith) (omega arith)

head_least : (d : Due) (ds : List Due) → IsNonDecreasingBy time (d ∷ ds) → All (λ e. d.at ≤ e.at) (d ∷ ds)
head_least d ds up k x h = up zero k x (omega arith) h

record Place (d : Due) (ds : List Due) : Type 0 where
  at : ℕ
  within : at ≤ length ds
  is : IsPlaceOf d ds at

place_of : (d : Due) (ds : List Due) → IsNonDecreasingBy time ds → Place d ds
place_of d [] up = record { at = 0; within = omega arith; is = (λ k x l m. absurd (omega arith), λ k x l m. absurd (omega arith)) }
place_of d (e ∷ ds) up = elim (cases_Bool (leb e.at d.at)) [
  | inl y ↦ (let p = place_of d ds (tail_ordered e ds up) in
      record { at = suc p.at; within = omega (arith, p.within); is = (front y p, back p) })
  | inr n ↦ record { at = 0; within = omega arith; is = (λ k x l m. absurd (omega arith), λ k x l m. lt-leb _ _ (let first : e.at ≤ (get_or (e ∷ ds) k x).at = head_least e ds up k x m in let below : d.at < e.at = leb-false _ _ n in omega arith)) }
]
  where
    front : leb e.at d.at ≡ true → (p : Place d ds) → AllWithin (λ e. leb e.at d.at ≡ true) (e ∷ ds) 0 (suc p.at)
    front y p zero x l m = y
    front y p (suc k) x l m = p.is.0 k x (omega arith) (omega arith)

    back : (p : Place d ds) → AllWithin (λ e. leb e.at d.at ≡ false) (e ∷ ds) (suc p.at) (length (e ∷ ds))
    back p zero x l m = absurd (omega arith)
    back p (suc k) x l m = p.is.1 k x (omega arith) (omega arith)

placed_ordered : (d : Due) (ds : List Due) → IsNonDecreasingBy time ds → IsNonDecreasingBy time (placed d ds)
placed_ordered d ds up =
    let p = place_of d ds up in
    subst (λ (es : List Due). IsNonDecreasingBy time es) (insert_is_placed d ds p.at p.within p.is) (insert_is_ordered d ds p.at p.within p.is up)

-- ---- each time by itself

placed_same : (d : Due) (ds : List Due) (at : ℕ) → at_time at (placed d ds) ≡ at_time at ds ++ at_time at (d ∷ [])
placed_same d ds at = filter-append (is_at at) (filter (λ e. leb e.at d.at) ds) (d ∷ filter (λ e. ltb d.at e.at) ds) ∙ elim (cases_Bool (leb at d.at)) [
  | inl y ↦ rw (
    filter_wide (λ e. leb e.at d.at) (is_at at) (λ e same. le-leb _ _ (let f : e.at ≡ at = eqb-true _ _ same in let g : at ≤ d.at = leb-true _ _ y in omega arith)) ds,
    filter_apart (λ e. ltb d.at e.at) (is_at at) (λ e same. le-ltb _ _ (let f : e.at ≡ at = eqb-true _ _ same in let g : at ≤ d.at = leb-true _ _ y in omega arith)) ds,
  ) refl
  | inr n ↦ (let other : eqb d.at at ≡ false = ne_eqb _ _ (λ e. let g : d.at < at = leb-false _ _ n in omega arith) in
      rw (
        filter_apart (λ e. leb e.at d.at) (is_at at) (λ e same. lt-leb _ _ (let f : e.at ≡ at = eqb-true _ _ same in let g : d.at < at = leb-false _ _ n in omega arith)) ds,
        other,
        filter_wide (λ e. ltb d.at e.at) (is_at at) (λ e same. lt-ltb _ _ (let f : e.at ≡ at = eqb-true _ _ same in let g : d.at < at = leb-false _ _ n in omega arith)) ds,
        append-nil (filter (is_at at) ds),
      ) refl)
]

each_time : (P : Due → Type 0) (ds : List Due) → ((at : ℕ) → All P (at_time at ds)) → All P ds
each_time P [] h = All-nil P
each_time P (d ∷ ds) h =
    All-cons P d ds (All-head P d (at_time d.at ds) (rw (eq-eqb d.at d.at refl) at (h d.at)))
    (each_time P ds (λ at. elim (cases_Bool (eqb d.at at)) [ inl y ↦ All-tail P d (at_time at ds) (rw y at (h at)) | inr n ↦ rw n at (h at) ]))

-- what holds of all that wait in the plan holds of the account
of_account : (P : Due → Type 0) (account ds : List Due) → IsInTime account ds → All P ds → All P account
of_account P account ds a h = each_time P account (λ at. All-same P (at_time at account) (at_time at ds) (sym (a.same at)) (All-filter (is_at at) P ds h))

-- ---- the calls

scheduled : (account ds : List Due) → IsInTime account ds → (d : Due) → IsInTime (account ++ d ∷ []) (placed d ds)
scheduled account ds a d = record {
  ordered = placed_ordered d ds a.ordered;
  same = λ at. placed_same d ds at ∙ ap (λ (es : List Due). es ++ at_time at (d ∷ [])) (a.same at) ∙ sym (filter-append (is_at at) account (d ∷ []));
}

forgotten : (account ds : List Due) → IsInTime account ds → (height : ℕ) → IsInTime (of_heights_from height account) (of_heights_from height ds)
forgotten account ds a height = record {
  ordered = IsNonDecreasingBy-filter time (λ (d : Due). leb height d.timeout.height) ds a.ordered;
  same = λ at. filter_comm (λ (d : Due). leb height d.timeout.height) (is_at at) ds ∙ ap (λ (es : List Due). of_heights_from height es) (a.same at) ∙ filter_comm (is_at at) (λ (d : Due). leb height d.timeout.height) account;
}

none_due : (account ds : List Due) → IsInTime account ds → (now : ℕ) → given now ds ≡ None → All (λ d. now < d.at) account × (left now ds ≡ ds)
none_due account [] a now e = (of_account (λ d. now < d.at) account [] a (All-nil _), refl)
none_due account (d ∷ ds) a now e = elim (cases_Bool (leb d.at now)) [
  | inl y ↦ absurd (let f : Some d.timeout ≡ None = rw y at e in cc)
  | inr n ↦ (of_account (λ d. now < d.at) account (d ∷ ds) a (All-weaker (λ (e : Due). d.at ≤ e.at) (λ (e : Due). now < e.at) (λ e h. let g : now < d.at = leb-false _ _ n in omega arith) (d ∷ ds) (head_least d ds a.ordered)), rw n refl)
]

before_later : (at : ℕ) (ds : List Due) → All (λ d. at ≤ d.at) ds → at_time at ds ≡ [] → All (λ d. at < d.at) ds
before_later at [] h e = All-nil _
before_later at (d ∷ ds) h e = elim (cases_Bool (eqb d.at at)) [
  | inl y ↦ absurd (let f : d ∷ at_time at ds ≡ [] = rw y at e in cc)
  | inr n ↦ All-cons (λ (e : Due). at < e.at) d ds (let g : at ≤ d.at = All-head (λ (e : Due). at ≤ e.at) d ds h in let f : d.at ≡ at → ⊥ = eqb-false _ _ n in omega arith)
      (before_later at ds (All-tail (λ (e : Due). at ≤ e.at) d ds h) (rw n at e))
]

abbrev FirstOf : Due → List Due → List Due → Type 0
FirstOf d ds account = Split (is_at d.at) d (at_time d.at ds) account

first_of_time : (account ds : List Due) (d : Due) → IsInTime account (d ∷ ds) → FirstOf d ds account
first_of_time account ds d a = split_at_first (is_at d.at) d (at_time d.at ds) account (sym (a.same d.at) ∙ rw (eq-eqb d.at d.at refl) refl)

next_of : (account ds : List Due) (d : Due) → IsInTime account (d ∷ ds) → FirstOf d ds account → Next account
next_of account ds d a s =
    let all = of_account (λ e. d.at ≤ e.at) account (d ∷ ds) a (head_least d ds a.ordered) in
    let least : Due → Type 0 = λ e. d.at ≤ e.at in
    let parts = All-same least (s.before ++ d ∷ s.behind) account (sym s.whole) all in
    record {
      before = s.before;
      next = d;
      behind = s.behind;
      whole = s.whole;
      first = before_later d.at s.before (All_front least s.before (d ∷ s.behind) parts) s.none;
      least = All-tail least d s.behind (All_back least s.before (d ∷ s.behind) parts);
    }

others_same : (account ds : List Due) (d : Due) (a : IsInTime account (d ∷ ds)) (s : FirstOf d ds account) (at : ℕ) → at_time at ds ≡ at_time at (s.before ++ s.behind)
others_same account ds d a s at = rw (filter-append (is_at at) s.before s.behind) (elim (cases_Bool (eqb d.at at)) [
  | inl y ↦ rw (← eqb-true _ _ y) (rw (s.none, s.rest) refl)
  | inr n ↦ (let e : at_time at ds ≡ at_time at account = rw n at (a.same at) in
      e ∙ ap (at_time at) s.whole ∙ filter-append (is_at at) s.before (d ∷ s.behind) ∙ rw n refl)
])

given_next : (account ds : List Due) → IsInTime account ds → (now : ℕ) (timeout : Timeout) → given now ds ≡ Some timeout → IsGiven now account ds timeout
unfolding next_of
given_next account [] a now t e = absurd (let f : None ≡ Some t = e in cc)
given_next account (d ∷ ds) a now t e = elim (cases_Bool (leb d.at now)) [
  | inl y ↦ (let s = first_of_time account ds d a in
      let f : Some d.timeout ≡ Some t = rw y at e in
      record {
        of = next_of account ds d a s;
        same = cc;
        come = leb-true _ _ y;
        others = rw y (record { ordered = tail_ordered d ds a.ordered; same = others_same account ds d a s });
      })
  | inr n ↦ absurd (let f : None ≡ Some t = rw n at e in cc)
]

pub account_law : AccountLaw
account_law = (record { ordered = λ i j d l m. absurd (omega arith); same = λ at. refl }, λ account ds a. (scheduled account ds a, forgotten account ds a, given_next account ds a, none_due account ds a))

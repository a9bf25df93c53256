-- A timeout that is put behind all that are due no later.
use Rattle.std.proofs.Common.{◌≡◌, ℕ, zero, suc, ◌+◌, ◌-◌, ◌^◌, min, ◌<◌, ◌≤◌, inl, inr, Bool, true, false, not, List, [], ◌∷◌, ◌++◌, length, get_or, refl, ◌∙◌, ap, arith, leb, ltb}
use Rattle.std.specs.List.{AllWithin, filter, insert}
use Rattle.std.specs.List.Sorted.{IsNonDecreasingBy, IsPartitionPoint}
use Rattle.std.proofs.lemmas.Bool.{leb-true, leb-false, le-ltb, lt-ltb, cases_Bool}
use Rattle.std.proofs.lemmas.List.Sorted.{IsNonDecreasingBy-insert}
use Rattle.protocol.specs.declared.types.Timeout.{Timeout}
use Rattle.timeouts.specs.Waiting.{Waiting, Due, placed, lasting, due_of}

pub none_pass : (p : Due → Bool) (ds : List Due) → AllWithin (λ e. p e ≡ false) ds 0 (length ds) → filter p ds ≡ []
none_pass p [] h = refl
none_pass p (e ∷ ds) h =
    let no : p e ≡ false = h 0 e (omega arith) (omega arith) in
    rw no (none_pass p ds (λ k d l m. h (suc k) d (omega arith) (omega arith)))

pub all_pass : (p : Due → Bool) (ds : List Due) → AllWithin (λ e. p e ≡ true) ds 0 (length ds) → filter p ds ≡ ds
all_pass p [] h = refl
all_pass p (e ∷ ds) h =
    let yes : p e ≡ true = h 0 e (omega arith) (omega arith) in
    rw yes (ap (λ (es : List Due). e ∷ es) (all_pass p ds (λ k d l m. h (suc k) d (omega arith) (omega arith))))

-- the first i pass the test and the others fail it
inserted : (p q : Due → Bool) → ((e : Due) → q e ≡ not (p e)) → (d : Due) (ds : List Due) (i : ℕ) → i ≤ length ds
    → AllWithin (λ e. p e ≡ true) ds 0 i → AllWithin (λ e. p e ≡ false) ds i (length ds) → insert ds i d ≡ filter p ds ++ d ∷ filter q ds
inserted p q other d ds zero h a b =
    rw (none_pass p ds b, all_pass q ds (λ k x l m. other (get_or ds k x) ∙ ap not (b k x l m))) refl
inserted p q other d [] (suc i) h a b = absurd (omega arith)
inserted p q other d (e ∷ ds) (suc i) h a b =
    let yes : p e ≡ true = a 0 e (omega arith) (omega arith) in
    let no : q e ≡ false = other e ∙ ap not yes in
    rw (yes, no) (ap (λ (es : List Due). e ∷ es) (inserted p q other d ds i (omega arith) (λ k x l m. a (suc k) x (omega arith) (omega arith)) (λ k x l m. b (suc k) x (omega arith) (omega arith))))

later : (a b : ℕ) → ltb a b ≡ not (leb b a)
later a b = elim (cases_Bool (leb b a)) [ inl y ↦ rw y (le-ltb a b (leb-true b a y)) | inr n ↦ rw n (lt-ltb a b (leb-false b a n)) ]

-- behind the last that is due no later
abbrev pub IsPlaceOf : Due → List Due → ℕ → Type 0
IsPlaceOf d ds i = IsPartitionPoint (λ e. leb e.at d.at ≡ true) (λ e. leb e.at d.at ≡ false) ds i

pub insert_is_placed : (d : Due) (ds : List Due) (i : ℕ) → i ≤ length ds → IsPlaceOf d ds i → insert ds i d ≡ placed d ds
insert_is_placed d ds i h at = inserted (λ e. leb e.at d.at) (λ e. ltb d.at e.at) (λ e. later d.at e.at) d ds i h at.0 at.1

pub insert_is_ordered : (d : Due) (ds : List Due) (i : ℕ) → i ≤ length ds → IsPlaceOf d ds i → IsNonDecreasingBy (λ e. e.at) ds → IsNonDecreasingBy (λ e. e.at) (insert ds i d)
insert_is_ordered d ds i h at up = IsNonDecreasingBy-insert (λ (e : Due). e.at) ds i d up h
    (λ k x l. leb-true _ _ (at.0 k x (omega arith) l))
    (λ k x l m. let later : d.at < (get_or ds k x).at = leb-false _ _ (at.1 k x l m) in omega arith)

-- the plan in which a timeout is placed so
pub scheduled : (plan : Waiting) (now lasts at : ℕ) (t : Timeout) (ds : List Due) (i : ℕ) → lasts ≡ lasting plan t.round → at ≡ min (now + lasts) (2 ^ 64 - 1)
    → i ≤ length plan.due → IsPlaceOf (record { at = at; timeout = t }) plan.due i → ds ≡ insert plan.due i (record { at = at; timeout = t })
    → record plan { due = ds } ≡ record plan { due = placed (due_of plan now t) plan.due }
scheduled plan now lasts at t ds i e f h place is =
    let when : at ≡ min (now + lasting plan t.round) (2 ^ 64 - 1) = f ∙ ap (λ n. min (now + n) (2 ^ 64 - 1)) e in
    ap (λ (es : List Due). record plan { due = es }) (is ∙ insert_is_placed _ plan.due i h place ∙ ap (λ n. placed (record { at = n; timeout = t }) plan.due) when)

-- The frames of one link, parted at a height.
use Rattle.std.proofs.Common.{◌≡◌, ◌≢◌, ℕ, zero, suc, ◌+◌, ◌<◌, ◌≤◌, inl, inr, Bool, true, false, not, List, [], ◌∷◌, ◌++◌, length, take, drop, get_or, refl, sym, ap, ◌∙◌, subst, drop-cons, arith, leb, ltb}
use Rattle.std.specs.List.{AllWithin, filter, insert, remove, list_any}
use Rattle.std.specs.List.Sorted.{IsNonDecreasingBy}
use Rattle.std.proofs.lemmas.Bool.{cases_Bool, cases_eq, cases_lt, leb-true, leb-false, le-leb, lt-leb, le-ltb, lt-ltb, ne_eqb, and_from, and_right}
use Rattle.std.proofs.lemmas.List.{length-take, length-take-le, take-take, take-append-drop, get_or-take}
use Rattle.std.proofs.lemmas.List.Edits.{length-remove}
use Rattle.std.proofs.lemmas.List.Elements.{All-from_all_within}
use Rattle.std.proofs.lemmas.List.Filters.{length-filter_both, sum_by-filter_both}
use Rattle.std.proofs.lemmas.List.Folds.{list_any_none}
use Rattle.std.proofs.lemmas.List.Quantifiers.{all_pairs_remove}
use Rattle.std.proofs.lemmas.List.Sorted.{IsNonDecreasingBy-insert}
use Rattle.std.proofs.lemmas.List.Sums.{sum_by-take-le, sum_by-remove}
use Rattle.edge_frames.specs.Early.{Frame, Early, early, bytes_of, Fits, up_to, placed, has_room, IsLongest, is_of, IsFirst, IsStart, IsEnd}

abbrev pub height_of : Early → ℕ
height_of e = e.height

abbrev pub IsOrdered : List Early → Type 0
IsOrdered es = IsNonDecreasingBy height_of es

-- ---- what fits

abbrev size : Early → ℕ
size e = length e.frame

pub fits_take : (n : ℕ) (es : List Early) → Fits es → Fits (take n es)
fits_take n es h = record { frames = omega (arith, length-take n es, h.frames); bytes = omega (arith, sum_by-take-le size es n, h.bytes) }

pub fits_filter : (p : Early → Bool) (es : List Early) → Fits es → Fits (filter p es)
fits_filter p es h = record {
  frames = omega (arith, length-filter_both p (λ e. not (p e)) (λ e. refl) es, h.frames);
  bytes = omega (arith, sum_by-filter_both p (λ e. not (p e)) (λ e. refl) size es, h.bytes);
}

pub fits_remove : (i : ℕ) (d : Early) (es : List Early) → i < length es → Fits es → Fits (remove es i)
fits_remove i d es lt h = record { frames = omega (arith, length-remove es i lt, h.frames); bytes = omega (arith, sum_by-remove size es i d lt, h.bytes) }

-- the longest beginning that fits
pub longest_is : (all : List Early) (n : ℕ) → n ≤ length all → Fits (take n all) → (n < length all → ¬ Fits (take (n + 1) all)) → IsLongest all (take n all)
longest_is all n within fits next =
    let len : length (take n all) ≡ n = length-take-le n all within in
    record {
      begins = ap (λ (k : ℕ). take k all) (sym len);
      fits = fits;
      longest = λ m lt le more. next (omega arith) (subst (λ (es : List Early). Fits es) (take-take (n + 1) m all (omega arith)) (fits_take (n + 1) (take m all) more));
    }

-- ---- at a place where a test no longer holds

module _ (p : Early → Bool) where
  none_pass : (es : List Early) → AllWithin (λ e. p e ≡ false) es 0 (length es) → filter p es ≡ []
  none_pass [] h = refl
  none_pass (e ∷ es) h =
      let no : p e ≡ false = h 0 e (omega arith) (omega arith) in
      rw no (none_pass es (λ k d l m. h (suc k) d (omega arith) (omega arith)))

  all_pass : (es : List Early) → AllWithin (λ e. p e ≡ true) es 0 (length es) → filter p es ≡ es
  all_pass [] h = refl
  all_pass (e ∷ es) h =
      let yes : p e ≡ true = h 0 e (omega arith) (omega arith) in
      rw yes (ap (λ (ds : List Early). e ∷ ds) (all_pass es (λ k d l m. h (suc k) d (omega arith) (omega arith))))

  -- the first i pass the test, and the others don't
  front : (es : List Early) (i : ℕ) → i ≤ length es → AllWithin (λ e. p e ≡ true) es 0 i → AllWithin (λ e. p e ≡ false) es i (length es) → filter p es ≡ take i es
  front es zero h a b = none_pass es b
  front [] (suc i) h a b = absurd (omega arith)
  front (e ∷ es) (suc i) h a b =
      let yes : p e ≡ true = a 0 e (omega arith) (omega arith) in
      rw yes (ap (λ (ds : List Early). e ∷ ds) (front es i (omega arith) (λ k d l m. a (suc k) d (omega arith) (omega arith)) (λ k d l m. b (suc k) d (omega arith) (omega arith))))

inserted : (p q : Early → Bool) → ((e : Early) → q e ≡ not (p e)) → (d : Early) (es : List Early) (i : ℕ) → i ≤ length es
    → AllWithin (λ e. p e ≡ true) es 0 i → AllWithin (λ e. p e ≡ false) es i (length es) → insert es i d ≡ filter p es ++ d ∷ filter q es
inserted p q other d es zero h a b =
    rw (none_pass p es b, all_pass q es (λ k x l m. other (get_or es k x) ∙ ap not (b k x l m))) refl
inserted p q other d [] (suc i) h a b = absurd (omega arith)
inserted p q other d (e ∷ es) (suc i) h a b =
    let yes : p e ≡ true = a 0 e (omega arith) (omega arith) in
    let no : q e ≡ false = other e ∙ ap not yes in
    rw (yes, no) (ap (λ (ds : List Early). e ∷ ds) (inserted p q other d es i (omega arith) (λ k x l m. a (suc k) x (omega arith) (omega arith)) (λ k x l m. b (suc k) x (omega arith) (omega arith))))

later : (a b : ℕ) → ltb a b ≡ not (leb b a)
later a b = elim (cases_Bool (leb b a)) [ inl y ↦ rw y (le-ltb a b (leb-true b a y)) | inr n ↦ rw n (lt-ltb a b (leb-false b a n)) ]

module _ (e : Early) (es : List Early) (i : ℕ) (at : IsEnd e.height es i) where
  up : AllWithin (λ d. leb d.height e.height ≡ true) es 0 i
  up k x l m = le-leb _ _ (at.others k x l m)

  beyond : AllWithin (λ d. leb d.height e.height ≡ false) es i (length es)
  beyond k x l m = lt-leb _ _ (at.higher k x l m)

  pub insert_is_placed : insert es i e ≡ placed e es
  insert_is_placed = inserted (λ d. leb d.height e.height) (λ d. ltb e.height d.height) (λ d. later e.height d.height) e es i at.within up beyond

  pub insert_is_ordered : IsOrdered es → IsOrdered (insert es i e)
  insert_is_ordered order = IsNonDecreasingBy-insert height_of es i e order at.within
      (λ k x l. at.others k x (omega arith) l)
      (λ k x l m. let above = at.higher k x l m in omega arith)

  before : up_to e.height es ≡ take i es
  before = front (λ d. leb d.height e.height) es i at.within up beyond

  few : length (up_to e.height es) ≡ i
  few = ap (λ (ds : List Early). length ds) before ∙ length-take-le i es at.within

  pub room : i < 256 → bytes_of (take i es) + length e.frame ≤ 2097152 → has_room e es ≡ true
  room a b =
      let some : ltb (length (up_to e.height es)) 256 ≡ true = lt-ltb _ _ (rw few a) in
      let short : leb (bytes_of (up_to e.height es) + length e.frame) 2097152 ≡ true = le-leb _ _ (rw before b) in
      and_from _ _ some short

  pub many : 256 ≤ i → has_room e es ≡ false
  many a = let no : ltb (length (up_to e.height es)) 256 ≡ false = le-ltb _ _ (rw few a) in rw no refl

  pub long : 2097152 < bytes_of (take i es) + length e.frame → has_room e es ≡ false
  long b =
      let no : leb (bytes_of (up_to e.height es) + length e.frame) 2097152 ≡ false = lt-leb _ _ (rw before b) in
      and_right (ltb (length (up_to e.height es)) 256) _ no

-- ---- the first of a height

module _ (height : ℕ) (es : List Early) (i : ℕ) (at : IsStart height es i) where
  -- the one that stands there is higher, where one does
  pub is_absent : IsOrdered es → ((d : Early) → i < length es → (get_or es i d).height ≢ height) → list_any (is_of height) es ≡ false
  is_absent order other = list_any_none (is_of height) es (All-from_all_within (λ e. is_of height e ≡ false) es (λ k d l m. ne_eqb _ _ (differs k d m)))
    where
      differs : (k : ℕ) (d : Early) → k < length es → (get_or es k d).height ≢ height
      differs k d m = elim (cases_lt k i) [
        | inl lt ↦ (let below = at.lower k d (omega arith) lt in λ same. omega (arith, same, below))
        | inr ge ↦ (let here = other d (omega arith) in
            let from = at.others i d (omega arith) (omega arith) in
            let there : (get_or es i d).height ≤ (get_or es k d).height = order i k d (omega arith) m in
            λ same. here (omega (arith, same, from, there)))
      ]

  pub first_is : (d : Early) (frame : Frame) → i < length es → get_or es i d ≡ early height frame → IsFirst height es frame (remove es i)
  first_is d frame lt here = record {
    before = take i es;
    behind = drop (suc i) es;
    was = sym (take-append-drop i es) ∙ ap (λ (ds : List Early). take i es ++ ds) (drop-cons es i d lt ∙ ap (λ (x : Early). x ∷ drop (suc i) es) here);
    left = refl;
    first = All-from_all_within (λ e. e.height ≢ height) (take i es) (λ k x l m. lower k x (omega (arith, m, length-take i es)));
  }
    where
      lower : (k : ℕ) (x : Early) → k < i → (get_or (take i es) k x).height ≢ height
      lower k x lt same =
          let below = at.lower k x (omega arith) lt in
          let inside : (get_or (take i es) k x).height ≡ (get_or es k x).height = ap height_of (get_or-take i es k x lt) in
          omega arith

pub remove_is_ordered : (es : List Early) (i : ℕ) → i < length es → IsOrdered es → IsOrdered (remove es i)
remove_is_ordered es i lt order j k d le m = elim (cases_eq j k) [
  | inl same ↦ rw same (omega arith)
  | inr other ↦ all_pairs_remove (λ x y. x.height ≤ y.height) es i lt (λ a b x l n. order a b x (omega arith) n) j k d (omega arith) m
]

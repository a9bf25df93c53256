-- The links' early frames as the entries of a map.
use Rattle.std.proofs.Common.{◌≡◌, ◌≢◌, ℕ, zero, suc, ◌+◌, ◌<◌, inl, inr, Bool, true, false, List, [], ◌∷◌, ◌++◌, map, length, take, drop, get_or, slice_get, cond, subst, refl, sym, ap, ◌∙◌, arith, eqb, Option, Some, None, Result, Ok, Err}
use Rattle.std.specs.Bool.{MatchBool}
use Rattle.std.specs.Option.{MatchOption}
use Rattle.std.specs.Result.{IsOkUnless, OnOk, OnErr}
use Rattle.std.specs.Map.{values_of, lookup, set_value}
use Rattle.std.proofs.lemmas.Bool.{cases_Bool, eq-eqb, ne_eqb, eqb-true}
use Rattle.std.proofs.lemmas.List.{append_assoc, map-append, length-map, length-take, take_more, drop_more, take-append-drop}
use Rattle.std.proofs.lemmas.Map.{NonePasses, none_passes_from_lookup}
use Rattle.indexmap.specs.IndexMap.{set_value_at, shift_remove_entry}
use Rattle.edge_frames.specs.declared.fault.KeepFault.{KeepFault}
use Rattle.edge_frames.specs.declared.fault.KeepFault.TheVariants.{LinkFull, OutOfMemory}
use Rattle.edge_frames.specs.Early.{Early, placed, has_room, of_heights_from, IsLongest}
use Rattle.edge_frames.specs.Links.{OfLink, of_link, frames_of, is_known, with_frames, without, from_height, refusal, opening, IsOpened}

abbrev pub Entries : Type 0
Entries = List (ℕ × List Early)

abbrev pub links_of : List (ℕ × List Early) → List OfLink
links_of es = map (λ e. of_link e.0 e.1) es

-- ---- a link that ended

none_left : (link : ℕ) (es : Entries) → NonePasses (eqb link) es → links_of es ≡ without link (links_of es)
none_left link [] h = refl
none_left link (e ∷ es) h = rw h.0 (ap (λ (ls : List OfLink). of_link e.0 e.1 ∷ ls) (none_left link es h.1))

pub removed : (link : ℕ) (es : Entries) → NonePasses (eqb link) (shift_remove_entry (eqb link) es) → links_of (shift_remove_entry (eqb link) es) ≡ without link (links_of es)
removed link [] h = refl
removed link (e ∷ es) h = elim (cases_Bool (eqb link e.0)) [
  | inl y ↦ (let rest : NonePasses (eqb link) es = rw y at h in rw y (none_left link es rest))
  | inr n ↦ (let rest : NonePasses (eqb link) (e ∷ shift_remove_entry (eqb link) es) = rw n at h in rw n (ap (λ (ls : List OfLink). of_link e.0 e.1 ∷ ls) (removed link es rest.1)))
]

-- ---- a link that has frames

module _ (k : ℕ) (old : List Early) where
  pub known : (es : Entries) → lookup (eqb k) es ≡ Some old → frames_of k (links_of es) ≡ old
  known [] look = absurd cc
  known (e ∷ es) look = elim (cases_Bool (eqb k e.0)) [
    | inl y ↦ (let found : Some e.1 ≡ Some old = rw y at look in rw y cc)
    | inr n ↦ (let later : lookup (eqb k) es ≡ Some old = rw n at look in rw n (known es later))
  ]

  pub known_is : (es : Entries) → lookup (eqb k) es ≡ Some old → is_known k (links_of es) ≡ true
  known_is [] look = absurd cc
  known_is (e ∷ es) look = elim (cases_Bool (eqb k e.0)) [
    | inl y ↦ rw y refl
    | inr n ↦ (let later : lookup (eqb k) es ≡ Some old = rw n at look in rw n (known_is es later))
  ]

  pub stays : (es : Entries) → lookup (eqb k) es ≡ Some old → links_of (set_value (eqb k) es old) ≡ links_of es
  stays [] look = absurd cc
  stays (e ∷ es) look = elim (cases_Bool (eqb k e.0)) [
    | inl y ↦ (let found : Some e.1 ≡ Some old = rw y at look in let value : e.1 ≡ old = cc in rw (y, ← value) refl)
    | inr n ↦ (let later : lookup (eqb k) es ≡ Some old = rw n at look in rw n (ap (λ (ls : List OfLink). of_link e.0 e.1 ∷ ls) (stays es later)))
  ]

  pub with_found : (v : List Early) (es : Entries) → lookup (eqb k) es ≡ Some old → links_of (set_value (eqb k) es v) ≡ with_frames k v (links_of es)
  with_found v [] look = absurd cc
  with_found v (e ∷ es) look = elim (cases_Bool (eqb k e.0)) [
    | inl y ↦ rw y refl
    | inr n ↦ (let later : lookup (eqb k) es ≡ Some old = rw n at look in rw n (ap (λ (ls : List OfLink). of_link e.0 e.1 ∷ ls) (with_found v es later)))
  ]

-- ---- a link that has none

module _ (k : ℕ) where
  pub unknown : (es : Entries) → NonePasses (eqb k) es → frames_of k (links_of es) ≡ []
  unknown [] h = refl
  unknown (e ∷ es) h = rw h.0 (unknown es h.1)

  pub unknown_is : (es : Entries) → NonePasses (eqb k) es → is_known k (links_of es) ≡ false
  unknown_is [] h = refl
  unknown_is (e ∷ es) h = rw h.0 (unknown_is es h.1)

  pub with_new : (v : List Early) (es : Entries) → NonePasses (eqb k) es → links_of (es ++ (k, v) ∷ []) ≡ with_frames k v (links_of es)
  with_new v [] h = refl
  with_new v (e ∷ es) h = rw h.0 (ap (λ (ls : List OfLink). of_link e.0 e.1 ∷ ls) (with_new v es h.1))

-- ---- a link's frames, and the others'

pub frames_with : (k : ℕ) (v : List Early) (ls : List OfLink) → frames_of k (with_frames k v ls) ≡ v
frames_with k v [] = rw (eq-eqb k k refl) refl
frames_with k v (l ∷ ls) = elim (cases_Bool (eqb k l.link)) [ inl y ↦ rw (y, y) refl | inr n ↦ rw (n, n) (frames_with k v ls) ]

pub frames_others : (k : ℕ) (v : List Early) (ls : List OfLink) (other : ℕ) → other ≢ k → frames_of other (with_frames k v ls) ≡ frames_of other ls
frames_others k v [] other ne = rw (ne_eqb other k ne) refl
frames_others k v (l ∷ ls) other ne = elim (cases_Bool (eqb k l.link)) [
  | inl y ↦ (let no : eqb other l.link ≡ false = ne_eqb _ _ (λ same. ne (same ∙ sym (eqb-true k l.link y))) in rw (y, no) refl)
  | inr n ↦ elim (cases_Bool (eqb other l.link)) [ inl here ↦ rw (n, here) refl | inr away ↦ rw (n, away) (frames_others k v ls other ne) ]
]

-- ---- at a place

-- what a write at a place leaves
pub record Written (before : List OfLink) (q : OfLink) (behind : List OfLink) (es : Entries) (i : ℕ) (old v : List Early) : Type 0 where
  pub had : q.frames ≡ old
  pub key : slice_get es i ≡ Some (q.link, old)
  pub after : links_of (set_value_at es i v) ≡ before ++ of_link q.link v ∷ behind

pub written : (before : List OfLink) (q : OfLink) (behind : List OfLink) (es : Entries) (i : ℕ) (old v : List Early) → links_of es ≡ before ++ q ∷ behind → length before ≡ i
    → slice_get (values_of es) i ≡ Some old → Written before q behind es i old v
written [] q behind [] i old v e n at = absurd (cc)
written [] q behind (x ∷ es) zero old v e n at =
    let head : of_link x.0 x.1 ≡ q = cc in
    let tail : links_of es ≡ behind = cc in
    let value : x.1 ≡ old = cc in
    record { had = ap (λ (r : OfLink). r.frames) (sym head) ∙ value; key = rw (← head, ← value) refl; after = rw (← head, ← tail) refl }
written [] q behind (x ∷ es) (suc i) old v e n at = absurd (omega arith)
written (b ∷ before) q behind [] i old v e n at = absurd (cc)
written (b ∷ before) q behind (x ∷ es) zero old v e n at = absurd (omega arith)
written (b ∷ before) q behind (x ∷ es) (suc i) old v e n at =
    let head : of_link x.0 x.1 ≡ b = cc in
    let tail : links_of es ≡ before ++ q ∷ behind = cc in
    let rest = written before q behind es i old v tail (omega arith) at in
    record { had = rest.had; key = rest.key; after = rw (head, rest.after) refl }

pub same_at : (es : Entries) (i : ℕ) (old : List Early) → slice_get (values_of es) i ≡ Some old → set_value_at es i old ≡ es
same_at [] i old at = absurd (cc)
same_at (x ∷ es) zero old at = let value : x.1 ≡ old = cc in rw (← value) refl
same_at (x ∷ es) (suc i) old at = ap (λ (ds : Entries). x ∷ ds) (same_at es i old at)

abbrev pub nobody : OfLink
nobody = of_link 0 []

-- the links, parted at a place
pub parted : (ls : List OfLink) (i : ℕ) → i < length ls → ls ≡ take i ls ++ get_or ls i nobody ∷ drop (i + 1) ls
parted ls i lt = sym (take-append-drop i ls) ∙ ap (λ (rest : List OfLink). take i ls ++ rest) (drop_more ls i nobody lt)

-- one link more is gone over
pub dropped_more : (height : ℕ) (ls : List OfLink) (es : Entries) (i : ℕ) (old v : List Early) → links_of es ≡ from_height height (take i ls) ++ drop i ls → i < length ls
    → slice_get (values_of es) i ≡ Some old → v ≡ of_heights_from height old → links_of (set_value_at es i v) ≡ from_height height (take (i + 1) ls) ++ drop (i + 1) ls
dropped_more height ls es i old v so_far lt at kept =
    let q = get_or ls i nobody in
    let f = λ (l : OfLink). of_link l.link (of_heights_from height l.frames) in
    let before = from_height height (take i ls) in
    let w = written before q (drop (i + 1) ls) es i old v (so_far ∙ ap (λ (rest : List OfLink). before ++ rest) (drop_more ls i nobody lt)) (omega (arith, length-map (take i ls) f, length-take i ls)) at in
    let gone : of_link q.link v ≡ f q = rw (kept, w.had) refl in
    let front : from_height height (take (i + 1) ls) ≡ before ++ f q ∷ [] = ap (from_height height) (take_more ls i nobody lt) ∙ map-append f (take i ls) (q ∷ []) in
    w.after ∙ rw (gone, front) (sym (append_assoc before (f q ∷ []) (drop (i + 1) ls)))

-- ---- what is answered

abbrev pub IsAnswer : Option KeepFault → Result (Unit {0}) KeepFault → Type 0
IsAnswer o r = MatchOption o (IsOkUnless r OutOfMemory) (λ fault. r ≡ Err fault)

pub answer_known : (k : ℕ) (e : Early) (es : Entries) (old : List Early) (r : Result (Unit {0}) KeepFault) → lookup (eqb k) es ≡ Some old
    → MatchBool (has_room e old) (IsOkUnless r OutOfMemory) (r ≡ Err LinkFull) → IsAnswer (refusal k e (links_of es)) r
answer_known k e es old r look answer = rw (known_is k old es look, known k old es look) (by (has_room e old) answer)
  where
    by : (room : Bool) → MatchBool room (IsOkUnless r OutOfMemory) (r ≡ Err LinkFull) → IsAnswer (cond room None (Some LinkFull)) r
    by true h = h
    by false h = h

pub answer_unknown : (k : ℕ) (e : Early) (es : Entries) (r : Result (Unit {0}) KeepFault) → lookup (eqb k) es ≡ None
    → IsAnswer (opening e (length es)) r → IsAnswer (refusal k e (links_of es)) r
answer_unknown k e es r look answer =
    let none = none_passes_from_lookup (eqb k) es look in
    rw (unknown_is k es none, unknown k es none, length-map es (λ (x : ℕ × List Early). of_link x.0 x.1)) answer

pub on_ok : {P Q : Type 0} (r : Result (Unit {0}) KeepFault) → (P → Q) → OnOk r P → OnOk r Q
on_ok (Ok x) f h = f h
on_ok (Err x) f h = tt

pub on_err : {P Q : Type 0} (r : Result (Unit {0}) KeepFault) → (P → Q) → OnErr r P → OnErr r Q
on_err (Ok x) f h = tt
on_err (Err x) f h = f h

pub same_key : (p q : ℕ × List Early) → Some p ≡ Some q → p.0 ≡ q.0
same_key p q e = let same : p ≡ q = cc in ap (λ (x : ℕ × List Early). x.0) same

-- ---- what is kept for a link that had frames

module _ (k : ℕ) (e : Early) (es new : Entries) (old v : List Early) (look : lookup (eqb k) es ≡ Some old) (is : new ≡ set_value (eqb k) es v) where
  found_whole : links_of new ≡ with_frames k v (links_of es)
  found_whole = ap links_of is ∙ with_found k old v es look

  found_mine : frames_of k (links_of new) ≡ v
  found_mine = ap (frames_of k) found_whole ∙ frames_with k v (links_of es)

  pub found_kept : IsLongest (placed e old) v → IsLongest (placed e (frames_of k (links_of es))) (frames_of k (links_of new))
  found_kept h =
      let own : IsLongest (placed e old) (frames_of k (links_of new)) = subst (λ (fs : List Early). IsLongest (placed e old) fs) (sym found_mine) h in
      subst (λ (fs : List Early). IsLongest (placed e fs) (frames_of k (links_of new))) (sym (known k old es look)) own

  pub found_place : links_of new ≡ with_frames k (frames_of k (links_of new)) (links_of es)
  found_place = found_whole ∙ ap (λ (fs : List Early). with_frames k fs (links_of es)) (sym found_mine)

  pub found_others : (other : ℕ) → other ≢ k → frames_of other (links_of new) ≡ frames_of other (links_of es)
  found_others other ne = ap (frames_of other) found_whole ∙ frames_others k v (links_of es) other ne

  pub found_same : v ≡ old → links_of new ≡ links_of es
  found_same same = ap links_of (is ∙ ap (λ (fs : List Early). set_value (eqb k) es fs) same) ∙ stays k old es look

-- ---- what is kept for one that had none

module _ (k : ℕ) (e : Early) (es at new : Entries) (same : at ≡ es) (look : lookup (eqb k) es ≡ None) where
  opened_whole : (o : IsOpened e k at new) → links_of new ≡ with_frames k o.frames (links_of es)
  opened_whole o = ap links_of (o.is ∙ ap (λ (ds : Entries). ds ++ (k, o.frames) ∷ []) same) ∙ with_new k o.frames es (none_passes_from_lookup (eqb k) es look)

  opened_mine : (o : IsOpened e k at new) → frames_of k (links_of new) ≡ o.frames
  opened_mine o = ap (frames_of k) (opened_whole o) ∙ frames_with k o.frames (links_of es)

  pub opened_kept : IsOpened e k at new → IsLongest (placed e (frames_of k (links_of es))) (frames_of k (links_of new))
  opened_kept o =
      let own : IsLongest (placed e []) (frames_of k (links_of new)) = subst (λ (fs : List Early). IsLongest (placed e []) fs) (sym (opened_mine o)) o.longest in
      subst (λ (fs : List Early). IsLongest (placed e fs) (frames_of k (links_of new))) (sym (unknown k es (none_passes_from_lookup (eqb k) es look))) own

  pub opened_place : IsOpened e k at new → links_of new ≡ with_frames k (frames_of k (links_of new)) (links_of es)
  opened_place o = opened_whole o ∙ ap (λ (fs : List Early). with_frames k fs (links_of es)) (sym (opened_mine o))

  pub opened_others : (r : Result (Unit {0}) KeepFault) → OnOk r (IsOpened e k at new) → OnErr r (new ≡ at) → (other : ℕ) → other ≢ k → frames_of other (links_of new) ≡ frames_of other (links_of es)
  opened_others (Ok x) o h other ne = ap (frames_of other) (opened_whole o) ∙ frames_others k o.frames (links_of es) other ne
  opened_others (Err x) o h other ne = ap (λ (ds : Entries). frames_of other (links_of ds)) (h ∙ same)

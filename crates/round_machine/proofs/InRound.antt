-- The first proposal of a round that passes a test, by the places of the round.
use Rattle.std.proofs.Common.{◌≡◌, ℕ, zero, suc, ◌+◌, ◌<◌, Bool, true, false, ◌&&◌, List, [], ◌∷◌, length, get_or, take, find, Option, Some, None, option_map, refl, sym, ap, ◌∙◌, inl, inr, arith, eqb-true}
use Rattle.std.specs.Prelude.{◌==◌}
use Rattle.std.specs.List.{position_from}
use Rattle.std.proofs.lemmas.Bool.{cases_Bool, and_parts, and_from, eq-eqb, false≢true}
use Rattle.std.proofs.lemmas.List.Quantifiers.{position-Some}
use Rattle.std.proofs.lemmas.Iterator.Adapters.{position_from-zero}
use Rattle.protocol.specs.Messages.{Proposal}
use Rattle.protocol.specs.State.{Rule}
use Rattle.vote_tally.proofs.Raising.{and_false}
use Rattle.round_states.specs.Steps.{nowhere}
use Rattle.round_states.specs.Places.{places_of}
use Rattle.round_states.proofs.ByRound.{places_from, places_is}

-- ---- a list looked through from its first element on

pub found_here : (test : ℕ → Bool) (xs : List ℕ) (n : ℕ) → n < length xs → find test (take n xs) ≡ None → test (get_or xs n 0) ≡ true → find test xs ≡ Some (get_or xs n 0)
found_here test [] n lt none t = absurd (omega (arith, lt))
found_here test (y ∷ ys) zero lt none t = rw t refl
found_here test (y ∷ ys) (suc n) lt none t = elim (cases_Bool (test y)) [
  | inl p ↦ (let f : Some y ≡ None = rw p at none in absurd cc)
  | inr p ↦ (let f : find test (take n ys) ≡ None = rw p at none in rw p (found_here test ys n (omega (arith, lt)) f t))
]

none_after : (test : ℕ → Bool) (xs : List ℕ) (n : ℕ) → n < length xs → find test (take n xs) ≡ None → test (get_or xs n 0) ≡ false → find test (take (suc n) xs) ≡ None
none_after test [] n lt none f = absurd (omega (arith, lt))
none_after test (y ∷ ys) zero lt none f = rw f refl
none_after test (y ∷ ys) (suc n) lt none f = elim (cases_Bool (test y)) [
  | inl p ↦ (let g : Some y ≡ None = rw p at none in absurd cc)
  | inr p ↦ (let g : find test (take n ys) ≡ None = rw p at none in rw p (none_after test ys n (omega (arith, lt)) g f))
]

pub none_yet : (test : ℕ → Bool) (xs : List ℕ) (n : ℕ) → n < length xs → find test (take n xs) ≡ None → test (get_or xs n 0) ≡ false → find test (take (n + 1) xs) ≡ None
none_yet test xs n lt none f = let e : n + 1 ≡ suc n = omega arith in rw e (none_after test xs n lt none f)

-- ---- a round's places

from_place : (test : Proposal → Bool) (r n : ℕ) (at : ℕ → Proposal) (qs : List Proposal) → ((i : ℕ) → at (n + i) ≡ get_or qs i nowhere)
    → find (λ i. test (at i)) (places_from r n qs) ≡ position_from (λ (q : Proposal). (q.round == r) && test q) n qs
from_place test r n at [] h = refl
from_place test r n at (q ∷ qs) h =
    let z : n + 0 ≡ n = omega arith in
    let here : at n ≡ q = rw z at (h zero) in
    let rest = from_place test r (n + 1) at qs (λ i. let e : n + 1 + i ≡ n + suc i = omega arith in rw e (h (suc i))) in
    elim (cases_Bool (q.round == r)) [
      | inl s ↦ elim (cases_Bool (test q)) [
        | inl t ↦ rw (s, here, t) refl
        | inr f ↦ rw (s, here, f) rest
      ]
      | inr s ↦ rw s rest
    ]

-- among a round's places the first that passes is the first of the round's proposals that does
pub first_of_round : (test : Proposal → Bool) (r : ℕ) (qs : List Proposal) → find (λ i. test (get_or qs i nowhere)) (places_of r qs) ≡ position_from (λ (q : Proposal). (q.round == r) && test q) 0 qs
first_of_round test r qs = ap (λ (ps : List ℕ). find (λ i. test (get_or qs i nowhere)) ps) (places_is r qs) ∙ from_place test r 0 (λ i. get_or qs i nowhere) qs (λ i. let e : 0 + i ≡ i = omega arith in rw e refl)

-- ---- what is found

pub record IsThere (test : Proposal → Bool) (r : ℕ) (qs : List Proposal) (i : ℕ) : Type 0 where
  pub within : i < length qs
  pub round : (get_or qs i nowhere).round ≡ r
  pub passes : test (get_or qs i nowhere) ≡ true
  pub first : (k : ℕ) → k < i → ((get_or qs k nowhere).round == r) ≡ true → test (get_or qs k nowhere) ≡ true → ⊥

pub there : (test : Proposal → Bool) (r : ℕ) (qs : List Proposal) (i : ℕ) → position_from (λ (q : Proposal). (q.round == r) && test q) 0 qs ≡ Some i → IsThere test r qs i
there test r qs i e =
    let p = λ (q : Proposal). (q.round == r) && test q in
    let f = position-Some p qs i nowhere (position_from-zero p qs ∙ e) in
    let here = and_parts ((get_or qs i nowhere).round == r) (test (get_or qs i nowhere)) f.1 in
    record { within = f.0; round = eqb-true _ _ here.0; passes = here.1; first = λ k lt same t. let g : p (get_or qs k nowhere) ≡ false = f.2 k lt in false≢true (sym g ∙ and_from _ _ same t) }

none_from : (p : Proposal → Bool) (n : ℕ) (qs : List Proposal) → position_from p n qs ≡ None → (i : ℕ) → i < length qs → p (get_or qs i nowhere) ≡ true → ⊥
none_from p n [] e i lt t = absurd (omega (arith, lt))
none_from p n (q ∷ qs) e zero lt t = let y : p q ≡ true = t in let f : Some n ≡ None = rw y at e in absurd cc
none_from p n (q ∷ qs) e (suc i) lt t = elim (cases_Bool (p q)) [
  | inl y ↦ (let f : Some n ≡ None = rw y at e in absurd cc)
  | inr y ↦ none_from p (n + 1) qs (rw y at e) i (omega (arith, lt)) t
]

pub none_there : (test : Proposal → Bool) (r : ℕ) (qs : List Proposal) → position_from (λ (q : Proposal). (q.round == r) && test q) 0 qs ≡ None → (i : ℕ) → i < length qs → (get_or qs i nowhere).round ≡ r → test (get_or qs i nowhere) ≡ true → ⊥
none_there test r qs e i lt same t = none_from (λ (q : Proposal). (q.round == r) && test q) 0 qs e i lt (and_from _ _ (eq-eqb _ _ same) t)

-- ---- a stage that seeks in one round

both : (test : Proposal → Bool) (r : ℕ) (q : Proposal) → (test q ≡ true → (q.round == r) ≡ true) → ((q.round == r) && test q) ≡ test q
both test r q h = elim (cases_Bool (test q)) [
  | inl t ↦ rw (h t, t) refl
  | inr f ↦ rw f (and_false _)
]

named_from : (test : Proposal → Bool) (r n : ℕ) (f : Proposal → Rule) (at : ℕ → Proposal) (qs : List Proposal) → ((q : Proposal) → test q ≡ true → (q.round == r) ≡ true) → ((i : ℕ) → at (n + i) ≡ get_or qs i nowhere)
    → option_map (λ i. f (at i)) (position_from (λ (q : Proposal). (q.round == r) && test q) n qs) ≡ option_map f (find test qs)
named_from test r n f at [] own h = refl
named_from test r n f at (q ∷ qs) own h =
    let same = both test r q (own q) in
    elim (cases_Bool (test q)) [
      | inl t ↦ (let z : n + 0 ≡ n = omega arith in let e : at n ≡ q = rw z at (h zero) in rw (own q t, t, e) refl)
      | inr g ↦ rw (same, g) (named_from test r (n + 1) f at qs own (λ i. let e : n + 1 + i ≡ n + suc i = omega arith in rw e (h (suc i))))
    ]

pub named : (test : Proposal → Bool) (r : ℕ) (f : Proposal → Rule) (qs : List Proposal) → ((q : Proposal) → test q ≡ true → (q.round == r) ≡ true)
    → option_map (λ i. f (get_or qs i nowhere)) (position_from (λ (q : Proposal). (q.round == r) && test q) 0 qs) ≡ option_map f (find test qs)
named test r f qs own = named_from test r 0 f (λ i. get_or qs i nowhere) qs own (λ i. let e : 0 + i ≡ i = omega arith in rw e refl)

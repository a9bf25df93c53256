-- The next height in which a validator proposes first.
use Rattle.std.proofs.Common.{◌≡◌, ℕ, zero, suc, ◌+◌, ◌-◌, ◌%◌, ◌<◌, ◌≤◌, ◌==◌, slice_get, slice_index, false, Option, Some, None, SomeIff, List, [], ◌∷◌, length, take, get_or, refl, sym, ap, ◌∙◌, subst, arith, inl, inr, eqb-true}
use Rattle.std.specs.Option.{unwrap_or}
use Rattle.std.proofs.lemmas.Bool.{cases_lt, cases_Bool}
use Rattle.std.proofs.Math.Nat.{add-mod_right, mod-lt, mod-eq_of_lt, mod-add-mod}
use Rattle.powers.specs.Power.{total, first_above, proposer}
use Rattle.powers.proofs.Turns.{first_here, first_later, found}
use Rattle.proposer_turns.specs.Turning.{IsNext}

-- the power of one validator more
pub total_more : (ps : List ℕ) (i : ℕ) → total (take (i + 1) ps) ≡ total (take i ps) + get_or ps i 0
total_more [] zero = omega arith
total_more [] (suc i) = let a : suc i + 1 ≡ suc (i + 1) = omega arith in rw a (omega arith)
total_more (p ∷ ps) zero = omega arith
total_more (p ∷ ps) (suc i) = let e = total_more ps i in let a : suc i + 1 ≡ suc (i + 1) = omega arith in rw a (omega (arith, e))

pub total_most : (ps : List ℕ) (i : ℕ) → total (take i ps) + get_or ps i 0 ≤ total ps
total_most [] zero = omega arith
total_most [] (suc i) = omega arith
total_most (p ∷ ps) zero = omega arith
total_most (p ∷ ps) (suc i) = omega (arith, total_most ps i)

-- who has power is there
there : (ps : List ℕ) (i : ℕ) → 0 < get_or ps i 0 → i < length ps
there [] i h = absurd (omega arith)
there (p ∷ ps) zero h = omega arith
there (p ∷ ps) (suc i) h = omega (arith, there ps i h)

-- and who isn't there has none
pub none_there : (ps : List ℕ) (i : ℕ) → slice_get ps i ≡ None → 0 ≡ slice_index ps i
none_there [] i e = refl
none_there (p ∷ ps) zero e = absurd (cc)
none_there (p ∷ ps) (suc i) e = none_there ps i e

-- a remainder by a number above zero
pub remainder_is : (r : Option ℕ) (n h : ℕ) → 0 < n → SomeIff r (0 < n) (h % n) → unwrap_or r 0 ≡ h % n
remainder_is None n h some is = absurd (is some)
remainder_is (Some x) n h some is = is.1

-- a place of the cycle is one of those of the validator that it is found to be of
above_from : (ps : List ℕ) (k : ℕ) → k < total ps
    → (total (take (first_above ps k) ps) ≤ k) × (k < total (take (first_above ps k) ps) + get_or ps (first_above ps k) 0)
above_from [] k h = absurd (omega arith)
above_from (p ∷ ps) k h = elim (cases_lt k p) [
  | inl lt ↦ rw (first_here p ps k lt) (omega arith, omega arith)
  | inr ge ↦
      let e : p + (k - p) ≡ k = omega arith in
      let later : first_above (p ∷ ps) k ≡ suc (first_above ps (k - p)) = ap (first_above (p ∷ ps)) (sym e) ∙ first_later p ps (k - p) in
      let rest = above_from ps (k - p) (omega arith) in
      rw later (omega (arith, rest.0), omega (arith, rest.1))
]

-- ---- by the place in the cycle

own_place : (ps : List ℕ) (v k : ℕ) → total (take v ps) ≤ k → k < total (take v ps) + get_or ps v 0 → first_above ps k ≡ v
own_place ps v k above below =
    let e : k - total (take v ps) + total (take v ps) ≡ k = omega arith in
    ap (first_above ps) (sym e) ∙ found ps (k - total (take v ps)) v (there ps v (omega arith)) (omega arith)

others_place : (ps : List ℕ) (v k : ℕ) → k < total ps → (total (take v ps) ≤ k → k < total (take v ps) + get_or ps v 0 → ⊥) → (first_above ps k == v) ≡ false
others_place ps v k inside outside = elim (cases_Bool (first_above ps k == v)) [
  | inr other ↦ other
  | inl own ↦
      let is : first_above ps k ≡ v = eqb-true (first_above ps k) v own in
      let at = subst (λ (i : ℕ). (total (take i ps) ≤ k) × (k < total (take i ps) + get_or ps i 0)) is (above_from ps k inside) in
      absurd (outside at.0 at.1)
]

-- so many heights after one of a place, before the cycle's end or behind it
within : (n h k : ℕ) → h % n + k < n → (h + k + 0) % n ≡ h % n + k
within n h k lt =
    let e : h + k + 0 ≡ h + k = omega arith in
    ap (λ m. m % n) e ∙ sym (mod-add-mod h n k) ∙ mod-eq_of_lt lt

behind : (n h k j : ℕ) → h % n + k ≡ j + n → j < n → (h + k + 0) % n ≡ j
behind n h k j is lt =
    let e : h + k + 0 ≡ h + k = omega arith in
    ap (λ m. m % n) e ∙ sym (mod-add-mod h n k) ∙ ap (λ m. m % n) is ∙ add-mod_right j n ∙ mod-eq_of_lt lt

-- ---- the next turn

own_turn : (ps : List ℕ) (v h k j : ℕ) → (h + k + 0) % total ps ≡ j → total (take v ps) ≤ j → j < total (take v ps) + get_or ps v 0 → proposer ps (h + k) 0 ≡ v
unfolding proposer
own_turn ps v h k j is above below = ap (first_above ps) is ∙ own_place ps v j above below

others_turn : (ps : List ℕ) (v h k j : ℕ) → (h + k + 0) % total ps ≡ j → j < total ps → (total (take v ps) ≤ j → j < total (take v ps) + get_or ps v 0 → ⊥)
    → (proposer ps (h + k) 0 == v) ≡ false
unfolding proposer
others_turn ps v h k j is inside outside = ap (λ (i : ℕ). first_above ps i == v) is ∙ others_place ps v j inside outside

-- before the validator's heights of this cycle
pub next_ahead : (ps : List ℕ) (v h : ℕ) → 0 < get_or ps v 0 → h % total ps < total (take v ps) → IsNext ps v h (total (take v ps) - h % total ps)
next_ahead ps v h some before =
    let most = total_most ps v in
    record {
      later = omega arith;
      turn = own_turn ps v h (total (take v ps) - h % total ps) (total (take v ps)) (within (total ps) h (total (take v ps) - h % total ps) (omega arith) ∙ omega arith) (omega arith) (omega arith);
      none = λ k above below. others_turn ps v h k (h % total ps + k) (within (total ps) h k (omega arith)) (omega arith) (λ from to. omega arith);
    }

-- the next height is one of them too
pub next_at_once : (ps : List ℕ) (v h : ℕ) → total (take v ps) ≤ h % total ps → h % total ps + 1 < total (take v ps) + get_or ps v 0 → IsNext ps v h 1
next_at_once ps v h from to =
    let most = total_most ps v in
    record {
      later = omega arith;
      turn = own_turn ps v h 1 (h % total ps + 1) (within (total ps) h 1 (omega arith)) (omega arith) (omega arith);
      none = λ k above below. absurd (omega arith);
    }

-- behind the last of them but one
pub next_behind : (ps : List ℕ) (v h : ℕ) → 0 < get_or ps v 0 → total (take v ps) + get_or ps v 0 ≤ h % total ps + 1 → IsNext ps v h (total ps - h % total ps + total (take v ps))
next_behind ps v h some past =
    let most = total_most ps v in
    let inside : h % total ps < total ps = mod-lt h (omega arith) in
    record {
      later = omega arith;
      turn = own_turn ps v h (total ps - h % total ps + total (take v ps)) (total (take v ps))
          (behind (total ps) h (total ps - h % total ps + total (take v ps)) (total (take v ps)) (omega arith) (omega arith)) (omega arith) (omega arith);
      none = λ k above below. elim (cases_lt (h % total ps + k) (total ps)) [
        | inl lt ↦ others_turn ps v h k (h % total ps + k) (within (total ps) h k lt) lt (λ from to. omega arith)
        | inr ge ↦ others_turn ps v h k (h % total ps + k - total ps) (behind (total ps) h k (h % total ps + k - total ps) (omega arith) (omega arith)) (omega arith) (λ from to. omega arith)
      ];
    }

-- Sets of validators, one number after the other.
use Rattle.std.proofs.Common.{◌≡◌, ℕ, ◌+◌, ◌<◌, Bool, true, false, List, length, get_or, set, take, replicate, inl, inr, refl, sym, ◌∙◌, arith}
use Rattle.std.specs.Prelude.{◌==◌}
use Rattle.std.specs.List.{list_any}
use Rattle.std.proofs.Math.Bool.{or-true, or-false}
use Rattle.std.proofs.lemmas.Bool.{cases_eq, cases_lt, eq-eqb}
use Rattle.std.proofs.lemmas.Bool.Decides.{nat_tests}
use Rattle.std.proofs.lemmas.List.{get_or-replicate, get_or_past, get_or-set_same, get_or-set_other, length-replicate}
use Rattle.std.proofs.lemmas.List.Folds.{list_any_more}

pub none_in : (n q : ℕ) → get_or (replicate n false) q false ≡ false
none_in n q = elim (cases_lt q n) [ inl within ↦ get_or-replicate n q false false within | inr past ↦ get_or_past (replicate n false) q false (omega (arith, length-replicate n false)) ]

-- the set with one number more
pub one_more_in : (members : List Bool) (numbers : List ℕ) (i q : ℕ) → i < length numbers → get_or numbers i 0 < length members
    → get_or members q false ≡ list_any (λ n. n == q) (take i numbers) → get_or (set members (get_or numbers i 0) true) q false ≡ list_any (λ n. n == q) (take (i + 1) numbers)
one_more_in members numbers i q within small h =
    let n : ℕ = get_or numbers i 0 in
    let more = list_any_more (λ m. m == q) numbers i 0 within in
    elim (cases_eq q n) [
      | inl same ↦
          let here : get_or (set members n true) q false ≡ true = rw same (get_or-set_same members n true false small) in
          let test : (n == q) ≡ true = eq-eqb n q (sym same) in
          here ∙ sym (more ∙ rw (test, or-true) refl)
      | inr other ↦
          let test : (n == q) ≡ false = grind (arith, nat_tests) in
          get_or-set_other members n q true false other ∙ h ∙ sym (more ∙ rw (test, or-false) refl)
    ]

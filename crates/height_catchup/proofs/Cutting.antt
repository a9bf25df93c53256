-- What is cut down to its right precommits can be spelled, where it could before.
use Rattle.std.proofs.Common.{ℕ, zero, suc, ◌≤◌, Bool, inl, inr, List, [], ◌∷◌, ◌++◌, length, subst, sym, arith, length-append}
use Rattle.std.specs.List.{find, flat_map, AllByRecursion}
use Rattle.std.specs.Option.{option_to_list}
use Rattle.std.proofs.lemmas.Bool.{cases_Bool}
use Rattle.messages.specs.Grammar.{IsPrecommit, IsBundle}
use Rattle.messages.specs.declared.body.Precommit.{Precommit}
use Rattle.messages.specs.declared.body.Bundle.{Bundle}
use Rattle.protocol.specs.Tags.{Setting}
use Rattle.protocol.specs.Messages.{below}
use Rattle.protocol.specs.Refusals.{is_vouching, certified}
use Rattle.height_catchup.proofs.Finding.{right_of, one_more}

one_at_most : (test : Precommit → Bool) (ps : List Precommit) → length (option_to_list (find test ps)) ≤ 1
one_at_most test [] = omega arith
one_at_most test (s ∷ ps) = elim (cases_Bool (test s)) [ inl y ↦ rw y (omega arith) | inr n ↦ rw n (one_at_most test ps) ]

found_fits : (test : Precommit → Bool) (ps : List Precommit) → AllByRecursion IsPrecommit ps → AllByRecursion IsPrecommit (option_to_list (find test ps))
found_fits test [] h = tt
found_fits test (s ∷ ps) h = elim (cases_Bool (test s)) [ inl y ↦ rw y (h.0, tt) | inr n ↦ rw n (found_fits test ps h.1) ]

joined_fit : (ps qs : List Precommit) → AllByRecursion IsPrecommit ps → AllByRecursion IsPrecommit qs → AllByRecursion IsPrecommit (ps ++ qs)
joined_fit [] qs h k = k
joined_fit (s ∷ ps) qs h k = (h.0, joined_fit ps qs h.1 k)

few : (f : ℕ → List Precommit) → ((i : ℕ) → length (f i) ≤ 1) → (n : ℕ) → length (flat_map f (below n)) ≤ n
unfolding below
few f h zero = omega arith
few f h (suc n) = subst (λ (ps : List Precommit). length ps ≤ suc n) (sym (one_more f n)) (omega (arith, length-append (flat_map f (below n)) (f n), h n, few f h n))

all_fit : (f : ℕ → List Precommit) → ((i : ℕ) → AllByRecursion IsPrecommit (f i)) → (n : ℕ) → AllByRecursion IsPrecommit (flat_map f (below n))
unfolding below
all_fit f h zero = tt
all_fit f h (suc n) = subst (λ (ps : List Precommit). AllByRecursion IsPrecommit ps) (sym (one_more f n)) (joined_fit (flat_map f (below n)) (f n) (all_fit f h n) (h n))

pub certified_fits : (c : Setting) (p : ℕ) (b : Bundle) → length c.powers ≤ 128 → IsBundle b → IsBundle (record b { precommits = certified c p b })
unfolding certified
certified_fits c p b small fits = record {
  height = fits.height;
  sender = fits.sender;
  round = fits.round;
  id = fits.id;
  value = fits.value;
  few = let n = few (right_of c p b) (λ i. one_at_most (is_vouching c p b i) b.precommits) (length c.powers) in omega arith;
  each = all_fit (right_of c p b) (λ i. found_fits (is_vouching c p b i) b.precommits fits.each) (length c.powers);
}

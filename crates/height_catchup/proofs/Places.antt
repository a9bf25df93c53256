-- A bundle that is found by its place.
use Rattle.std.proofs.Common.{◌≡◌, ℕ, zero, suc, ◌+◌, ◌-◌, ◌<◌, inl, inr, Bor, Option, Some, None, List, [], ◌∷◌, ◌++◌, length, length-append, map, refl, sym, ◌∙◌, ap, arith}
use Rattle.std.specs.Prelude.{◌==◌}
use Rattle.std.specs.List.{find, slice_get, slice_index_or}
use Rattle.std.specs.Option.{option_copied}
use Rattle.std.specs.Slice.{IsItemAt}
use Rattle.std.proofs.lemmas.Bool.{eq-eqb, ne_eqb, cases_eq}
use Rattle.std.proofs.lemmas.List.{get_or-map, get_or_append_left, get_or-append_right}
use Rattle.std.proofs.lemmas.Option.{slice_get_past, slice_get-get_or}
use Rattle.messages.specs.declared.body.Bundle.{Bundle}
use Rattle.protocol.specs.Messages.{below}
use Rattle.height_catchup.specs.Kept.{IsInPlace}

-- what a read gives
pub read_at : (bundles : List Bundle) (height : ℕ) (r : Option (Bor Bundle)) → IsItemAt bundles height r → option_copied r ≡ slice_get bundles height
read_at bundles height None read = sym (slice_get_past bundles height read.3)
read_at bundles height (Some b) read = ap (λ (x : Bundle). Some x) (read.3.1 b.now) ∙ sym (slice_get-get_or bundles height b.now read.3.0)

from_place : (bundles : List Bundle) (first height at : ℕ) → at ≡ first + height → ((k : ℕ) (d : Bundle) → k < length bundles → (slice_index_or bundles k d).height ≡ first + k)
    → find (λ b. b.height == at) bundles ≡ slice_get bundles height
from_place [] first height at e placed = refl
from_place (b ∷ bundles) first zero at e placed = rw (eq-eqb b.height at (let h : b.height ≡ first + 0 = placed 0 b (omega arith) in omega arith)) refl
from_place (b ∷ bundles) first (suc height) at e placed =
    rw (ne_eqb b.height at (λ same. let h : b.height ≡ first + 0 = placed 0 b (omega arith) in omega arith))
    (from_place bundles (suc first) height at (omega arith) (λ k d l. let h : (slice_index_or bundles k d).height ≡ first + suc k = placed (suc k) d (omega arith) in omega arith))

-- the bundle of a height is the one at that place
pub found_at_place : (bundles : List Bundle) (height : ℕ) → IsInPlace bundles → find (λ b. b.height == height) bundles ≡ slice_get bundles height
found_at_place bundles height placed = from_place bundles 0 height height (omega arith) (λ k d l. let h : (slice_index_or bundles k d).height ≡ k = placed k d l in omega arith)

-- ---- decisions whose heights are counted

below_length : (n : ℕ) → length (below n) ≡ n
unfolding below
below_length zero = refl
below_length (suc n) = omega (arith, length-append (below n) (n ∷ []), below_length n)

below_at : (n k d : ℕ) → k < n → slice_index_or (below n) k d ≡ k
unfolding below
below_at zero k d lt = absurd (omega (arith, lt))
below_at (suc n) k d lt = elim (cases_eq k n) [
  | inl e ↦ rw (get_or-append_right (below n) (n ∷ []) n k d (below_length n) (omega (arith, e))) (let h : k - n ≡ 0 = omega (arith, e) in rw h (sym e))
  | inr e ↦ get_or_append_left (below n) (n ∷ []) d k (omega (arith, lt, e, below_length n)) ∙ below_at n k d (omega (arith, lt, e))
]

pub in_place : (bundles : List Bundle) → map (λ (b : Bundle). b.height) bundles ≡ below (length bundles) → IsInPlace bundles
in_place bundles e k d lt =
    sym (get_or-map (λ (b : Bundle). b.height) bundles k d 0 lt) ∙ ap (λ (ns : List ℕ). slice_index_or ns k 0) e ∙ below_at (length bundles) k 0 lt

-- Key files, one key after the other, and rows of keys.
use Rattle.std.proofs.Common.{◌≡◌, ℕ, zero, suc, ◌+◌, ◌<◌, List, [], ◌∷◌, ◌++◌, map, Some, refl, sym, ap, ◌∙◌, add-one, arith}
use Rattle.std.specs.List.{flat_map, range_with_len, slice_get}
use Rattle.std.proofs.lemmas.Grind.{flat_map-append}
use Rattle.std.proofs.lemmas.List.{append-nil, map_push}
use Rattle.std.proofs.lemmas.List.FromFn.{get_or-map-range_with_len, length-map-range_with_len, map-range_with_len_more}
use Rattle.std.proofs.lemmas.Option.{slice_get-get_or}
use Rattle.protocol.specs.Messages.{below}

pub no_lines : (lines : ℕ → List ℕ) → flat_map lines (below 0) ≡ []
unfolding below
no_lines lines = refl

pub more_lines : (lines : ℕ → List ℕ) (n : ℕ) → flat_map lines (below (n + 1)) ≡ flat_map lines (below n) ++ lines n
unfolding below
more_lines lines n = rw add-one (flat_map-append lines (below n) (n ∷ []) ∙ ap (λ (w : List ℕ). flat_map lines (below n) ++ w) (append-nil (lines n)))

-- one more of a row
pub range_more : {X : Type 0} (f : ℕ → X) (n : ℕ) → map f (range_with_len 0 (suc n)) ≡ map f (range_with_len 0 n) ++ f n ∷ []
range_more f n = rw add-one at (map-range_with_len_more f 0 n n (omega arith))

below_is_range : (key : ℕ → List ℕ) (n : ℕ) → map key (below n) ≡ map key (range_with_len 0 n)
unfolding below
below_is_range key zero = refl
below_is_range key (suc n) = map_push key (below n) n ∙ ap (λ (w : List (List ℕ)). w ++ key n ∷ []) (below_is_range key n) ∙ sym (range_more key n)

-- the i-th of them
pub below_at : (key : ℕ → List ℕ) (n i : ℕ) → i < n → slice_get (map key (below n)) i ≡ Some (key i)
below_at key n i h =
    rw (below_is_range key n) (slice_get-get_or (map key (range_with_len 0 n)) i [] (omega (arith, length-map-range_with_len key 0 n)) ∙ ap (λ (k : List ℕ). Some k) (get_or-map-range_with_len key 0 n i i [] h (omega arith)))

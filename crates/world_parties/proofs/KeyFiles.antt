-- Key files, one key after the other.
use Rattle.std.proofs.Common.{◌≡◌, ℕ, ◌+◌, List, [], ◌∷◌, ◌++◌, refl, ap, ◌∙◌, add-one}
use Rattle.std.specs.List.{flat_map}
use Rattle.std.proofs.lemmas.Grind.{flat_map-append}
use Rattle.std.proofs.lemmas.List.{append-nil}
use Rattle.protocol.specs.Messages.{below}

pub no_lines : (lines : ℕ → List ℕ) → flat_map lines (below 0) ≡ []
unfolding below
no_lines lines = refl

pub more_lines : (lines : ℕ → List ℕ) (n : ℕ) → flat_map lines (below (n + 1)) ≡ flat_map lines (below n) ++ lines n
unfolding below
more_lines lines n = rw add-one (flat_map-append lines (below n) (n ∷ []) ∙ ap (λ (w : List ℕ). flat_map lines (below n) ++ w) (append-nil (lines n)))

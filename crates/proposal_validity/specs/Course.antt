-- How standings change along a list of items.
use Rattle.std.specs.Prelude.{ℕ, Bool, true, cond, ◌&&◌, List, [], ◌∷◌, map, ◌==◌}
use Rattle.protocol.specs.declared.standing.Standing.{Standing}
use Rattle.protocol.specs.Values.{Item, Tx, item, left_by, fits}

-- a client's standing after these items
abbrev pub after : ℕ → List Item → Standing → Standing
after client [] s = s
after client (t ∷ ts) s = after client ts (cond (t.client == client) (left_by t) s)

-- each item is its client's next after those before it
abbrev pub all_fit : (ℕ → Standing) → List Item → Bool
all_fit s [] = true
all_fit s (t ∷ ts) = fits (s t.client) t && all_fit (λ client. after client (t ∷ []) (s client)) ts

abbrev pub items_of : List Tx → List Item
items_of txs = map item txs

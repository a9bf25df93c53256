-- When a longer list keeps the clients' order, and what a frontier says of it.
use Rattle.std.specs.Prelude.{◌≡◌, Bool, true, ◌&&◌, List, [], ◌∷◌, ◌++◌}
use Rattle.protocol.specs.Values.{Item, Value, fits, fifo, valid}
use Rattle.protocol.specs.Queues.{standing_of}
use Rattle.proposal_validity.specs.Standing.{Standings, IsFrontierOf}

-- each item is its client's next after this list and the items before it
abbrev pub follows : List Item → List Item → Bool
follows d [] = true
follows d (t ∷ ts) = fits (standing_of t.client d) t && follows (d ++ t ∷ []) ts

abbrev pub ValidLaw : Type 0
ValidLaw = (d ts : List Item) → fifo d ≡ true → fifo (d ++ ts) ≡ follows d ts

-- after lists that leave the same behind the same values are valid
abbrev pub FrontierLaw : Type 0
FrontierLaw = (f : Standings) (v : Value) (d e : List Item) → IsFrontierOf d f → IsFrontierOf e f → valid d v ≡ valid e v

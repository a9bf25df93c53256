-- That runs over stores are as many as the definitions' runs.
use Rattle.std.specs.Prelude.{◌≡◌, ℕ, List, [], ◌∷◌}
use Rattle.protocol.specs.Messages.{Record}
use Rattle.protocol.specs.Tags.{Setting}
use Rattle.protocol.specs.World.{Event, run, beginning}
use Rattle.vote_journal.specs.Stopping.{Deed, Fits, begun, ends, Happen, BeginsEmpty}

-- a store that is its bytes, and does at once what it is asked
abbrev pub bytes_of : List ℕ → List ℕ
bytes_of store = store

abbrev pub stays : List ℕ → List ℕ → Type 0
stays store c = c ≡ store

abbrev pub AllFit : ℕ → List Record → Type 0
AllFit p [] = Unit {0}
AllFit p (r ∷ rs) = Fits p r × AllFit p rs

-- Every run of the definitions whose records have their fields in their ranges, with its stops, leaves what one over stores leaves.
abbrev pub ServedLaw : Type 0
ServedLaw = (c : Setting) (events : List Event) → ((p : ℕ) → AllFit p ((run c (beginning c) events).nodes p).journal) →
    (start : ℕ → List ℕ) × (deeds : List (Deed × List ℕ))
    × BeginsEmpty bytes_of stays c start start
    × Happen bytes_of stays c (begun c start) deeds
    × ((ends c (begun c start) deeds).world ≡ run c (beginning c) events)

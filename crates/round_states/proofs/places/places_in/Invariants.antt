use Rattle.std.proofs.Common.{◌≡◌, ℕ, take, map}
use Rattle.round_states.specs.Found.{proposal_in}
use Rattle.round_states.specs.Places.{places_of, places_at}
use Rattle.round_states.proofs.places.places_in.Given as goal

abbrev pub invariant-loop-place : goal.invariant-loop-place
invariant-loop-place l = (r : ℕ) → places_at l.places r ≡ places_of r (map proposal_in (take l.place l.kept))

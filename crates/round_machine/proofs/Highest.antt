-- The highest round of a weak quorum above the own one is the highest of all, where that is above it.
use Rattle.std.proofs.Common.{◌≡◌, ℕ, ◌<◌, ◌≤◌, Bool, true, ◌&&◌, cond, nat_lt, List, Option, Some, None, IfSome, refl, arith, inl, inr, ltb-true, lt-ltb}
use Rattle.std.proofs.lemmas.Bool.{cases_Bool, and_parts, and_from}
use Rattle.protocol.specs.Messages.{◌∈◌}
use Rattle.protocol.specs.Order.{highest}
use Rattle.vote_tally.specs.Told.{Reaches}
use Rattle.vote_tally.proofs.Highest.{highest_found, highest_only}
use Rattle.round_machine.specs.Judging.{if_later}

is_later : (test : ℕ → Bool) (rs : List ℕ) (own : ℕ) (best : Option ℕ) → IfSome best (λ b. (b ∈ rs) × (test b ≡ true)) → IfSome (if_later own best) (λ b. (b ∈ rs) × ((nat_lt own b && test b) ≡ true))
is_later test rs own None h = tt
is_later test rs own (Some b) h = elim (cases_Bool (nat_lt own b)) [
  | inl t ↦ rw t (h.0, and_from (nat_lt own b) (test b) t h.1)
  | inr f ↦ rw f tt
]

later_reaches : (own : ℕ) (best : Option ℕ) (r : ℕ) → Reaches best r → own < r → Reaches (if_later own best) r
later_reaches own None r h lt = absurd h
later_reaches own (Some b) r h lt = let t : nat_lt own b ≡ true = lt-ltb own b (omega (arith, h, lt)) in rw t h

pub highest_later : (test : ℕ → Bool) (rs : List ℕ) (own : ℕ) → if_later own (highest test rs) ≡ highest (λ r. nat_lt own r && test r) rs
highest_later test rs own =
    let found = highest_found test rs in
    highest_only (λ r. nat_lt own r && test r) rs (if_later own (highest test rs))
    (is_later test rs own (highest test rs) found.0)
    (λ r i t. let p = and_parts (nat_lt own r) (test r) t in later_reaches own (highest test rs) r (found.1 r i p.1) (ltb-true own r p.0))

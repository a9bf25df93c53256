-- In which heights a validator proposes first.
use Rattle.std.specs.Prelude.{◌≡◌, ℕ, ◌+◌, ◌<◌, ◌==◌, false, List, take, slice_index}
use Rattle.powers.specs.Power.{total, proposer}
use Rattle.proposer_turns.specs.declared.Turns.{Turns}

-- of each cycle of heights those behind the heights of all validators of smaller numbers, as many as it has power
abbrev pub turns_of : List ℕ → ℕ → Turns
turns_of powers validator = record { before = total (take validator powers); own = slice_index powers validator; cycle = total powers }

-- so many heights after this one the next comes in whose first round it proposes
pub record IsNext (powers : List ℕ) (validator height count : ℕ) : Type 0 where
  pub later : 0 < count
  pub turn : proposer powers (height + count) 0 ≡ validator
  pub none : (k : ℕ) → 0 < k → k < count → (proposer powers (height + k) 0 == validator) ≡ false

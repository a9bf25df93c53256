-- Rows that stay within a picture.
use Rattle.std.proofs.Common.{◌≡◌, ℕ, ◌≤◌, true, List, [], ◌∷◌, arith, refl}
use Rattle.std.proofs.lemmas.Grind.{common_steps}
use Rattle.schedule_chart.specs.Extent.{are_within}
use Rattle.schedule_chart.specs.declared.row.Row.{Row}

-- what is above the foot is above a lower one
pub within_lower : (foot lower : ℕ) (rows : List Row) → foot ≤ lower → are_within foot rows ≡ true → are_within lower rows ≡ true
within_lower foot lower [] h e = refl
within_lower foot lower (row ∷ rows) h e = grind (arith, common_steps, within_lower foot lower rows h)

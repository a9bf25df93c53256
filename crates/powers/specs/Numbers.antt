-- The number of each fault.
use Rattle.std.specs.Prelude.{ℕ}
use Rattle.powers.specs.declared.PowersFault.{PowersFault}
use Rattle.powers.specs.declared.PowersFault.TheVariants.{Empty, TooMany, ZeroPower, Dominant}

abbrev pub number_of : PowersFault → ℕ
number_of Empty = 1
number_of TooMany = 2
number_of ZeroPower = 3
number_of Dominant = 4

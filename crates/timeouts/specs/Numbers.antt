-- The number of each fault.
use Rattle.std.specs.Prelude.{ℕ}
use Rattle.timeouts.specs.declared.PlanFault.{PlanFault}
use Rattle.timeouts.specs.declared.PlanFault.TheVariants.{TooLong, OutOfMemory}

abbrev pub number_of : PlanFault → ℕ
number_of TooLong = 1
number_of OutOfMemory = 2

-- Where no store fails.
use Rattle.std.specs.Prelude.{◌≡◌, ◌==◌, Bool, false, List}
use Rattle.std.specs.List.{list_any}
use Rattle.world_schedule.specs.declared.report.What.{What}
use Rattle.world_schedule.specs.declared.report.What.TheVariants.{Answered, Decided, Released}
use Rattle.world_schedule.specs.declared.report.Told.{Told}

-- a save or an opening failed for the device
abbrev pub is_failure : What → Bool
is_failure (Answered a) = a.number == 17
is_failure (Decided d) = false
is_failure (Released r) = false

-- no answer that is told says so
abbrev pub AreServed : List Told → Type 0
AreServed told = list_any (λ (t : Told). is_failure t.what) told ≡ false

-- How the program ends.
use Rattle.std.specs.Prelude.{ℕ}
use Rattle.schedule_text.specs.declared.fault.ReadFault.{ReadFault}
use Rattle.schedule_text.specs.declared.fault.ReadFault.TheVariants as reading
use Rattle.schedule_text.specs.declared.fault.Failure.{Failure}
use Rattle.schedule_text.specs.declared.fault.Failure.TheVariants.{Usage, CannotRead, BadLine, Event, OutOfMemory, CannotWrite}

-- the exit status of a failure
abbrev pub status_of : Failure → ℕ
status_of Usage = 2
status_of (CannotRead name) = 2
status_of (BadLine line) = 2
status_of (Event event fault) = 3
status_of OutOfMemory = 4
status_of CannotWrite = 5

-- a text that is no schedule, by its first bad line
abbrev pub of_reading : ReadFault → Failure
of_reading (reading.BadLine line) = BadLine line
of_reading reading.OutOfMemory = OutOfMemory

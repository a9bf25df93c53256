-- Faults of encoding, as those of an event.
use Rattle.std.specs.Prelude.{◌≡◌, ◌⊎◌}
use Rattle.transactions.specs.declared.fault.Fault.{Fault}
use Rattle.transactions.specs.declared.fault.Fault.TheVariants as spelling
use Rattle.world_parties.specs.declared.fault.FaultNumber.{FaultNumber}
use Rattle.world_parties.specs.declared.fault.FaultNumber.TheVariants.{TooLong, OutOfMemory}

-- what has no encoding is too long, or out of its range
abbrev pub of_spelling : Fault → FaultNumber
of_spelling spelling.OutOfMemory = OutOfMemory
of_spelling _ = TooLong

-- there is no encoding, or memory was refused to it
abbrev pub IsUnencoded : Type 0 → FaultNumber → Type 0
IsUnencoded Encodable fault = ((fault ≡ TooLong) × (Encodable → ⊥)) ⊎ (fault ≡ OutOfMemory)

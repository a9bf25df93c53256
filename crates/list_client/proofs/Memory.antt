-- A fault where something has a spelling is want of memory, and may come where anything else has one too.
use Rattle.std.proofs.Common.{◌≡◌, Ok, Err}
use Rattle.transactions.specs.declared.fault.Fault.{Fault}
use Rattle.transactions.specs.declared.fault.Fault.TheVariants.{Truncated, TooLong, BadSpelling, BadKind, OutOfMemory}
use Rattle.transactions.specs.Fields.{Fails}

pub fails_too : {Y Z : Type 0} (fault : Fault) (given : Y) (other : Z) → Fails fault (Ok given) → Fails fault (Ok other)
fails_too OutOfMemory given other told = told
fails_too Truncated given other told = absurd (let no : Ok given ≡ Err Truncated = told in cc)
fails_too TooLong given other told = absurd (let no : Ok given ≡ Err TooLong = told in cc)
fails_too BadSpelling given other told = absurd (let no : Ok given ≡ Err BadSpelling = told in cc)
fails_too BadKind given other told = absurd (let no : Ok given ≡ Err BadKind = told in cc)

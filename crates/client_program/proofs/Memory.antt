-- Of what has a spelling, want of memory alone is told.
use Rattle.std.proofs.Common.{◌≡◌, refl, Ok, Err}
use Rattle.transactions.specs.declared.fault.Fault.{Fault}
use Rattle.transactions.specs.declared.fault.Fault.TheVariants.{Truncated, TooLong, BadSpelling, BadKind, OutOfMemory}
use Rattle.transactions.specs.Fields.{Fails}

pub no_memory : {Y : Type 0} (fault : Fault) (given : Y) → Fails fault (Ok given) → fault ≡ OutOfMemory
no_memory OutOfMemory given told = refl
no_memory Truncated given told = absurd (let no : Ok given ≡ Err Truncated = told in cc)
no_memory TooLong given told = absurd (let no : Ok given ≡ Err TooLong = told in cc)
no_memory BadSpelling given told = absurd (let no : Ok given ≡ Err BadSpelling = told in cc)
no_memory BadKind given told = absurd (let no : Ok given ≡ Err BadKind = told in cc)

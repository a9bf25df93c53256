-- What submitting a transaction answers.
use Rattle.std.specs.Prelude.{◌≡◌, Option, None, Result, Ok, Err}
use Rattle.protocol.specs.Refusals.{TxRefusal}
use Rattle.protocol.specs.Answers.{IsCause, submit_cause}
use Rattle.protocol.specs.declared.refusal.SubmitFault.{SubmitFault}
use Rattle.protocol.specs.declared.refusal.SubmitFault.TheVariants as faults

-- Nothing stands, or the answer tells the first cause.
abbrev pub IsVerdict : Option TxRefusal → Result (Unit {0}) SubmitFault → Type 0
IsVerdict first (Ok done) = first ≡ None
IsVerdict first (Err fault) = IsCause first (submit_cause fault)

-- The same, but that memory may run out where nothing stands.
abbrev pub IsAnswer : Option TxRefusal → Result (Unit {0}) SubmitFault → Type 0
IsAnswer first (Err faults.OutOfMemory) = first ≡ None
IsAnswer first result = IsVerdict first result

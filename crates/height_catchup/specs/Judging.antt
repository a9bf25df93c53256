-- What judging answers where this is the first cause against a bundle.
use Rattle.std.specs.Prelude.{◌≡◌, Option, None, Result, Ok, Err}
use Rattle.protocol.specs.Refusals.{BundleRefusal}
use Rattle.protocol.specs.Answers.{IsCause, judge_cause}
use Rattle.protocol.specs.declared.refusal.JudgeFault.{JudgeFault}
use Rattle.protocol.specs.declared.refusal.JudgeFault.TheVariants as faults

-- the answer is the cause's, unless memory ran out
abbrev pub IsVerdict : Option BundleRefusal → Result (Unit {0}) JudgeFault → Type 0
IsVerdict cause (Ok done) = cause ≡ None
IsVerdict cause (Err faults.OutOfMemory) = Unit {0}
IsVerdict cause (Err fault) = IsCause cause (judge_cause fault)

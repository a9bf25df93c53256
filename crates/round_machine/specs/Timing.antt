-- What a timeout that is due is answered.
use Rattle.std.specs.Prelude.{◌≡◌, Option, Some, None}
use Rattle.protocol.specs.Refusals.{Refusal}
use Rattle.protocol.specs.Answers.{IsCause, cause_of}
use Rattle.protocol.specs.declared.refusal.Refusal.{Refusal as Answer}

-- the answer is exactly this cause, and never want of memory
abbrev pub IsRefusal : Option Refusal → Option Answer → Type 0
IsRefusal cause None = cause ≡ None
IsRefusal cause (Some answer) = IsCause cause (cause_of answer)

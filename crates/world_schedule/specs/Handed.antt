-- What a core's calls answer is what the world's definitions answer.
use Rattle.std.specs.Prelude.{◌≡◌, ◌⊎◌, ℕ, Bool, List, Option, Some, None, Result, Ok, Err}
use Rattle.protocol.specs.Tags.{Setting}
use Rattle.protocol.specs.declared.types.Timeout.{Timeout}
use Rattle.protocol.specs.State.{Node}
use Rattle.protocol.specs.Refusals.{Refusal, answer}
use Rattle.protocol.specs.Calls.{CallRefusal, call_number, call_answer, timeout_answer}
use Rattle.node_core.specs.Core.{Core, setting_of}
use Rattle.protocol.specs.Answers.{Answers}
use Rattle.protocol.specs.Answers.{numbers_of}
use Rattle.protocol.specs.declared.refusal.Refusal.{Refusal as Answer}
use Rattle.protocol.specs.declared.refusal.Refusal.TheVariants.{OutOfMemory, JournalFailed}
use Rattle.world_schedule.specs.Cores.{StandsIn}

-- the numbers of a call's answer, and of what is told where memory and the store serve: 0 where all went well
abbrev pub told_numbers : Result (Unit {0}) Answer → ℕ × ℕ
told_numbers (Ok done) = (0, 0)
told_numbers (Err refusal) = numbers_of refusal

abbrev pub call_numbers : Option CallRefusal → ℕ × ℕ
call_numbers None = (0, 0)
call_numbers (Some cause) = call_number cause

-- The answer is this cause, or that the node had halted, and has its numbers, unless memory ran out or the journal failed.
pub record IsTold (halted : Bool) (cause : Option Refusal) (result : Result (Unit {0}) Answer) : Type 0 where
  pub answer : Answers halted cause result
  pub numbers : (result ≡ Err OutOfMemory) ⊎ ((result ≡ Err JournalFailed) ⊎ (told_numbers result ≡ call_numbers (call_answer halted cause)))

-- What is answered for the core's own setting is told of the world's node.
pub record AnswersFor (c : Setting) (p : ℕ) (n : Node) (core : Core) : Type 0 where
  pub frames : (bytes : List ℕ) (result : Result (Unit {0}) Answer) → Answers core.journal.failed (answer (setting_of core) core.machine.me n bytes) result → IsTold core.journal.failed (answer c p n bytes) result
  pub timeouts : (t : Timeout) (result : Result (Unit {0}) Answer) → Answers core.journal.failed (timeout_answer core.machine.state t) result → IsTold core.journal.failed (timeout_answer n.state t) result

abbrev pub HandedLaw : Type 0
HandedLaw = (c : Setting) (p : ℕ) (n : Node) (core : Core) → StandsIn c p n core → AnswersFor c p n core

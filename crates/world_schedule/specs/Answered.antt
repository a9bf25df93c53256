-- What a call of a node answers, and what it then did.
use Rattle.std.specs.Prelude.{◌≡◌, ◌⊎◌, ℕ, ◌++◌, map, Option, Some, None, Result, Ok, Err}
use Rattle.protocol.specs.Tags.{Setting}
use Rattle.protocol.specs.State.{Node}
use Rattle.protocol.specs.Order.{enabled}
use Rattle.protocol.specs.Refusals.{Refusal, answer, refusal_number}
use Rattle.protocol.specs.Calls.{Halted, NoMemory, JournalFailed, call_number, timeout_answer}
use Rattle.protocol.specs.World.{Cut}
use Rattle.protocol.specs.History.{Input, Settle, Given, Due, taken, after}
use Rattle.node_core.specs.Core.{Core, JournalSeen, setting_of}
use Rattle.node_core.specs.Calls.{EachIsNamed, TellsJournal, IsUnchanged, IsDone, IsBroken, LeavesBy}
use Rattle.protocol.specs.Answers.{Answers}
use Rattle.protocol.specs.declared.refusal.Refusal.{Refusal as Answer}
use Rattle.protocol.specs.declared.refusal.Refusal.TheVariants as answers
use Rattle.world_schedule.specs.Calls.{Call, Handed, moved, bodies_by, timeouts_by}
use Rattle.world_schedule.specs.Health.{IsCut}
use Rattle.world_schedule.specs.Cores.{StandsIn, frame_in}
use Rattle.world_schedule.specs.Handed.{told_numbers}

-- why what is handed to a node is refused
abbrev pub cause_of : Setting → ℕ → Node → Input → Option Refusal
cause_of c p n Settle = None
cause_of c p n (Given bytes) = answer c p n bytes
cause_of c p n (Due t) = timeout_answer n.state t

-- ---- the ways in which a call ends

-- It did what was handed in and fired rules until none was enabled, and answers that all went well.
pub record WentWell (c : Setting) (p : ℕ) (n : Node) (input : Input) (numbers : ℕ × ℕ) (call : Call) : Type 0 where
  pub cause : cause_of c p n input ≡ None
  pub numbers_are : numbers ≡ (0, 0)
  pub times : ℕ
  pub named : EachIsNamed c p times (taken c p n input)
  pub quiet : enabled c.powers (after c p n input times).state ≡ None
  pub call_is : call ≡ Handed p input times

-- It answers the first cause, and fired nothing.
pub record WasRefused (c : Setting) (p : ℕ) (n : Node) (input : Input) (numbers : ℕ × ℕ) (call : Call) : Type 0 where
  pub cause : Refusal
  pub first : cause_of c p n input ≡ Some cause
  pub numbers_are : numbers ≡ refusal_number cause
  pub call_is : call ≡ Handed p input 0

-- It answers want of memory, or that the journal failed: it did what was handed in and fired so many rules, or did nothing.
pub record EndedEarly (c : Setting) (p : ℕ) (n : Node) (input : Input) (numbers : ℕ × ℕ) (call : Call) : Type 0 where
  pub numbers_are : (numbers ≡ call_number NoMemory) ⊎ (numbers ≡ call_number JournalFailed)
  pub times : ℕ
  pub named : EachIsNamed c p times (taken c p n input)
  pub call_is : (call ≡ Handed p input times) ⊎ (call ≡ Handed p Settle 0)

-- The node had halted, and did nothing.
pub record HadHalted (p : ℕ) (numbers : ℕ × ℕ) (call : Call) : Type 0 where
  pub numbers_are : numbers ≡ call_number Halted
  pub call_is : call ≡ Handed p Settle 0

-- Nothing is left out but where the answer is want of memory, or that the journal failed or had failed.
abbrev pub IsAnswered : Setting → ℕ → Node → Input → ℕ × ℕ → Call → Type 0
IsAnswered c p n input numbers call = WentWell c p n input numbers call ⊎ (WasRefused c p n input numbers call ⊎ (EndedEarly c p n input numbers call ⊎ HadHalted p numbers call))

-- ---- what a core's contract says of it

-- the cause by the core's own setting
abbrev pub own_cause : Core → Node → Input → Option Refusal
own_cause core n Settle = None
own_cause core n (Given bytes) = answer (setting_of core) core.machine.me n bytes
own_cause core n (Due t) = timeout_answer core.machine.state t

-- the clauses of a call that is handed this
pub record IsByContract (n : Node) (input : Input) (result : Result (Unit {0}) Answer) (old new : Core) : Type 0 where
  pub answer : Answers old.journal.failed (own_cause old n input) result
  pub done : IsDone n input result old new
  pub broken : result ≡ Err answers.JournalFailed → IsBroken n input old new
  pub refused : (r : Answer) → result ≡ Err r → (r ≡ answers.OutOfMemory) ⊎ ((r ≡ answers.JournalFailed) ⊎ IsUnchanged old new)
  pub journal : TellsJournal result old.journal new.journal
  pub quiet : result ≡ Ok tt → enabled new.machine.powers new.machine.state ≡ None

-- what was cut off, and what stands in the store since, and whatever a stop may leave of it
abbrev pub LeavesCut : Setting → ℕ → Node → Input → Call → JournalSeen → Type 0
LeavesCut c p n input call journal = (cut : Option Cut) × IsCut c p n input call cut × LeavesBy c p (moved c p n call) cut journal

-- The call is one of the world, answered so; the core stands for the node after it, and has let its frames and timeouts go. Where the journal failed, it was cut off.
pub record IsAnsweredIn (c : Setting) (p : ℕ) (n : Node) (input : Input) (numbers : ℕ × ℕ) (old new : Core) : Type 0 where
  pub call : Call
  pub answered : IsAnswered c p n input numbers call
  pub stands : StandsIn c p (moved c p n call) new
  pub broken : numbers ≡ call_number JournalFailed → LeavesCut c p n input call new.journal
  pub outgoing : new.outgoing ≡ old.outgoing ++ map (frame_in c) (bodies_by c (λ _. n) call)
  pub scheduled : new.scheduled ≡ old.scheduled ++ timeouts_by c (λ _. n) call

-- Each call that keeps a core's contract is a call of the world.
abbrev pub AnsweredLaw : Type 0
AnsweredLaw = (c : Setting) (p : ℕ) (n : Node) (old : Core) → StandsIn c p n old → (input : Input) (result : Result (Unit {0}) Answer) (new : Core) → IsByContract n input result old new → IsAnsweredIn c p n input (told_numbers result) old new

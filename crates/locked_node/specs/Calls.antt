-- What a node answers to each event, and what it then is: the clauses of its core.
use Rattle.std.specs.Prelude.{◌≡◌, ◌⊎◌, ◌++◌, ◌∷◌, [], map, Option, None, Result, Err, IfErr, OnOk, OnErr}
use Rattle.protocol.specs.Messages.{OfAsk}
use Rattle.protocol.specs.State.{Node}
use Rattle.protocol.specs.Order.{enabled}
use Rattle.protocol.specs.Restart.{own_since}
use Rattle.protocol.specs.Refusals.{Refusal as Cause, answer}
use Rattle.protocol.specs.Calls.{timeout_answer}
use Rattle.protocol.specs.History.{Input, Settle, Given, Due}
use Rattle.protocol.specs.declared.refusal.Refusal.{Refusal}
use Rattle.protocol.specs.declared.refusal.Refusal.TheVariants.{Halted, OutOfMemory, JournalFailed}
use Rattle.node_core.specs.Core.{Core, Stands, setting_of, frame_by}
use Rattle.protocol.specs.Answers.{Answers}
use Rattle.node_core.specs.Calls.{IsDone, IsBroken, IsUnchanged, TellsJournal}
use Rattle.locked_node.specs.History.{Heard, Took, Asked, Resent}

-- why what is handed in is refused
abbrev pub cause_of : Core → Node → Input → Option Cause
cause_of core n Settle = None
cause_of core n (Given bytes) = answer (setting_of core) core.machine.me n bytes
cause_of core n (Due t) = timeout_answer core.machine.state t

-- the input was handed to the core
pub record IsHanded (input : Input) (result : Result (Unit {0}) Refusal) (old new : Core) : Type 0 where
  pub answer : (n : Node) → Stands n old → Answers old.journal.failed (cause_of old n input) result
  pub done : (n : Node) → Stands n old → IsDone n input result old new
  pub broken : result ≡ Err JournalFailed → (n : Node) → Stands n old → IsBroken n input old new
  pub refused : IfErr result (λ r. (r ≡ OutOfMemory) ⊎ (r ≡ JournalFailed) ⊎ IsUnchanged old new)
  pub journal : TellsJournal result old.journal new.journal
  pub quiet : OnOk result (enabled new.machine.powers new.machine.state ≡ None)

-- an ask for the decision of its height was released
pub record IsAsked (result : Result (Unit {0}) Refusal) (old new : Core) : Type 0 where
  pub answer : Answers old.journal.failed None result
  pub refusal : IfErr result (λ r. (r ≡ Halted) ⊎ (r ≡ OutOfMemory))
  pub ok : OnOk result (new ≡ record old { outgoing = old.outgoing ++ frame_by old (OfAsk (record { height = old.machine.state.height; sender = old.machine.me })) ∷ []; fired = 0 })
  pub err : OnErr result (IsUnchanged old new)

-- the own messages of the height were released once more
pub record IsResent (result : Result (Unit {0}) Refusal) (old new : Core) : Type 0 where
  pub answer : Answers old.journal.failed None result
  pub refusal : IfErr result (λ r. (r ≡ Halted) ⊎ (r ≡ OutOfMemory))
  pub ok : (n : Node) → Stands n old → OnOk result (new ≡ record old { outgoing = old.outgoing ++ map (frame_by old) (own_since old.machine.me n.journal); fired = 0 })
  pub err : OnErr result (IsUnchanged old new)

-- The core did what it was asked.
abbrev pub Does : Heard → Result (Unit {0}) Refusal → Core → Core → Type 0
Does (Took input) result old new = IsHanded input result old new
Does Asked result old new = IsAsked result old new
Does Resent result old new = IsResent result old new

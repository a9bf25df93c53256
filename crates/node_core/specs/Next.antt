-- What a call does with the next frame of a stream.
use Rattle.std.specs.Prelude.{◌≡◌, ◌⊎◌, ℕ, List, Bool, true, false, Option, Some, None, Result, Ok, Err, OnOk, IfErr}
use Rattle.transactions.specs.declared.fault.Fault.{Fault}
use Rattle.messages.specs.Pieces.{Held, IsNext}
use Rattle.protocol.specs.State.{Node}
use Rattle.protocol.specs.Order.{enabled}
use Rattle.protocol.specs.Refusals.{answer}
use Rattle.protocol.specs.History.{Given}
use Rattle.protocol.specs.declared.refusal.Refusal.{Refusal as Answer}
use Rattle.protocol.specs.declared.refusal.Refusal.TheVariants as answers
use Rattle.node_core.specs.Core.{Core, Stands, setting_of}
use Rattle.protocol.specs.Answers.{Answers}
use Rattle.node_core.specs.Calls.{IsDone, IsBroken, IsUnchanged, TellsJournal}

-- a frame was handed in: what is answered, and what is left
pub record IsHandled (frame : List ℕ) (result : Result (Unit {0}) Answer) (old new : Core) : Type 0 where
  pub answer : (n : Node) → Stands n old → Answers old.journal.failed (answer (setting_of old) old.machine.me n frame) result
  pub done : (n : Node) → Stands n old → IsDone n (Given frame) result old new
  pub refused : IfErr result (λ r. (r ≡ answers.OutOfMemory) ⊎ (r ≡ answers.JournalFailed) ⊎ IsUnchanged old new)
  pub broken : result ≡ Err answers.JournalFailed → (n : Node) → Stands n old → IsBroken n (Given frame) old new
  pub journal : TellsJournal result old.journal new.journal
  pub quiet : OnOk result (enabled new.machine.powers new.machine.state ≡ None)

-- By what the reader answers: without a whole frame nothing happens.
abbrev pub Handles : Result (Option (List ℕ)) Fault → Result Bool Answer → Core → Core → Type 0
Handles (Ok None) result old new = (result ≡ Ok false) × (new ≡ old)
Handles (Ok (Some frame)) (Ok is_there) old new = (is_there ≡ true) × IsHandled frame (Ok tt) old new
Handles (Ok (Some frame)) (Err answer) old new = IsHandled frame (Err answer) old new
Handles (Err fault) result old new = (result ≡ Err answers.TooLong) × (new ≡ old)

abbrev pub HandlesNext : Held → Result Bool Answer → Held → Core → Core → Type 0
HandlesNext held result left old new = (given : Result (Option (List ℕ)) Fault) × IsNext held given left × Handles given result old new

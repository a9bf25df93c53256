-- What a firing is made of.
use Rattle.std.specs.Prelude.{◌≡◌, ℕ, Bool, true, false, List, [], ◌∷◌, ◌++◌, map, option_to_list, Option, Some, None, IfSome}
use Rattle.messages.specs.Grammar.{IsBody}
use Rattle.transactions.specs.Grammar.{IsValue}
use Rattle.protocol.specs.Messages.{Body, Bundle, Record, Own, Decided, body_of}
use Rattle.protocol.specs.State.{State}
use Rattle.protocol.specs.Rules.{saved, changed, scheduled, released_by, starts}
use Rattle.protocol.specs.Queues.{pick}
use Rattle.vote_journal.specs.Grammar.{record_spelling, IsRecord}
use Rattle.round_states.specs.Machine.{Agrees}
use Rattle.round_states.specs.Pending.{Pending}
use Rattle.round_states.specs.Plans.{says as said_in, moved, applied, IsOfPlace}
use Rattle.round_states.specs.Steps.{proposal_at, picked_value}
use Rattle.round_machine.specs.Naming.{rule_of, pick_in, Serves, ServesRound}
use Rattle.round_machine.specs.declared.rule.Rule.{Rule as Name}
use Rattle.round_machine.specs.declared.rule.Rule.TheVariants as names
use Rattle.round_machine.specs.declared.rule.Input.{Input}
use Rattle.node_core.specs.Core.{Core, context_of, frame_by}
use Rattle.node_core.specs.declared.carrying.OwnFrame.{OwnFrame}
use Rattle.node_core.specs.declared.firing.Ready.{Ready}
pub use Rattle.state_journal.specs.Saving.{decision_in, IsNarrow}

-- what is handed serves the rule as the queues' own pick would
pub record IsHanded (core : Core) (rule : Name) (input : Input) : Type 0 where
  pub serves : Serves (context_of core) core.machine rule input
  pub same : saved (context_of core) (picked_value (pick_in input)) core.machine.state (rule_of core.machine.state rule) ≡ saved (context_of core) (pick core.queues) core.machine.state (rule_of core.machine.state rule)

-- and so where a rule begins this round
pub record IsRoundHanded (core : Core) (round : ℕ) (input : Input) : Type 0 where
  pub serves : ServesRound (context_of core) core.machine round input
  pub same : starts (context_of core) core.machine.state round (picked_value (pick_in input)) ≡ starts (context_of core) core.machine.state round (pick core.queues)

-- what is decided or locked can be spelled
abbrev pub IsFit : State → Name → Type 0
IsFit s (names.Decide i) = IsValue (proposal_at s i).value
IsFit s (names.Lock i) = IsValue (proposal_at s i).value
IsFit s _ = Unit {0}

-- the bytes of a frame, if there is one
abbrev pub bytes_in : Option OwnFrame → List (List ℕ)
bytes_in None = []
bytes_in (Some frame) = frame.bytes.items ∷ []

-- What is prepared is the rule's firing, with the queues' own pick: what it saves, changes and schedules, the bytes of its record, and the frame of its message.
pub record IsReady (core : Core) (rule : Name) (ready : Ready) : Type 0 where
  pub fit : IsFit core.machine.state rule
  pub says : said_in ready.plan ≡ saved (context_of core) (pick core.queues) core.machine.state (rule_of core.machine.state rule)
  pub moves : moved core.machine.state ready.plan.change ≡ changed core.machine.state (rule_of core.machine.state rule)
  pub timeout : ready.plan.timeout ≡ scheduled (context_of core) core.machine.state (rule_of core.machine.state rule)
  pub place : IsOfPlace core.machine ready.plan.change (said_in ready.plan)
  pub agrees : Agrees (context_of core) (applied core.machine ready.plan)
  pub record_of : IfSome (said_in ready.plan) (λ r. IsRecord core.machine.me r → ready.spelled.record.items ≡ record_spelling core.machine.me r)
  pub frame : bytes_in ready.spelled.frame ≡ map (frame_by core) (option_to_list (released_by core.machine.me (said_in ready.plan)))
  pub body : IfSome (released_by core.machine.me (said_in ready.plan)) IsBody

-- ---- what is said

abbrev pub decided_by : Option Pending → List Bundle
decided_by None = []
decided_by (Some u) = decision_in u.entry

-- the own messages of the height after a save: a decision begins the next height
abbrev pub said_after : ℕ → Record → List Body → List Body
said_after me (Own height round act) said = said ++ body_of me height round act ∷ []
said_after me (Decided b) said = []

abbrev pub said_by : Option Pending → List Body → List Body
said_by None said = said
said_by (Some u) said = said_after u.sender u.entry said

abbrev pub is_empty : List Bundle → Bool
is_empty [] = true
is_empty (b ∷ bs) = false

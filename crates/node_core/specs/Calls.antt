-- What a call answers, and what it leaves.
use Rattle.std.specs.Prelude.{◌≡◌, ℕ, ◌<◌, ◌-◌, ◌^◌, ◌⊎◌, ◌++◌, map, min, reverse, List, true, false, Option, Some, None, is_some, option_map, Result, Err}
use Rattle.protocol.specs.Messages.{Message, Record}
use Rattle.protocol.specs.Tags.{Setting}
use Rattle.protocol.specs.State.{Node, Rule, TimedOut}
use Rattle.protocol.specs.Order.{enabled}
use Rattle.protocol.specs.Arrivals.{firing, received}
use Rattle.protocol.specs.World.{Cut, InArrival, InFiring, cut_record}
use Rattle.protocol.specs.History.{Input, Settle, Given, Due, firsts, taken, after}
use Rattle.protocol.specs.Effects.{bodies_of, timeouts_of, along, bodies_taken, timeouts_taken, bodies_after, timeouts_after}
use Rattle.protocol.specs.declared.refusal.Refusal.{Refusal as Answer}
use Rattle.protocol.specs.declared.refusal.Refusal.TheVariants as answers
use Rattle.vote_journal.specs.Store.{Grew}
use Rattle.vote_journal.specs.Layout.{IsJournal}
use Rattle.node_core.specs.Core.{Core, JournalSeen, MayLeave, Stands, IsSame, setting_of, frame_by}

-- A refusal changes nothing, but that no rule was fired by it.
abbrev pub IsUnchanged : Core → Core → Type 0
IsUnchanged old new = new ≡ record old { fired = 0 }

-- ---- what a call makes of the journal

-- a save failed for the device, and the journal with it
pub record HasFailed (old new : JournalSeen) : Type 0 where
  pub before : old.failed ≡ false
  pub now : new.failed ≡ true
  pub grew : Grew old.failures new.failures

-- what a call's input saves as it is taken in, and what the first rule saves that is enabled
abbrev pub input_cut : Input → Option Cut
input_cut Settle = None
input_cut (Given bytes) = Some (InArrival bytes)
input_cut (Due t) = Some (InFiring (TimedOut t))

abbrev pub next_cut : Setting → Node → Option Cut
next_cut c n = option_map InFiring (enabled c.powers n.state)

-- The bytes are those of this journal, or of one with more records; the newest first, and cut short or not.
abbrev pub IsLeft : List ℕ → ℕ → List Record → List Record → List ℕ → Type 0
IsLeft powers me journal more bytes = (rs : List Record) × IsJournal powers me bytes rs × ((reverse rs ≡ journal) ⊎ (reverse rs ≡ more ++ journal))

-- those of the node's journal, or of one with the record of what was cut
abbrev pub IsLeftBy : Setting → ℕ → Node → Option Cut → List ℕ → Type 0
IsLeftBy c p n cut bytes = IsLeft c.powers p n.journal (cut_record c p n cut) bytes

-- So is what stands of a journal, and whatever a stop may leave of it.
abbrev pub Leaves : List ℕ → ℕ → List Record → List Record → JournalSeen → Type 0
Leaves powers me journal more seen = IsLeft powers me journal more seen.bytes × ((c : List ℕ) → MayLeave seen c → IsLeft powers me journal more c)

abbrev pub LeavesBy : Setting → ℕ → Node → Option Cut → JournalSeen → Type 0
LeavesBy c p n cut seen = Leaves c.powers p n.journal (cut_record c p n cut) seen

-- whether it has failed is as it was, and no failure of the device was counted
pub record Serves (old new : JournalSeen) : Type 0 where
  pub failed : new.failed ≡ old.failed
  pub failures : new.failures ≡ old.failures

-- The node halts where the device failed, and answers so, and nowhere else.
abbrev pub TellsJournal : Result (Unit {0}) Answer → JournalSeen → JournalSeen → Type 0
TellsJournal (Err answers.JournalFailed) old new = HasFailed old new
TellsJournal result old new = Serves old new

-- ---- what a call leaves

-- before each of this many firings the order names a rule
abbrev pub EachIsNamed : Setting → ℕ → ℕ → Node → Type 0
EachIsNamed c p times n = (k : ℕ) → k < times → is_some (enabled c.powers (firsts c p k n).state) ≡ true

-- rules fired, each time the first that the order names
pub record HasFired (n : Node) (times : ℕ) (old new : Core) : Type 0 where
  pub named : EachIsNamed (setting_of old) old.machine.me times n
  pub stands : Stands (firsts (setting_of old) old.machine.me times n) new
  pub outgoing : new.outgoing ≡ old.outgoing ++ map (frame_by old) (along (bodies_of (setting_of old) old.machine.me) (setting_of old) old.machine.me times n)
  pub scheduled : new.scheduled ≡ old.scheduled ++ along (timeouts_of (setting_of old) old.machine.me) (setting_of old) old.machine.me times n
  pub same : IsSame old new

-- one rule fired
pub record HasFiredOnce (n : Node) (k : Rule) (old new : Core) : Type 0 where
  pub stands : Stands (firing (setting_of old) old.machine.me n k).node new
  pub outgoing : new.outgoing ≡ old.outgoing ++ map (frame_by old) (bodies_of (setting_of old) old.machine.me n k)
  pub scheduled : new.scheduled ≡ old.scheduled ++ timeouts_of (setting_of old) old.machine.me n k
  pub same : IsSame old new

-- a message against which nothing stands was taken in
pub record IsReceived (n : Node) (m : Message) (old new : Core) : Type 0 where
  pub stands : Stands (received (setting_of old) old.machine.me n m m.body).node new
  pub outgoing : new.outgoing ≡ old.outgoing ++ map (frame_by old) (received (setting_of old) old.machine.me n m m.body).out
  pub scheduled : new.scheduled ≡ old.scheduled
  pub same : IsSame old new

-- A rule did not fire: nothing changed, or its record was not saved, and the journal failed.
abbrev pub IsUnfired : Answer → Core → Core → Type 0
IsUnfired answers.JournalFailed old new = new ≡ record old { journal = new.journal }
IsUnfired answer old new = (answer ≡ answers.OutOfMemory) × (new ≡ old)

-- a message was not taken in: nothing changed, but where its record was not saved
abbrev pub IsRefused : Answer → Core → Core → Type 0
IsRefused answers.JournalFailed old new = new ≡ record old { journal = new.journal }
IsRefused answer old new = new ≡ old

-- only the variables changed
pub record IsBeside (old new : Core) : Type 0 where
  pub same : IsSame old new
  pub queues : new.queues ≡ old.queues
  pub decisions : new.decisions ≡ old.decisions
  pub said : new.said ≡ old.said
  pub journal : new.journal ≡ old.journal
  pub outgoing : new.outgoing ≡ old.outgoing
  pub scheduled : new.scheduled ≡ old.scheduled
  pub fired : new.fired ≡ old.fired

-- what was handed in was taken in, or left the node as it was
pub record IsTaken (n : Node) (input : Input) (old new : Core) : Type 0 where
  pub stands : Stands (taken (setting_of old) old.machine.me n input) new
  pub outgoing : new.outgoing ≡ old.outgoing ++ map (frame_by old) (bodies_taken (setting_of old) old.machine.me n input)
  pub scheduled : new.scheduled ≡ old.scheduled ++ timeouts_taken (setting_of old) old.machine.me n input
  pub same : IsSame old new

-- A call did to the node what its input and this many firings do to it, for each of which the order named a rule. It counts them up to the greatest u64.
pub record IsCalled (n : Node) (input : Input) (times : ℕ) (old new : Core) : Type 0 where
  pub named : EachIsNamed (setting_of old) old.machine.me times (taken (setting_of old) old.machine.me n input)
  pub stands : Stands (after (setting_of old) old.machine.me n input times) new
  pub outgoing : new.outgoing ≡ old.outgoing ++ map (frame_by old) (bodies_after (setting_of old) old.machine.me n input times)
  pub scheduled : new.scheduled ≡ old.scheduled ++ timeouts_after (setting_of old) old.machine.me n input times
  pub same : IsSame old new
  pub fired : new.fired ≡ min times (2 ^ 64 - 1)

-- The input was not taken in: the node had halted, memory ran out, or its record was not saved.
abbrev pub IsNotTaken : Result (Unit {0}) Answer → Core → Core → Type 0
IsNotTaken (Err answers.Halted) old new = (old.journal.failed ≡ true) × IsUnchanged old new
IsNotTaken (Err answers.OutOfMemory) old new = IsUnchanged old new
IsNotTaken (Err answers.JournalFailed) old new = new ≡ record old { journal = new.journal; fired = 0 }
IsNotTaken result old new = ⊥

-- The device failed as the input was taken in, which was left undone; or as the next rule was to fire, after so many. What stands in the store, and whatever a stop may leave of it, has the records so far, and at most the one that was being saved.
abbrev pub IsBroken : Node → Input → Core → Core → Type 0
IsBroken n input old new =
    ((new ≡ record old { journal = new.journal; fired = 0 }) × LeavesBy (setting_of old) old.machine.me n (input_cut input) new.journal)
    ⊎ ((times : ℕ) × IsCalled n input times old new × LeavesBy (setting_of old) old.machine.me (after (setting_of old) old.machine.me n input times) (next_cut (setting_of old) (after (setting_of old) old.machine.me n input times)) new.journal)

-- The call did so; or it did not take its input in, and is told so.
abbrev pub IsDone : Node → Input → Result (Unit {0}) Answer → Core → Core → Type 0
IsDone n input result old new = ((times : ℕ) × IsCalled n input times old new) ⊎ IsNotTaken result old new

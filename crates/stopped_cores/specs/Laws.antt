-- What the cores of several validators tell, over stores of any kind, wherever stops come.
use Rattle.std.specs.Prelude.{◌≡◌, ℕ, false, Option, List, [], ◌∷◌, ◌++◌}
use Rattle.protocol.specs.Tags.{Setting}
use Rattle.protocol.specs.Messages.{Record}
use Rattle.protocol.specs.Restart.{opened as opened_node}
use Rattle.protocol.specs.World.{Cut}
use Rattle.protocol.specs.Premises.{Honesty, IsCorrect}
use Rattle.vote_journal.specs.declared.fault.JournalFault.{JournalFault}
use Rattle.vote_journal.specs.declared.fault.JournalFault.TheVariants.{BadRecord}
use Rattle.vote_journal.specs.History.{Opened, NotOpened, Left, Does}
use Rattle.node_core.specs.Core.{Core, Stands}
use Rattle.world_schedule.specs.Calls.{Call, node_after}
use Rattle.world_schedule.specs.Runs.{IsFair}
use Rattle.world_schedule.specs.Cores.{IsOwn, KeepsItsNode}
use Rattle.world_schedule.specs.Headline.{IsElsewhere, TellOneList}
use Rattle.world_schedule.specs.Health.{Health, Serving, doubt}
use Rattle.world_schedule.specs.Making.{Request, IsMetBy}
use Rattle.stopped_cores.specs.Over.{IsOver, IsBack, IsClosed, IsLeftAfter, IsOpened}

-- A validator's core goes on from its first opening over each call, its own or another's.
pub record GoesOn (c : Setting) (p : ℕ) : Type 0 where
  pub first : (core : Core) → IsOwn c p core → Stands (opened_node p []) core → core.journal.failed ≡ false → IsOver c p [] Serving core
  pub called : (calls : List Call) (health : Health) (request : Request) (numbers : ℕ × ℕ) (before : List (List ℕ)) (core : Core) → (m : IsMetBy c p (node_after c p calls) health request numbers before core) → IsOver c p (calls ++ m.call ∷ []) m.new core
  pub elsewhere : (calls : List Call) (health : Health) (call : Call) (core : Core) → IsElsewhere p call → IsOver c p calls health core → IsOver c p (calls ++ call ∷ []) health core
  pub beside : (calls : List Call) (health : Health) (old new : Core) → KeepsItsNode old new → IsOver c p calls health old → IsOver c p calls health new

-- And so does its store where the core ends, at a close or a stop, until a core is opened over it: no opening finds other records than the validator saved, and at most the one that it was saving, and none
-- calls what is left no journal.
pub record ComesBack {S : Type 0} (seen : S → List ℕ) (may_leave : S → List ℕ → Type 0) (c : Setting) (p : ℕ) (calls : List Call) : Type 0 where
  pub ended : (health : Health) (core : Core) (store : S) → IsOver c p calls health core → IsClosed seen may_leave core store → IsLeftAfter seen may_leave c p calls (doubt health) store
  pub elsewhere : (cut : Option Cut) (call : Call) (store : S) → IsElsewhere p call → IsLeftAfter seen may_leave c p calls cut store → IsLeftAfter seen may_leave c p (calls ++ call ∷ []) cut store
  pub stopped : (cut : Option Cut) (old new : S) → IsLeftAfter seen may_leave c p calls cut old → Does seen may_leave c.powers p Left old new → IsLeftAfter seen may_leave c p calls cut new
  pub refused : (cut : Option Cut) (fault : JournalFault) (old new : S) → IsLeftAfter seen may_leave c p calls cut old → Does seen may_leave c.powers p (NotOpened fault) old new → IsLeftAfter seen may_leave c p calls cut new
  pub never_bad : (cut : Option Cut) (old new : S) → IsLeftAfter seen may_leave c p calls cut old → Does seen may_leave c.powers p (NotOpened BadRecord) old new → ⊥
  pub opened : (cut : Option Cut) (records : List Record) (old new : S) → IsLeftAfter seen may_leave c p calls cut old → Does seen may_leave c.powers p (Opened records) old new → IsLeftAfter seen may_leave c p calls cut new
  pub back : (cut : Option Cut) (old new : S) (core : Core) → IsLeftAfter seen may_leave c p calls cut old → IsOpened seen may_leave c p old new core → IsBack c p calls cut core

abbrev pub GoesOnLaw : Type 0
GoesOnLaw = (c : Setting) (p : ℕ) → GoesOn c p

abbrev pub ComesBackLaw : {S : Type 0} → (S → List ℕ) → (S → List ℕ → Type 0) → Type 0
ComesBackLaw seen may_leave = (c : Setting) (p : ℕ) (calls : List Call) → ComesBack seen may_leave c p calls

-- So of what the cores of two correct validators tell at two moments one begins the other, whatever stopped them between.
abbrev pub StoppedCoresLaw : Type 0
StoppedCoresLaw = (c : Setting) (h : Honesty) (early late : List Call) → IsFair c h (early ++ late) → (p q : ℕ) → IsCorrect c h p → IsCorrect c h q
    → (here there : Health) (one other : Core) → IsOver c p early here one → IsOver c q (early ++ late) there other → TellOneList h (early ++ late) one other

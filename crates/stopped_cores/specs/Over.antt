-- Cores over stores of any kind, which stops and failures cut off, and which are opened again.
use Rattle.std.specs.Prelude.{◌≡◌, ◌≢◌, ◌⊎◌, ℕ, false, Option, None, List, [], ◌∷◌, ◌++◌, reverse}
use Rattle.authenticators.specs.Ring.{Ring}
use Rattle.protocol.specs.Tags.{Setting}
use Rattle.protocol.specs.Messages.{Record}
use Rattle.protocol.specs.Rings.{IsRingOf}
use Rattle.protocol.specs.Restart.{opened}
use Rattle.protocol.specs.World.{Cut}
use Rattle.vote_journal.specs.Store.{Only}
use Rattle.vote_journal.specs.History.{Opened, Left, Does, WasRead}
use Rattle.vote_journal.specs.declared.fault.JournalFault.{JournalFault}
use Rattle.vote_journal.specs.declared.fault.JournalFault.TheVariants.{BadRecord}
use Rattle.node_core.specs.Core.{Core, MayLeave, Stands}
use Rattle.node_core.specs.Calls.{IsLeftBy}
use Rattle.world_schedule.specs.Calls.{Call, Reopened, node_after}
use Rattle.world_schedule.specs.Cores.{IsOwn}
use Rattle.world_schedule.specs.Headline.{IsAfter}
use Rattle.world_schedule.specs.Health.{Health, Serving, HasHealth}

-- The core is validator p's after these calls, and its journal is in this health: it serves, or it failed as something was being saved.
pub record IsOver (c : Setting) (p : ℕ) (calls : List Call) (health : Health) (core : Core) : Type 0 where
  pub is_after : IsAfter c p calls core
  pub has : HasHealth c p (node_after c p calls) health core.journal

-- these are validator p's powers, number and keys
pub record IsSeat (c : Setting) (p : ℕ) (powers : List ℕ) (me : ℕ) (ring : Ring) : Type 0 where
  pub powers_are : powers ≡ c.powers
  pub me_is : me ≡ p
  pub ring_is : IsRingOf c p ring

-- The core is over the validator's journal as an opening found it after these calls, and at most with the record of what was being saved.
abbrev pub IsBack : Setting → ℕ → List Call → Option Cut → Core → Type 0
IsBack c p calls cut core = (found : Option Cut) × ((found ≡ None) ⊎ (found ≡ cut)) × IsOver c p (calls ++ Reopened p found ∷ []) Serving core

module _ {S : Type 0} (seen : S → List ℕ) (may_leave : S → List ℕ → Type 0) where
  -- The core ended, and this is its store: what closing it tells. A stop between two calls leaves what closing would.
  pub record IsClosed (core : Core) (store : S) : Type 0 where
    pub bytes : seen store ≡ core.journal.bytes
    pub synced : core.journal.failed ≡ false → Only (seen store) (may_leave store)
    pub left : (c : List ℕ) → may_leave store c → MayLeave core.journal c

  -- Whatever a stop may leave of the store is validator p's journal after these calls, or that with the record of what was being saved.
  abbrev pub IsLeftAfter : Setting → ℕ → List Call → Option Cut → S → Type 0
  IsLeftAfter c p calls cut store = (bytes : List ℕ) → may_leave store bytes → IsLeftBy c p (node_after c p calls) cut bytes

  -- A core of the validator's was opened over the store: what opening a journal, and a node over it, tell.
  pub record IsOpened (c : Setting) (p : ℕ) (old new : S) (core : Core) : Type 0 where
    pub records : List Record
    pub does : Does seen may_leave c.powers p (Opened records) old new
    pub own : IsOwn c p core
    pub stands : Stands (opened p (reverse records)) core
    pub serves : core.journal.failed ≡ false

  -- The store was read, and if that is what a core of the validator's left, so this core is one of the validator's.
  pub record IsBackAsRead (powers : List ℕ) (me : ℕ) (ring : Ring) (old : S) (core : Core) : Type 0 where
    pub read : S
    pub was : WasRead seen may_leave powers me old read
    pub back : (c : Setting) (p : ℕ) → IsSeat c p powers me ring → (calls : List Call) (cut : Option Cut) → IsLeftAfter c p calls cut read → IsBack c p calls cut core

  -- The store was read, and if that is what a core of the validator's left, so is the store that was handed back, and nothing called it no journal.
  pub record IsLeftAsRead (powers : List ℕ) (me : ℕ) (ring : Ring) (fault : JournalFault) (old new : S) : Type 0 where
    pub read : S
    pub was : WasRead seen may_leave powers me old read
    pub left : (c : Setting) (p : ℕ) → IsSeat c p powers me ring → (calls : List Call) (cut : Option Cut) → IsLeftAfter c p calls cut read → IsLeftAfter c p calls cut new × (fault ≢ BadRecord)

  -- No core was opened: before all was read, and a stop leaves nothing more; or behind that.
  abbrev pub IsRefusedAsRead : List ℕ → ℕ → Ring → JournalFault → S → S → Type 0
  IsRefusedAsRead powers me ring fault old new = ((fault ≢ BadRecord) × Does seen may_leave powers me Left old new) ⊎ IsLeftAsRead powers me ring fault old new

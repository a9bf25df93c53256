-- Shared nodes as parts of one run.
use Rattle.std.specs.Prelude.{◌≡◌, ◌≢◌, ℕ, cond, ◌==◌, List, [], ◌∷◌, ◌++◌}
use Rattle.protocol.specs.Tags.{Setting}
use Rattle.protocol.specs.History.{Input}
use Rattle.protocol.specs.Premises.{Honesty, IsCorrect}
use Rattle.protocol.specs.Laws.{Comparable}
use Rattle.subscriber_ring.specs.declared.delivered.Delivered.{Delivered}
use Rattle.subscriber_ring.specs.Order.{items_of}
use Rattle.locked_node.specs.History.{AreOf}
use Rattle.locked_node.specs.Locked.{Locked, IsLocked}
use Rattle.locked_node.specs.Subscribers.{WasTaken}
use Rattle.world_schedule.specs.Calls.{Call, Sent, Began, Handed, Asked, Resent, Reopened}
use Rattle.world_schedule.specs.Runs.{IsFair}
use Rattle.world_schedule.specs.Headline.{IsAfter, TellOneList}

-- ---- a node's part of the calls

-- what a call hands to validator p, with the number of firings
abbrev pub handed_by : ℕ → Call → List (Input × ℕ)
handed_by p (Handed q input times) = cond (p == q) ((input, times) ∷ []) []
handed_by p (Sent client op) = []
handed_by p (Began client) = []
handed_by p (Asked q) = []
handed_by p (Resent q) = []
handed_by p (Reopened q cut) = []

-- what all of them hand to it, the newest first
abbrev pub handed_in : ℕ → List Call → List (Input × ℕ)
handed_in p [] = []
handed_in p (call ∷ later) = handed_in p later ++ handed_by p call

abbrev pub IsNoOpening : ℕ → Call → Type 0
IsNoOpening p (Reopened q cut) = p ≢ q
IsNoOpening p _ = Unit {0}

-- none of these calls opens it again
abbrev pub StaysOpen : ℕ → List Call → Type 0
StaysOpen p [] = Unit {0}
StaysOpen p (call ∷ later) = IsNoOpening p call × StaysOpen p later

-- The shared node was opened after the calls before, and took in just these inputs since. After any further calls that hand just these to its validator, whatever they are to others, it is the validator's.
pub record Lives (c : Setting) (p : ℕ) (before : List Call) (l : Locked) (inputs : List (Input × ℕ)) : Type 0 where
  pub told : AreOf inputs l.calls
  pub is_after : (since : List Call) → StaysOpen p since → handed_in p since ≡ inputs → IsAfter c p (before ++ since) l.core

abbrev pub LivesLaw : Type 0
LivesLaw = (c : Setting) (p : ℕ) (before : List Call) (l : Locked) → IsLocked l → IsAfter c p before l.base → (inputs : List (Input × ℕ)) × Lives c p before l inputs

-- ---- the headline

-- what the nodes delivered is one list, and what their subscribers took begins it
pub record DeliverOneList (h : Honesty) (calls : List Call) (one other : Locked) : Type 0 where
  pub cores : TellOneList h calls one.core other.core
  pub taken : (here there : List Delivered) → WasTaken one here → WasTaken other there → Comparable (items_of here) (items_of there)

abbrev pub SharedLaw : Type 0
SharedLaw = (c : Setting) (h : Honesty) (early late : List Call) → IsFair c h (early ++ late) → (p q : ℕ) → IsCorrect c h p → IsCorrect c h q
    → (one other : Locked) → IsLocked one → IsLocked other → IsAfter c p early one.core → IsAfter c q (early ++ late) other.core → DeliverOneList h (early ++ late) one other

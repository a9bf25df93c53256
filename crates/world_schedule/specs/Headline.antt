-- What the cores of a world tell, over any calls of them.
use Rattle.std.specs.Prelude.{◌≡◌, ◌≢◌, ℕ, true, List, [], ◌∷◌, ◌++◌, Option, None}
use Rattle.protocol.specs.Values.{Item, of, fresh, in_turn}
use Rattle.protocol.specs.Tags.{Setting}
use Rattle.protocol.specs.Messages.{Record}
use Rattle.protocol.specs.State.{Node}
use Rattle.protocol.specs.Order.{enabled}
use Rattle.protocol.specs.Restart.{opened}
use Rattle.protocol.specs.World.{Cut, cut_record}
use Rattle.protocol.specs.History.{Input, firsts}
use Rattle.protocol.specs.Premises.{Honesty, IsCorrect, Begins}
use Rattle.protocol.specs.Laws.{Comparable}
use Rattle.node_core.specs.Core.{Core, Stands, delivered_in}
use Rattle.node_core.specs.Calls.{EachIsNamed, IsCalled}
use Rattle.world_schedule.specs.Calls.{Call, Sent, Began, Handed, Asked, Resent, Reopened, node_after, sent}
use Rattle.world_schedule.specs.Runs.{IsFair}
use Rattle.world_schedule.specs.Cores.{IsOwn, StandsIn, KeepsItsNode}

-- The core is validator p's after these calls.
abbrev pub IsAfter : Setting → ℕ → List Call → Core → Type 0
IsAfter c p calls core = StandsIn c p (node_after c p calls) core

-- what doesn't move validator p's node
abbrev pub IsElsewhere : ℕ → Call → Type 0
IsElsewhere p (Handed q input times) = p ≢ q
IsElsewhere p (Reopened q cut) = p ≢ q
IsElsewhere p (Sent client op) = Unit {0}
IsElsewhere p (Began client) = Unit {0}
IsElsewhere p (Asked q) = Unit {0}
IsElsewhere p (Resent q) = Unit {0}

-- the journal that its validator opens after these calls, where a stop cut this
abbrev pub found_after : Setting → ℕ → List Call → Option Cut → List Record
found_after c p calls cut = cut_record c p (node_after c p calls) cut ++ (node_after c p calls).journal

-- From its opening on, also over its journal, a core is its validator's after the calls so far, and after each further one, its own or another's.
pub record GoesOn (c : Setting) (p : ℕ) : Type 0 where
  pub first : (core : Core) → IsOwn c p core → Stands (opened p []) core → IsAfter c p [] core
  pub reopened : (calls : List Call) (cut : Option Cut) (core : Core) → IsOwn c p core → Stands (opened p (found_after c p calls cut)) core → IsAfter c p (calls ++ Reopened p cut ∷ []) core
  pub called : (calls : List Call) (input : Input) (times : ℕ) (old new : Core) → IsAfter c p calls old → IsCalled (node_after c p calls) input times old new → IsAfter c p (calls ++ Handed p input times ∷ []) new
  pub elsewhere : (calls : List Call) (call : Call) (core : Core) → IsElsewhere p call → IsAfter c p calls core → IsAfter c p (calls ++ call ∷ []) core
  pub beside : (calls : List Call) (old new : Core) → KeepsItsNode old new → IsAfter c p calls old → IsAfter c p calls new

abbrev pub StepLaw : Type 0
StepLaw = (c : Setting) (p : ℕ) → GoesOn c p

-- Where no rule is enabled in the end, the number of firings is the only one: the run is a function of what was handed in.
abbrev pub CountLaw : Type 0
CountLaw = (c : Setting) (p : ℕ) (n : Node) (times others : ℕ) → EachIsNamed c p times n → enabled c.powers (firsts c p times n).state ≡ None → EachIsNamed c p others n → enabled c.powers (firsts c p others n).state ≡ None → times ≡ others

-- ---- the headline

-- what a core tells that it delivered: of its delivered list, and of its decisions
abbrev pub delivered_at : Core → List Item
delivered_at core = core.machine.state.delivered

-- Of what two correct validators' cores tell at two moments, one begins the other; each keeps every client's order, and a correct client's items in it begin what the client sent.
pub record TellOneList (h : Honesty) (calls : List Call) (one other : Core) : Type 0 where
  pub begins : Comparable (delivered_at one) (delivered_at other)
  pub decided : Comparable (delivered_in one.decisions) (delivered_in other.decisions)
  pub in_order : (client : ℕ) → in_turn fresh (of client (delivered_at other)) ≡ true
  pub begins_sent : (client : ℕ) → h.clients client ≡ true → Begins (of client (delivered_at other)) (sent client calls)

abbrev pub HeadlineLaw : Type 0
HeadlineLaw = (c : Setting) (h : Honesty) (early late : List Call) → IsFair c h (early ++ late) → (p q : ℕ) → IsCorrect c h p → IsCorrect c h q
    → (one other : Core) → IsAfter c p early one → IsAfter c q (early ++ late) other → TellOneList h (early ++ late) one other

-- What one validator's core told earlier begins what it tells later, whatever happens.
abbrev pub GrowingLaw : Type 0
GrowingLaw = (c : Setting) (early late : List Call) (p : ℕ) (one other : Core) → IsAfter c p early one → IsAfter c p (early ++ late) other
    → Begins (delivered_at one) (delivered_at other) × Begins (delivered_in one.decisions) (delivered_in other.decisions)

-- Cores that have a world's powers and their validator's keys of it, and what their calls ensure there.
use Rattle.std.specs.Prelude.{◌≡◌, ◌≢◌, ◌⊎◌, ◌↔◌, ℕ, ◌-◌, ◌^◌, List, [], ◌∷◌, ◌++◌, map, min, true, None}
use Rattle.messages.specs.Framing.{frame_spelling}
use Rattle.protocol.specs.Tags.{Setting}
use Rattle.protocol.specs.Messages.{◌∈◌, Body, OfAsk, Record, Own, Decided, tagged}
use Rattle.protocol.specs.State.{Node}
use Rattle.protocol.specs.Rings.{IsRingOf}
use Rattle.protocol.specs.Order.{enabled}
use Rattle.protocol.specs.Restart.{opened, own_since}
use Rattle.protocol.specs.World.{World, run}
use Rattle.protocol.specs.History.{Input, taken, after}
use Rattle.protocol.specs.Effects.{bodies_after, timeouts_after}
use Rattle.protocol.specs.Laws.{call_events}
use Rattle.node_core.specs.Core.{Core, Stands, setting_of, frame_by}
use Rattle.node_core.specs.Calls.{EachIsNamed, IsCalled, IsUnchanged}
use Rattle.world_schedule.specs.Seeing.{AreAlike}

-- the core has the world's powers, and validator p's keys of it
pub record IsOwn (c : Setting) (p : ℕ) (core : Core) : Type 0 where
  pub powers : core.machine.powers ≡ c.powers
  pub me : core.machine.me ≡ p
  pub ring : IsRingOf c p core.ring

-- the decisions of a journal are under the own number
abbrev pub AreOwn : ℕ → List Record → Type 0
AreOwn p [] = Unit {0}
AreOwn p (Decided b ∷ rest) = (b.sender ≡ p) × AreOwn p rest
AreOwn p (Own height round act ∷ rest) = AreOwn p rest

-- The core is validator p's, and stands for this node of the world.
pub record StandsIn (c : Setting) (p : ℕ) (n : Node) (core : Core) : Type 0 where
  pub own : IsOwn c p core
  pub stands : Stands n core
  pub decided : AreOwn p n.journal

-- a body's frame, with the world's tags
abbrev pub frame_in : Setting → Body → List ℕ
frame_in c body = frame_spelling (tagged c body)

-- ---- the own setting

-- What a validator's own keys tell is alike to it to the world that they are of.
abbrev pub OwnLaw : Type 0
OwnLaw = (c : Setting) (p : ℕ) (core : Core) → IsOwn c p core → AreAlike p (setting_of core) c

-- ---- calls

-- A call did to the node in the world what its input and this many firings do to it, for each of which the order named a rule; its frames have the world's tags.
pub record IsCalledIn (c : Setting) (p : ℕ) (n : Node) (input : Input) (times : ℕ) (old new : Core) : Type 0 where
  pub named : EachIsNamed c p times (taken c p n input)
  pub stands : StandsIn c p (after c p n input times) new
  pub outgoing : new.outgoing ≡ old.outgoing ++ map (frame_in c) (bodies_after c p n input times)
  pub scheduled : new.scheduled ≡ old.scheduled ++ timeouts_after c p n input times
  pub fired : new.fired ≡ min times (2 ^ 64 - 1)

-- What a call ensures in the setting that the own keys tell of holds in the world.
abbrev pub CoreLaw : Type 0
CoreLaw = (c : Setting) (p : ℕ) (n : Node) (old : Core) → StandsIn c p n old → (input : Input) (times : ℕ) (new : Core) → IsCalled n input times old new → IsCalledIn c p n input times old new

-- nothing that a node is changed: only what waits to be taken, and the count of firings
pub record KeepsItsNode (old new : Core) : Type 0 where
  pub machine : new.machine ≡ old.machine
  pub ring : new.ring ≡ old.ring
  pub queues : new.queues ≡ old.queues
  pub decisions : new.decisions ≡ old.decisions
  pub said : new.said ≡ old.said
  pub journal : new.journal ≡ old.journal

-- A core stands for its node from its opening on, and while nothing of it changes; its ask and its own messages, sent again, have the world's tags; and where it is quiet, its node is.
pub record KeepsStanding (c : Setting) (p : ℕ) : Type 0 where
  pub first : (core : Core) → IsOwn c p core → Stands (opened p []) core → StandsIn c p (opened p []) core
  pub beside : (n : Node) (old new : Core) → StandsIn c p n old → KeepsItsNode old new → StandsIn c p n new
  pub unchanged : (n : Node) (old new : Core) → StandsIn c p n old → IsUnchanged old new → StandsIn c p n new
  pub broken : (n : Node) (old new : Core) → StandsIn c p n old → new ≡ record old { journal = new.journal; fired = 0 } → new.journal.failed ≡ true → StandsIn c p n new
  pub asked : (n : Node) (core : Core) → StandsIn c p n core → frame_by core (OfAsk (record { height = core.machine.state.height; sender = core.machine.me })) ≡ frame_in c (OfAsk (record { height = n.state.height; sender = p }))
  pub resent : (n : Node) (core : Core) → StandsIn c p n core → map (frame_by core) (own_since core.machine.me n.journal) ≡ map (frame_in c) (own_since p n.journal)
  pub quiet : (n : Node) (core : Core) → StandsIn c p n core → enabled core.machine.powers core.machine.state ≡ None → enabled c.powers n.state ≡ None

abbrev pub KeptLaw : Type 0
KeptLaw = (c : Setting) (p : ℕ) → KeepsStanding c p

-- ---- events

-- The call is these events of the world: they leave the node that the core then stands for and the others as they were, its bodies can be delivered from then on, and nothing else that could not before.
pub record IsInWorld (c : Setting) (w : World) (p : ℕ) (input : Input) (times : ℕ) (new : Core) : Type 0 where
  pub node : (run c w (call_events c p (w.nodes p) input times)).nodes p ≡ after c p (w.nodes p) input times
  pub others : (q : ℕ) → q ≢ p → (run c w (call_events c p (w.nodes p) input times)).nodes q ≡ w.nodes q
  pub sent : (run c w (call_events c p (w.nodes p) input times)).sent ≡ w.sent
  pub stands : StandsIn c p ((run c w (call_events c p (w.nodes p) input times)).nodes p) new
  pub released : (b : Body) → (b ∈ (run c w (call_events c p (w.nodes p) input times)).released) ↔ ((b ∈ bodies_after c p (w.nodes p) input times) ⊎ (b ∈ w.released))

abbrev pub CalledLaw : Type 0
CalledLaw = (c : Setting) (w : World) (p : ℕ) (input : Input) (times : ℕ) (old new : Core) → StandsIn c p (w.nodes p) old → IsCalled (w.nodes p) input times old new → IsInWorld c w p input times new

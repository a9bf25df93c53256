-- A world of code, and the run that its report tells of.
use Rattle.std.specs.Prelude.{◌≡◌, ◌≢◌, ◌⊎◌, ℕ, suc, ◌<◌, ◌≤◌, Bool, true, false, ◌||◌, ◌&&◌, Option, Some, None, List, [], ◌∷◌, ◌++◌, map, flat_map, take, length, nat_lt, ◌==◌}
use Rattle.std.specs.List.{list_any, slice_get}
use Rattle.protocol.specs.Values.{items}
use Rattle.protocol.specs.Tags.{Setting}
use Rattle.protocol.specs.Messages.{below}
use Rattle.protocol.specs.declared.standing.Standing.{Standing as Reached}
use Rattle.protocol.specs.History.{Settle}
use Rattle.round_states.specs.Machine.{Machine}
use Rattle.world_parties.specs.Cast.{Cast, setting_of, is_correct, correct, LiesIn}
use Rattle.world_parties.specs.declared.fault.FaultNumber.{FaultNumber}
use Rattle.world_parties.specs.declared.fault.FaultNumber.TheVariants.{NoSuchParty, OutOfMemory}
use Rattle.world_schedule.specs.Reports.{Made, calls_of, stands_in, told, end_of}
use Rattle.world_schedule.specs.Making.{Request, Hands, Scene, beginning, scene_after, IsTurn, AreTurns}
use Rattle.world_schedule.specs.Serving.{AreServed}
use Rattle.world_schedule.specs.Standings.{Holds}
use Rattle.world_schedule.specs.Validators.{AreUp, places}
use Rattle.world_schedule.specs.Events.{Course, asked_of, Happens, HaveHappened, course_after, CanHappen, CannotHappen}
use Rattle.world_schedule.specs.declared.validator.Validator.{Validator}
use Rattle.world_schedule.specs.declared.restarting.Stopped.{Stopped}
use Rattle.world_schedule.specs.declared.seat.Seat.{Seat}
use Rattle.world_schedule.specs.declared.seat.Seat.TheVariants as seats
use Rattle.world_schedule.specs.declared.chronicle.Chronicle.{Chronicle}
use Rattle.world_schedule.specs.declared.brought.Brought.{Brought}
use Rattle.world_schedule.specs.declared.event.Event.{Event}
use Rattle.world_schedule.specs.declared.fault.RunFault.{RunFault}
use Rattle.world_schedule.specs.declared.report.Report.{Report}
use Rattle.world_schedule.specs.declared.report.End.{End}
use Rattle.world_schedule.specs.declared.report.Told.{Told}
use Rattle.world_schedule.specs.declared.stage.Stage.{Stage}
use Rattle.world_schedule.specs.declared.world.World.{World}

-- ---- several turns

-- These calls lead on: the validators stand for their nodes after them, and they are told as the report has them.
pub record LeadOn (c : Setting) (s : Scene) (made : List Made) (old new : List Seat) (before after : Chronicle) : Type 0 where
  pub up : AreUp c (scene_after c s made) new
  pub places_are : places new ≡ places old
  pub holds : Holds c (scene_after c s made).standing.numbered after.messages
  pub told : after.told.items ≡ before.told.items ++ told c s.standing made
  pub event : after.event ≡ before.event

-- each validator had its turn
pub record HaveMet (c : Setting) (s : Scene) (turns : List (ℕ × Request)) (old new : List Seat) (before after : Chronicle) : Type 0 where
  pub made : List Made
  pub turn : AreTurns c s before.event turns made
  pub leads : LeadOn c s made old new before after

-- ---- a stage

-- a message was brought to a validator
abbrev pub has_come : Brought → ℕ → ℕ → Bool
has_come b number p = nat_lt number b.passed || list_any (λ (k : ℕ × ℕ). (number == k.0) && (p == k.1)) b.early.keys

abbrev pub HaveSent : ℕ → (ℕ → Reached) → List Reached → Type 0
HaveSent clients reached each = (length each ≡ clients) × ((client : ℕ) → client < clients → slice_get each client ≡ Some (reached client))

-- The stage stands so: each correct validator for its node, each message under its number, and what was brought where.
pub record IsAt (cast : Cast) (w : Course) (stage : Stage) : Type 0 where
  pub parties : stage.parties ≡ cast
  pub correct_are : stage.correct.items ≡ correct cast
  pub up : AreUp (setting_of cast) w.scene stage.validators.each.items
  pub places_are : places stage.validators.each.items ≡ map (is_correct cast) (below (length cast.powers))
  pub holds : Holds (setting_of cast) w.scene.standing.numbered stage.chronicle.messages
  pub sent : HaveSent cast.clients (stands_in w.scene.standing) stage.clients.each.items
  pub brought : (number p : ℕ) → has_come stage.brought number p ≡ w.brought number p

-- and nothing is to be told of an event
abbrev pub Rests : Cast → Course → Stage → Type 0
Rests cast w stage = IsAt cast w stage × (stage.chronicle.told.items ≡ [])

-- how validators stand after these calls
abbrev pub scene_of : Cast → List Made → Scene
scene_of cast ms = scene_after (setting_of cast) beginning ms

-- The world is not spent, and stands as these calls left it, and which messages were brought where.
abbrev pub IsWorld : Cast → List Made → (ℕ → ℕ → Bool) → World → Type 0
IsWorld cast ms brought world = Rests cast (record { scene = scene_of cast ms; brought = brought }) world.stage × (world.spent ≡ false)

-- the variables of a validator that has a node, and what it keeps of its height
abbrev pub machine_of : Seat → Option Machine
machine_of (seats.Up v) = Some v.core.machine
machine_of seats.Liar = None
machine_of (seats.Closed stopped) = None

abbrev pub machine_in : Option Seat → Option Machine
machine_in (Some seat) = machine_of seat
machine_in None = None

abbrev pub machine_at : ℕ → List Seat → Option Machine
machine_at p validators = machine_in (slice_get validators p)

-- how a validator ends
abbrev pub end_in : Validator → End
end_in v = record { validator = v.number; height = v.core.machine.state.height; round = v.core.machine.state.round; delivered = v.core.machine.state.delivered }

-- or ended, before it was not opened
abbrev pub end_of_stopped : Stopped → End
end_of_stopped v = record { validator = v.number; height = v.height; round = v.round; delivered = flat_map items v.delivered.items }

abbrev pub ends_in : Seat → List End
ends_in seats.Liar = []
ends_in (seats.Up v) = end_in v ∷ []
ends_in (seats.Closed v) = end_of_stopped v ∷ []

-- ---- the opening

-- Each correct validator was settled, and serves, and nothing was brought: this is told.
pub record HaveSettled (cast : Cast) (stage : Stage) : Type 0 where
  pub made : List Made
  pub settled : AreTurns (setting_of cast) beginning 0 (map (asked_of (Hands Settle)) (correct cast)) made
  pub at : IsAt cast (record { scene = scene_of cast made; brought = λ number p. false }) stage
  pub told_is : stage.chronicle.told.items ≡ told (setting_of cast) beginning.standing made
  pub served : AreServed stage.chronicle.told.items

-- the first run is to tell of it
pub record HasBegun (cast : Cast) (world : World) : Type 0 where
  pub made : List Made
  pub settled : AreTurns (setting_of cast) beginning 0 (map (asked_of (Hands Settle)) (correct cast)) made
  pub is_world : IsWorld cast made (λ number p. false) world
  pub told_is : world.told.items ≡ told (setting_of cast) beginning.standing made
  pub served : AreServed world.told.items

-- There are no such parties; or there are, and memory was refused.
abbrev pub IsUnopened : Bool → FaultNumber → Type 0
IsUnopened parties fault = ((fault ≡ NoSuchParty) × (parties ≡ false)) ⊎ ((fault ≡ OutOfMemory) × (parties ≡ true))

-- with these powers, so many clients, and these liars
pub record HasOpened (powers : List ℕ) (clients : ℕ) (liars : List ℕ) (world : World) : Type 0 where
  pub cast : Cast
  pub powers_are : cast.powers ≡ powers
  pub clients_are : cast.clients ≡ clients
  pub lies : LiesIn cast liars
  pub begun : HasBegun cast world

-- ---- a run

-- A validator had its turn, and all else is as it was.
pub record IsMet (cast : Cast) (w : Course) (p : ℕ) (request : Request) (old new : Stage) : Type 0 where
  pub made : List Made
  pub turn : IsTurn (setting_of cast) w.scene old.chronicle.event p request made
  pub at : IsAt cast (record { scene = scene_after (setting_of cast) w.scene made; brought = w.brought }) new
  pub told_is : new.chronicle.told.items ≡ old.chronicle.told.items ++ told (setting_of cast) w.scene.standing made

-- An event was done: its calls are told as the present event's.
pub record HasActed (cast : Cast) (w : Course) (event : Event) (old new : Stage) : Type 0 where
  pub made : List Made
  pub happens : Happens cast w old.chronicle.event event made
  pub possible : CanHappen cast w.scene.standing event
  pub at : IsAt cast (course_after cast w event made) new
  pub told_is : new.chronicle.told.items ≡ old.chronicle.told.items ++ told (setting_of cast) w.scene.standing made

-- Event k happened: its calls are told after what was told before.
pub record HasHappened (cast : Cast) (w : Course) (k : ℕ) (event : Event) (old new : World) : Type 0 where
  pub made : List Made
  pub happens : Happens cast w k event made
  pub possible : CanHappen cast w.scene.standing event
  pub at : Rests cast (course_after cast w event made) new.stage
  pub told_is : new.told.items ≡ old.told.items ++ told (setting_of cast) w.scene.standing made

-- events in turn, of which the first is the one after event k
pub record HaveAll (cast : Cast) (w : Course) (k : ℕ) (events : List Event) (old new : World) : Type 0 where
  pub made : List Made
  pub last : Course
  pub happened : HaveHappened cast w k events made last
  pub leads : last.scene ≡ scene_after (setting_of cast) w.scene made
  pub at : Rests cast last new.stage
  pub told_is : new.told.items ≡ old.told.items ++ told (setting_of cast) w.scene.standing made

-- Memory was refused in the midst of an event, and the world is spent.
pub record IsSpent (fault : FaultNumber) (world : World) : Type 0 where
  pub starved : fault ≡ OutOfMemory
  pub spent : world.spent ≡ true

-- Some of the events happened, and the one after them can't, for its first cause.
pub record HaveSome (cast : Cast) (w : Course) (events : List Event) (fault : FaultNumber) (old new : World) : Type 0 where
  pub before : ℕ
  pub event_is : new.event ≡ suc before
  pub few : before < length events
  pub made : List Made
  pub last : Course
  pub happened : HaveHappened cast w 0 (take before events) made last
  pub leads : last.scene ≡ scene_after (setting_of cast) w.scene made
  pub told_is : new.told.items ≡ old.told.items ++ told (setting_of cast) w.scene.standing made
  pub rests : (Rests cast last new.stage × (new.spent ≡ false)) ⊎ IsSpent fault new
  pub event : Event
  pub event_at : slice_get events before ≡ Some event
  pub cause : CannotHappen fault cast last.scene.standing event

-- After this was told, the report tells of the calls that the events are, and how the validators then end.
pub record Tells (cast : Cast) (ms : List Made) (brought : ℕ → ℕ → Bool) (events : List Event) (before : List Told) (report : Report) : Type 0 where
  pub more : List Made
  pub last : ℕ → ℕ → Bool
  pub happened : HaveHappened cast (record { scene = scene_of cast ms; brought = brought }) 0 events more (record { scene = scene_of cast (ms ++ more); brought = last })
  pub told_is : report.told ≡ before ++ told (setting_of cast) (scene_of cast ms).standing more
  pub ends_are : report.ends ≡ map (end_of (setting_of cast) (calls_of (ms ++ more))) (correct cast)

-- It tells so behind what was told before, and the world stands as those calls left it, with nothing left to tell.
pub record IsReport (cast : Cast) (ms : List Made) (brought : ℕ → ℕ → Bool) (events : List Event) (old new : World) (report : Report) : Type 0 where
  pub tells : Tells cast ms brought events old.told.items report
  pub is_world : IsWorld cast (ms ++ tells.more) tells.last new
  pub untold : new.told.items ≡ []

-- The event after some of these can't happen, for its first cause: those before it stand, and are told. The world stands as they left it, or is spent.
pub record IsStop (cast : Cast) (ms : List Made) (brought : ℕ → ℕ → Bool) (events : List Event) (old new : World) (fault : RunFault) : Type 0 where
  pub before : ℕ
  pub event_is : fault.event ≡ suc before
  pub few : before ≤ length events
  pub more : List Made
  pub last : ℕ → ℕ → Bool
  pub happened : HaveHappened cast (record { scene = scene_of cast ms; brought = brought }) 0 (take before events) more (record { scene = scene_of cast (ms ++ more); brought = last })
  pub told_is : fault.told ≡ old.told.items ++ told (setting_of cast) (scene_of cast ms).standing more
  pub untold : new.told.items ≡ []
  pub is_world : IsWorld cast (ms ++ more) last new ⊎ IsSpent fault.number new
  pub cause : fault.number ≢ OutOfMemory → (event : Event) × (slice_get events before ≡ Some event) × CannotHappen fault.number cast (scene_of cast (ms ++ more)).standing event

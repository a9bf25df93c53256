-- One validator of a world, and the call that it meets.
use Rattle.std.specs.Prelude.{◌≡◌, ℕ, ◌<◌, ◌≤◌, Bool, true, false, List, [], ◌++◌, length, map, slice_get, Option, Some}
use Rattle.round_states.specs.Seen.{delivered_by}
use Rattle.protocol.specs.Tags.{Setting}
use Rattle.protocol.specs.Messages.{◌∈◌}
use Rattle.protocol.specs.World.{Cut}
use Rattle.protocol.specs.History.{Settle, Given, Due}
use Rattle.protocol.specs.Effects.{bundles_in}
use Rattle.node_core.specs.Calls.{IsLeftBy}
use Rattle.world_schedule.specs.Health.{Closed, doubt, HasHealth}
use Rattle.world_schedule.specs.Cores.{AreOwn, StandsIn}
use Rattle.world_schedule.specs.Reports.{Made, validator_of, noted, told_of_call, told}
use Rattle.world_schedule.specs.Making.{Request, Hands, Asks, Resends, Scene, IsOne, IsInsisted, IsTurn, is_refused_memory, scene_next, scene_after}
use Rattle.world_schedule.specs.Standings.{Holds}
use Rattle.world_schedule.specs.declared.validator.Validator.{Validator}
use Rattle.world_schedule.specs.declared.restarting.Stopped.{Stopped}
use Rattle.world_schedule.specs.declared.seat.Seat.{Seat}
use Rattle.world_schedule.specs.declared.seat.Seat.TheVariants as seats
use Rattle.world_schedule.specs.declared.validator.Request.{Request as Asked}
use Rattle.world_schedule.specs.declared.validator.Request.TheVariants as asked
use Rattle.world_schedule.specs.declared.chronicle.Chronicle.{Chronicle}

abbrev pub request_of : Asked → Request
request_of asked.Settle = Hands Settle
request_of (asked.Take frame) = Hands (Given frame.now)
request_of (asked.Expire timeout) = Hands (Due timeout)
request_of asked.Ask = Asks
request_of asked.Resend = Resends

-- the number of one of 1 to 128 validators
pub record IsNumber (c : Setting) (p : ℕ) : Type 0 where
  pub some : 1 ≤ length c.powers
  pub few : length c.powers ≤ 128
  pub known : p < length c.powers

-- The validator stands for its node, all that it released and decided was told, and its journal is as its calls left it.
pub record IsUp (c : Setting) (s : Scene) (v : Validator) : Type 0 where
  pub number : IsNumber c v.number
  pub stands : StandsIn c v.number (s.standing.nodes v.number) v.core
  pub health : HasHealth c v.number (s.standing.nodes v.number) (s.health v.number) v.core.journal
  pub released : v.core.outgoing ≡ []
  pub told : v.decisions_told ≡ length v.core.decisions
  pub owes : v.owes ≡ s.owing v.number

-- Its node has ended, and it is known where that stood. Its store has the records of its journal, and at most the one that was being saved as the device failed.
pub record IsStopped (c : Setting) (s : Scene) (v : Stopped) : Type 0 where
  pub number : IsNumber c v.number
  pub left : IsLeftBy c v.number (s.standing.nodes v.number) (doubt (s.health v.number)) v.store.store.bytes.items
  pub own : AreOwn v.number (s.standing.nodes v.number).journal
  pub told : v.decisions_told ≡ length (bundles_in (s.standing.nodes v.number).journal)
  pub height : v.height ≡ (s.standing.nodes v.number).state.height
  pub round : v.round ≡ (s.standing.nodes v.number).state.round
  pub delivered : delivered_by v.delivered.items ≡ (s.standing.nodes v.number).state.delivered

-- So it is since its last opening failed.
pub record IsClosed (c : Setting) (s : Scene) (v : Stopped) : Type 0 where
  pub stopped : IsStopped c s v
  pub cut : Option Cut
  pub health : s.health v.number ≡ Closed cut
  pub owes : s.owing v.number ≡ false

-- ---- what stands at the number of a validator

abbrev pub Sits : Setting → Scene → ℕ → Seat → Type 0
Sits c s i seats.Liar = ⊥
Sits c s i (seats.Up v) = (v.number ≡ i) × IsUp c s v
Sits c s i (seats.Closed v) = (v.number ≡ i) × IsClosed c s v

-- or a liar does
abbrev pub IsSeated : Setting → Scene → ℕ → Seat → Type 0
IsSeated c s i seats.Liar = Unit {0}
IsSeated c s i (seats.Up v) = Sits c s i (seats.Up v)
IsSeated c s i (seats.Closed v) = Sits c s i (seats.Closed v)

-- ---- a call

-- The validator met the request, and all that the report tells of the call is told.
pub record HasMet (c : Setting) (s : Scene) (request : Request) (starved : Bool) (p : ℕ) (new : Seat) (before after : Chronicle) : Type 0 where
  pub made : Made
  pub one : IsOne c s before.event p request made
  pub starved_is : starved ≡ is_refused_memory made.answer
  pub up : Sits c (scene_next c s made) p new
  pub holds : Holds c (scene_next c s made).standing.numbered after.messages
  pub told : after.told.items ≡ before.told.items ++ noted made (told_of_call c s.standing made)
  pub event : after.event ≡ before.event

-- ---- several calls of one validator

-- From this scene these calls of the validator lead on: it stands for its node after them, and they are told as the report has them.
pub record LeadsTo (c : Setting) (s : Scene) (made : List Made) (p : ℕ) (new : Seat) (before after : Chronicle) : Type 0 where
  pub by : (m : Made) → m ∈ made → validator_of m.call ≡ Some p
  pub up : Sits c (scene_after c s made) p new
  pub holds : Holds c (scene_after c s made).standing.numbered after.messages
  pub told : after.told.items ≡ before.told.items ++ told c s.standing made
  pub event : after.event ≡ before.event

-- The calls by which a request was insisted on, and those of a whole turn.
abbrev pub HasInsisted : Setting → Scene → Request → ℕ → Seat → Chronicle → Chronicle → Type 0
HasInsisted c s request p new before after = (made : List Made) × IsInsisted c s before.event p request made × LeadsTo c s made p new before after

abbrev pub HasTurned : Setting → Scene → Request → ℕ → Seat → Chronicle → Chronicle → Type 0
HasTurned c s request p new before after = (made : List Made) × IsTurn c s before.event p request made × LeadsTo c s made p new before after

-- ---- all validators

abbrev pub AreUp : Setting → Scene → List Seat → Type 0
AreUp c s validators = (i : ℕ) (seat : Seat) → slice_get validators i ≡ Some seat → IsSeated c s i seat

-- a correct validator's, whether it has a node or not
abbrev pub is_correct_seat : Seat → Bool
is_correct_seat (seats.Up v) = true
is_correct_seat seats.Liar = false
is_correct_seat (seats.Closed stopped) = true

-- which places have a validator
abbrev pub places : List Seat → List Bool
places validators = map is_correct_seat validators

-- A validator had its turn: all stand for their nodes after its calls, and these are told as the report has them.
pub record HaveTurned (c : Setting) (s : Scene) (p : ℕ) (request : Request) (old new : List Seat) (before after : Chronicle) : Type 0 where
  pub made : List Made
  pub turn : IsTurn c s before.event p request made
  pub up : AreUp c (scene_after c s made) new
  pub holds : Holds c (scene_after c s made).standing.numbered after.messages
  pub told : after.told.items ≡ before.told.items ++ told c s.standing made
  pub event : after.event ≡ before.event
  pub count : length new ≡ length old
  pub places_are : places new ≡ places old

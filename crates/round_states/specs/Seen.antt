-- How the code's state and its parts are seen, and what holds of them.
use Rattle.std.specs.Prelude.{◌≡◌, ℕ, ◌≤◌, ◌<◌, ◌^◌, Bool, true, false, Option, Some, None, List, map, flat_map, All, IfSome, Vec, vec_len, vec_capacity}
use Rattle.std.specs.BTreeMap.{BTreeMap}
use Rattle.transactions.specs.Grammar.{IsValue}
use Rattle.protocol.specs.Values.{Value, Item, items}
use Rattle.protocol.specs.declared.types.Step.{Step}
use Rattle.protocol.specs.declared.types.Step.TheVariants.{Propose, Prevote, Precommit}
use Rattle.protocol.specs.declared.types.ValueAt.{ValueAt}
use Rattle.proposal_validity.specs.Standing.{IsFrontierOf}
use Rattle.vote_tally.specs.declared.room.Ready.{Ready}
use Rattle.vote_tally.specs.declared.room.Ready.TheVariants as ready
use Rattle.round_states.specs.Machine.{Machine}
use Rattle.round_states.specs.Found.{proposal_in, IsFound}
use Rattle.round_states.specs.Places.{places_of, places_at, HasRoom}
use Rattle.round_states.specs.declared.state.KeptProposal.{KeptProposal}
use Rattle.round_states.specs.declared.rounds.Stage.{Stage}
use Rattle.round_states.specs.declared.rounds.Stage.TheVariants as stages
use Rattle.round_states.specs.declared.room.Room.{Room}
use Rattle.round_states.specs.declared.room.Room.TheVariants as rooms
use Rattle.round_states.specs.declared.state.State.TheInside.{Inside}

-- ---- where a height stands

abbrev pub stage_begun : Stage → Bool
stage_begun stages.Before = false
stage_begun (stages.Propose r) = true
stage_begun (stages.Prevote r) = true
stage_begun (stages.Precommit r) = true

abbrev pub stage_round : Stage → ℕ
stage_round stages.Before = 0
stage_round (stages.Propose r) = r.number
stage_round (stages.Prevote r) = r.number
stage_round (stages.Precommit r) = r.number

abbrev pub stage_step : Stage → Step
stage_step stages.Before = Propose
stage_step (stages.Propose r) = Propose
stage_step (stages.Prevote r) = Prevote
stage_step (stages.Precommit r) = Precommit

-- the round is one of this validator and height
abbrev pub IsOf : ℕ → ℕ → Stage → Type 0
IsOf me h stages.Before = Unit {0}
IsOf me h (stages.Propose r) = (r.validator ≡ me) × (r.height ≡ h)
IsOf me h (stages.Prevote r) = (r.validator ≡ me) × (r.height ≡ h)
IsOf me h (stages.Precommit r) = (r.validator ≡ me) × (r.height ≡ h)

-- the value has a spelling, and was found valid in a round up to the present one
pub record IsFoundBy (stage : Stage) (l : ValueAt) : Type 0 where
  pub fits : IsValue l.value
  pub begun : stage_begun stage ≡ true
  pub round : l.round ≤ stage_round stage

-- ---- the state

-- the items of the decided values
abbrev pub delivered_by : List Value → List Item
delivered_by values = flat_map items values

abbrev pub seen : Inside → Machine
seen a = record {
  state = record {
    delivered = delivered_by a.decided.items;
    height = a.height;
    begun = stage_begun a.stage;
    round = stage_round a.stage;
    step = stage_step a.stage;
    lock = a.lock;
    valid_value = a.valid_value;
    proposals = map proposal_in a.kept.items;
    votes = a.tally.votes;
    stamps = a.stamps.items;
    prevotes_awaited = a.prevotes_awaited;
    value_found = a.value_found;
    precommits_awaited = a.precommits_awaited;
  };
  powers = a.tally.powers;
  me = a.tally.me;
  genuine = map (λ (k : KeptProposal). k.is_genuine) a.kept.items;
  room = a.room;
}

-- ---- what it has room for

-- what the tally has room for
abbrev pub ready_of : Option Room → Option Ready
ready_of None = None
ready_of (Some (rooms.Vote vote)) = Some (ready.Vote vote)
ready_of (Some (rooms.Proposal round)) = Some (ready.Proposal round)
ready_of (Some rooms.Decision) = None

-- and the other lists
abbrev pub HasRoomFor : {Z : Type 0} → Option Room → BTreeMap ℕ (Vec ℕ Z) → Vec KeptProposal Z → Vec Value Z → Type 0
HasRoomFor None places kept decided = Unit {0}
HasRoomFor (Some (rooms.Vote vote)) places kept decided = Unit {0}
HasRoomFor (Some (rooms.Proposal round)) places kept decided = HasRoom places round × (vec_len kept < vec_capacity kept)
HasRoomFor (Some rooms.Decision) places kept decided = vec_len decided < vec_capacity decided

pub record IsSound (a : Inside) : Type 0 where
  pub proposals : a.tally.proposals ≡ map proposal_in a.kept.items
  pub places : (round : ℕ) → places_at a.places round ≡ places_of round (map proposal_in a.kept.items)
  pub found : All (IsFound (delivered_by a.decided.items)) a.kept.items
  pub frontier : IsFrontierOf (delivered_by a.decided.items) a.frontier
  pub stage : IsOf a.tally.me a.height a.stage
  pub height : a.height ≤ 2 ^ 48
  pub valid_value : IfSome a.valid_value (IsFoundBy a.stage)
  pub ready : a.tally.ready ≡ ready_of a.room
  pub room : HasRoomFor a.room a.places a.kept a.decided

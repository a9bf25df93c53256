-- What a plan says of a machine, and what its change makes of it.
use Rattle.std.specs.Prelude.{◌≡◌, ℕ, ◌<◌, ◌^◌, ◌++◌, ◌∷◌, [], List, Bool, true, Option, Some, None, option_map}
use Rattle.transactions.specs.Grammar.{IsValue}
use Rattle.messages.specs.Grammar.{IsVote, IsProposal}
use Rattle.proposal_validity.specs.Standing.{IsFrontierOf}
use Rattle.protocol.specs.Values.{Value, id, items}
use Rattle.protocol.specs.Messages.{Record, Decided, Own, Proposing, Prevoting, Precommitting, prevote, precommit}
use Rattle.protocol.specs.Records.{record_of}
use Rattle.protocol.specs.Rules.{decided, keeping_own, released_by, started}
use Rattle.protocol.specs.State.{State}
use Rattle.protocol.specs.declared.types.Step.TheVariants as steps
use Rattle.round_states.specs.Found.{IsFound}
use Rattle.round_states.specs.Machine.{Machine}
use Rattle.round_states.specs.Steps.{at}
use Rattle.round_states.specs.declared.plans.Change.{Change}
use Rattle.round_states.specs.declared.plans.Change.TheVariants as changes
use Rattle.round_states.specs.declared.plans.Plan.{Plan}
use Rattle.round_states.specs.declared.room.Room.{Room}
use Rattle.round_states.specs.declared.room.Room.TheVariants as rooms

-- what it saves
abbrev pub says : Plan → Option Record
says plan = option_map record_of plan.entry

-- the variables after the change, before the plan's message is kept
abbrev pub moved : State → Change → State
moved s (changes.Prevote vote) = record s { step = steps.Prevote }
moved s (changes.Precommit vote) = record s { step = steps.Precommit }
moved s (changes.Lock vote locked found) = record s { lock = Some (record { round = s.round; value = locked }); step = steps.Precommit; valid_value = Some (record { round = s.round; value = found }); value_found = true }
moved s (changes.Find found) = record s { valid_value = Some (record { round = s.round; value = found }); value_found = true }
moved s changes.AwaitPrevotes = record s { prevotes_awaited = true }
moved s changes.AwaitPrecommits = record s { precommits_awaited = true }
moved s (changes.Propose proposal found) = started s proposal.round
moved s (changes.Begin round) = started s round
moved s (changes.Decide value frontier) = decided s value

-- the answers beside its proposals
abbrev pub genuine_after : List Bool → Change → List Bool
genuine_after before (changes.Propose proposal found) = before ++ found.is_genuine ∷ []
genuine_after before (changes.Decide value frontier) = []
genuine_after before _ = before

-- the machine after the plan, by what was saved
abbrev pub applied : Machine → Plan → Machine
applied m plan = record (at m (keeping_own (moved m.state plan.change) (released_by m.me (says plan)))) { genuine = genuine_after m.genuine plan.change }

-- what there has to be room for
abbrev pub room_of : Change → Option Room
room_of (changes.Prevote vote) = Some (rooms.Vote vote)
room_of (changes.Precommit vote) = Some (rooms.Vote vote)
room_of (changes.Lock vote locked found) = Some (rooms.Vote vote)
room_of (changes.Find found) = None
room_of changes.AwaitPrevotes = None
room_of changes.AwaitPrecommits = None
room_of (changes.Propose proposal found) = Some (rooms.Proposal proposal.round)
room_of (changes.Begin round) = None
room_of (changes.Decide value frontier) = Some rooms.Decision

-- what is saved is a decision of this value
abbrev pub IsDecisionOf : Value → Option Record → Type 0
IsDecisionOf v (Some (Decided b)) = b.value ≡ v
IsDecisionOf v _ = ⊥

-- The change is one of this machine's place, by its step and its round, and this is what is saved for it.
abbrev pub IsOfPlace : Machine → Change → Option Record → Type 0
IsOfPlace m (changes.Prevote vote) entry = (m.state.begun ≡ true) × (m.state.step ≡ steps.Propose) × (vote ≡ prevote m.state.height m.state.round m.me vote.content) × IsVote vote × (entry ≡ Some (Own m.state.height m.state.round (Prevoting vote.content)))
IsOfPlace m (changes.Precommit vote) entry = (m.state.begun ≡ true) × (m.state.step ≡ steps.Prevote) × (vote ≡ precommit m.state.height m.state.round m.me None) × IsVote vote × (entry ≡ Some (Own m.state.height m.state.round (Precommitting None)))
IsOfPlace m (changes.Lock vote locked found) entry = (m.state.begun ≡ true) × (m.state.step ≡ steps.Prevote) × (vote ≡ precommit m.state.height m.state.round m.me (Some (id locked))) × IsVote vote × IsValue found × (entry ≡ Some (Own m.state.height m.state.round (Precommitting (Some locked))))
IsOfPlace m (changes.Find found) entry = (m.state.begun ≡ true) × (m.state.step ≡ steps.Precommit) × IsValue found × (entry ≡ None)
IsOfPlace m changes.AwaitPrevotes entry = entry ≡ None
IsOfPlace m changes.AwaitPrecommits entry = entry ≡ None
IsOfPlace m (changes.Propose proposal found) entry = (m.state.begun ≡ true → m.state.round < proposal.round) × (proposal.height ≡ m.state.height) × (proposal.sender ≡ m.me) × (proposal ≡ found.proposal) × IsProposal proposal × IsFound m.state.delivered found × (entry ≡ Some (Own proposal.height proposal.round (Proposing proposal.valid_round proposal.value)))
IsOfPlace m (changes.Begin round) entry = (m.state.begun ≡ true → m.state.round < round) × (entry ≡ None)
IsOfPlace m (changes.Decide value frontier) entry = (m.state.height < 2 ^ 48) × IsFrontierOf (m.state.delivered ++ items value) frontier × IsDecisionOf value entry

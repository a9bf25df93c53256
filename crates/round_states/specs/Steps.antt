-- What rules are made of.
use Rattle.std.specs.Prelude.{◌≡◌, ℕ, cond, List, [], ◌∷◌, Option, Some, None, IfSome, ◌==◌, length, map, flat_map, find, option_to_list, slice_index_or, slice_get}
use Rattle.powers.specs.Power.{proposer}
use Rattle.transactions.specs.Grammar.{IsValue}
use Rattle.protocol.specs.Values.{Id, Value}
use Rattle.protocol.specs.declared.types.Step.TheVariants.{Propose, Precommit}
use Rattle.protocol.specs.declared.types.Stamp.{Stamp}
use Rattle.protocol.specs.declared.types.Timeout.{Timeout}
use Rattle.protocol.specs.Messages.{Signed, Proposal, Record, below}
use Rattle.protocol.specs.State.{Context, State}
use Rattle.protocol.specs.Tally.{senders, is_vote_for}
use Rattle.protocol.specs.Rules.{proposal_of, is_stamp}
use Rattle.round_states.specs.Machine.{Machine}
use Rattle.round_states.specs.declared.plans.Picked.{Picked}

-- the machine in this state, with no room
abbrev pub at : Machine → State → Machine
at m s = record m { state = s; room = None }

-- the proposal at a place of the kept ones
abbrev pub nowhere : Proposal
nowhere = record { height = 0; round = 0; sender = 0; valid_round = None; value = record { txs = [] } }

abbrev pub proposal_at : State → ℕ → Proposal
proposal_at s place = slice_index_or s.proposals place nowhere

-- ---- a round begins

-- the value that a proposer was handed, if any
abbrev pub picked_value : Option Picked → Value
picked_value None = record { txs = [] }
picked_value (Some p) = p.value

-- it can be spelled
abbrev pub IsPick : Option Picked → Type 0
IsPick picked = IfSome picked (λ p. IsValue p.value)

-- and its answer is this context's
abbrev pub IsPickTold : Context → Option Picked → Type 0
IsPickTold g picked = IfSome picked (λ p. p.genuine ≡ g.genuine p.value)

-- what the beginning of a round saves, and the timeout that it schedules
abbrev pub opening : Machine → ℕ → Value → Option Record
opening m r picked = cond (proposer m.powers m.state.height r == m.me) (Some (proposal_of m.state r picked m.state.valid_value)) None

abbrev pub opening_timeout : Machine → ℕ → Option Timeout
opening_timeout m r = cond (proposer m.powers m.state.height r == m.me) None (Some (record { kind = Propose; height = m.state.height; round = r }))

-- ---- a height ends

-- a precommit of the certificate: the own one with these tags, another's as it arrived
abbrev pub signed_with : Machine → List (List ℕ) → ℕ → Id → ℕ → List Signed
signed_with m own_tags r x i = cond (senders m.state.votes (is_vote_for r Precommit (Some x)) i)
    (cond (i == m.me) (record { sender = i; tags = own_tags } ∷ []) (map (λ (stamp : Stamp). stamp.signed) (option_to_list (find (is_stamp r x i) m.state.stamps)))) []

-- validator i's first place, after one more of this sender
abbrev pub noted : ℕ → ℕ → ℕ → Option ℕ → Option ℕ
noted sender place i None = cond (sender == i) (Some place) None
noted sender place i (Some first) = Some first

abbrev pub stamp_at : List Stamp → Option ℕ → Option Stamp
stamp_at stamps None = None
stamp_at stamps (Some place) = slice_get stamps place

abbrev pub certificate_with : Machine → List (List ℕ) → ℕ → Id → List Signed
certificate_with m own_tags r x = flat_map (signed_with m own_tags r x) (below (length m.powers))

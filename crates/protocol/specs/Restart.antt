-- What a validator makes of its own journal.
use Rattle.std.specs.Prelude.{ℕ, suc, not, Option, Some, None, List, [], ◌∷◌, ◌++◌, is_none, unwrap_or, flat_map}
use Rattle.protocol.specs.Values.{Item, items}
use Rattle.protocol.specs.Messages.{Step, Propose, Proposal, Vote, Body, OfProposal, OfVote, Act, Precommitting, step_of, Record, Own, Decided, body_of}
use Rattle.protocol.specs.State.{State, fresh, Node, ValueAt}

-- the values of the decisions, joined in order of height
abbrev pub delivered_of : List Record → List Item
delivered_of [] = []
delivered_of (Decided b ∷ rest) = delivered_of rest ++ items b.value
delivered_of (Own h r act ∷ rest) = delivered_of rest

-- how many decisions
abbrev pub height_of : List Record → ℕ
height_of [] = 0
height_of (Decided b ∷ rest) = suc (height_of rest)
height_of (Own h r act ∷ rest) = height_of rest

-- the round and step of the last own message since the last decision
abbrev pub last_place : List Record → Option (ℕ × Step)
last_place (Own h r act ∷ rest) = Some (r, step_of act)
last_place _ = None

-- the lock after an act
abbrev pub lock_by : ℕ → Act → Option ValueAt → Option ValueAt
lock_by r (Precommitting (Some v)) before = Some (record { round = r; value = v })
lock_by r _ before = before

-- the last own precommit for a value since the last decision
abbrev pub lock_of : List Record → Option ValueAt
lock_of (Own h r act ∷ rest) = lock_by r act (lock_of rest)
lock_of _ = None

-- the own messages since the last decision, the oldest first
abbrev pub own_since : ℕ → List Record → List Body
own_since p (Own h r act ∷ rest) = own_since p rest ++ body_of p h r act ∷ []
own_since p _ = []

-- the proposal, or the vote, that a body is
abbrev pub proposals_in : Body → List Proposal
proposals_in (OfProposal q) = q ∷ []
proposals_in _ = []

abbrev pub votes_in : Body → List Vote
votes_in (OfVote v) = v ∷ []
votes_in _ = []

-- No round of the height has begun where the journal has no own message of it.
unfoldable pub restart : ℕ → List Record → State
restart p journal = record (fresh (delivered_of journal) (height_of journal)) {
  begun = not (is_none (last_place journal));
  round = (unwrap_or (last_place journal) (0, Propose)).0;
  step = (unwrap_or (last_place journal) (0, Propose)).1;
  lock = lock_of journal;
  proposals = flat_map proposals_in (own_since p journal);
  votes = flat_map votes_in (own_since p journal);
}

-- the node of a validator that is opened over this journal
abbrev pub opened : ℕ → List Record → Node
opened p journal = record { state = restart p journal; queues = []; journal = journal }

-- What a validator that comes back makes of the records of its journal, one after the other.
use Rattle.std.specs.Prelude.{◌≡◌, ℕ, Bool, true, ◌||◌, ◌++◌, ◌∷◌, [], List, None, is_some}
use Rattle.transactions.specs.Grammar.{IsValue}
use Rattle.protocol.specs.Messages.{Act, Proposing, Prevoting, Precommitting, step_of, body_of}
use Rattle.protocol.specs.Restart.{lock_by, proposals_in, votes_in}
use Rattle.protocol.specs.State.{Context, State}
use Rattle.round_states.specs.Machine.{Machine}

-- The validator has said this: it stands at the act's step of the round, a precommit for a value has locked it, and the
-- message is among the kept ones.
abbrev pub replayed : ℕ → State → ℕ → Act → State
replayed p s round act = record s {
  begun = true;
  round = round;
  step = step_of act;
  lock = lock_by round act s.lock;
  proposals = s.proposals ++ proposals_in (body_of p s.height round act);
  votes = s.votes ++ votes_in (body_of p s.height round act);
}

-- the handed answer, where a proposal is kept
abbrev pub genuine_by : Bool → Act → List Bool
genuine_by genuine (Proposing valid_round value) = (genuine || is_some valid_round) ∷ []
genuine_by genuine (Prevoting content) = []
genuine_by genuine (Precommitting choice) = []

abbrev pub with_own : Machine → ℕ → Act → Bool → Machine
with_own m round act genuine = record m { state = replayed m.me m.state round act; genuine = m.genuine ++ genuine_by genuine act; room = None }

-- The handed answer is this context's, where it is asked for: of a proposal without a valid round.
abbrev pub IsActTold : Context → Act → Bool → Type 0
IsActTold g (Proposing valid_round value) genuine = (genuine || is_some valid_round) ≡ (g.genuine value || is_some valid_round)
IsActTold g (Prevoting content) genuine = Unit {0}
IsActTold g (Precommitting choice) genuine = Unit {0}

-- the value that is proposed can be spelled
abbrev pub HasProposedValue : Act → Type 0
HasProposedValue (Proposing valid_round value) = IsValue value
HasProposedValue (Prevoting content) = Unit {0}
HasProposedValue (Precommitting choice) = Unit {0}

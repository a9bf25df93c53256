-- What a machine is: a validator's state, what its rules know beside it, and what it has room for.
use Rattle.std.specs.Prelude.{◌≡◌, ℕ, Bool, true, cond, List, Option, map, is_none}
use Rattle.protocol.specs.Messages.{Proposal}
use Rattle.protocol.specs.State.{Context, State}
use Rattle.round_states.specs.declared.room.Room.{Room}

pub record Machine : Type 0 where
  pub state : State
  pub powers : List ℕ
  pub me : ℕ
  pub genuine : List Bool  -- of each kept proposal, the answer to whether the own tags of its transactions are right
  pub room : Option Room  -- what it has room for; whatever changes the state forgets it

-- It is asked of a proposal without a valid round alone.
abbrev pub genuine_of : Context → Proposal → Bool
genuine_of g q = cond (is_none q.valid_round) (g.genuine q.value) true

-- The machine knows what this context says.
pub record Agrees (g : Context) (m : Machine) : Type 0 where
  pub powers : m.powers ≡ g.powers
  pub me : m.me ≡ g.me
  pub genuine : m.genuine ≡ map (genuine_of g) m.state.proposals

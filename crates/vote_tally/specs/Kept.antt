-- What a tally is: the validators' powers, the own number, the messages of one height that were kept, in order of arrival, and what it
-- has room for.
use Rattle.std.specs.Prelude.{◌≡◌, ℕ, ◌++◌, ◌∷◌, [], true, List, Option, Some, None, map}
use Rattle.protocol.specs.Values.{Id}
use Rattle.protocol.specs.Messages.{Proposal, Vote}
use Rattle.protocol.specs.declared.types.Step.{Step}
use Rattle.protocol.specs.declared.types.Step.TheVariants.{Precommit}
use Rattle.powers.specs.Power.{is_weak, is_quorum}
use Rattle.protocol.specs.Tally as tally
use Rattle.protocol.specs.Order.{highest}
use Rattle.vote_tally.specs.declared.room.Ready.{Ready}

pub record Kept : Type 0 where
  pub powers : List ℕ
  pub me : ℕ
  pub proposals : List Proposal
  pub votes : List Vote
  pub ready : Option Ready  -- what it has room for, so that keeping it takes no memory

abbrev pub power_for : Kept → ℕ → Step → Option Id → ℕ
power_for k round step content = tally.power_for k.powers k.votes round step content

abbrev pub power_any : Kept → ℕ → Step → ℕ
power_any k round step = tally.power_any k.powers k.votes round step

abbrev pub power_above : Kept → ℕ → ℕ
power_above k round = tally.power_above k.powers k.proposals k.votes round

-- the rounds of kept messages
abbrev pub rounds_of : Kept → List ℕ
rounds_of k = map (λ (q : Proposal). q.round) k.proposals ++ map (λ (v : Vote). v.round) k.votes

-- the highest round in which a weak quorum sent messages
abbrev pub highest_weak : Kept → Option ℕ
highest_weak k = highest (λ r. is_weak k.powers (power_above k r)) (rounds_of k)

-- some id has a quorum of precommits in the round
abbrev pub IsDecisive : Kept → ℕ → Type 0
IsDecisive k round = (x : Id) × (is_quorum k.powers (power_for k round Precommit (Some x)) ≡ true)

-- the vote is kept, and no room
abbrev pub with_vote : Kept → Vote → Kept
with_vote k v = record k { votes = k.votes ++ v ∷ []; ready = None }

abbrev pub with_proposal : Kept → Proposal → Kept
with_proposal k q = record k { proposals = k.proposals ++ q ∷ []; ready = None }

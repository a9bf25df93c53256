-- The tally: the power of sets of senders of kept messages.
use Rattle.std.specs.Prelude.{ℕ, Bool, ◌&&◌, ◌||◌, Option, List, ◌==◌}
use Rattle.std.specs.List.{list_any}
use Rattle.powers.specs.Power.{power}
use Rattle.protocol.specs.Values.{Id}
use Rattle.protocol.specs.Messages.{Step, step_eq, step_of_vote, content_eq, Proposal, Vote}

-- a vote of this round and step
abbrev pub is_vote : ℕ → Step → Vote → Bool
is_vote round step v = (v.round == round) && step_eq (step_of_vote v.step) step

-- and for this content
abbrev pub is_vote_for : ℕ → Step → Option Id → Vote → Bool
is_vote_for round step content v = is_vote round step v && content_eq v.content content

-- the senders of the votes that pass, as a set
abbrev pub senders : List Vote → (Vote → Bool) → ℕ → Bool
senders votes test i = list_any (λ (v : Vote). test v && (v.sender == i)) votes

-- the senders of the proposals of a round, as a set
abbrev pub proposers : List Proposal → ℕ → ℕ → Bool
proposers proposals round i = list_any (λ (q : Proposal). (q.round == round) && (q.sender == i)) proposals

-- those with a message of the round, as a set
abbrev pub speakers : List Proposal → List Vote → ℕ → ℕ → Bool
speakers proposals votes round i = proposers proposals round i || senders votes (λ (v : Vote). v.round == round) i

-- the power of those who voted for this content
abbrev pub power_for : List ℕ → List Vote → ℕ → Step → Option Id → ℕ
power_for powers votes round step content = power powers (senders votes (is_vote_for round step content))

-- of those who voted for any content
abbrev pub power_any : List ℕ → List Vote → ℕ → Step → ℕ
power_any powers votes round step = power powers (senders votes (is_vote round step))

-- of those who sent any message of exactly this round
abbrev pub power_above : List ℕ → List Proposal → List Vote → ℕ → ℕ
power_above powers proposals votes round = power powers (speakers proposals votes round)

-- Bodies and messages, and what a validator saves.
use Rattle.std.specs.Prelude.{◌≡◌, ℕ, zero, suc, Bool, Option, Some, None, ◌⊎◌, List, [], ◌∷◌, ◌++◌, length, ◌==◌, map, option_map}
use Rattle.protocol.specs.Values.{Id, Value, id}
use Rattle.protocol.specs.Tags.{Setting, Party, Validator, Client, hmac}
use Rattle.messages.specs.declared.body.Step.{Step as VoteStep}
use Rattle.messages.specs.declared.body.Step.TheVariants as vote_steps
use Rattle.messages.specs.Grammar.{body_spelling}
pub use Rattle.messages.specs.declared.body.Proposal.{Proposal}
pub use Rattle.messages.specs.declared.body.Vote.{Vote}
pub use Rattle.messages.specs.declared.body.Ask.{Ask}
pub use Rattle.messages.specs.declared.body.Precommit.{Precommit as Signed}
pub use Rattle.messages.specs.declared.body.Bundle.{Bundle}
pub use Rattle.messages.specs.declared.body.Body.{Body}
pub use Rattle.messages.specs.declared.body.Body.TheVariants.{Tx as OfTx, Proposal as OfProposal, Vote as OfVote, Ask as OfAsk, Bundle as OfBundle}
pub use Rattle.messages.specs.declared.body.Message.{Message}
pub use Rattle.protocol.specs.declared.types.Step.{Step}
pub use Rattle.protocol.specs.declared.types.Step.TheVariants.{Propose, Prevote, Precommit}
pub use Rattle.messages.specs.Equality.{content_eq, round_eq, vote_eq, proposal_eq}

infix 40 ◌∈◌
-- x is an element of the list
abbrev pub ◌∈◌ : {X : Type 0} → X → List X → Type 0
x ∈ [] = ⊥
x ∈ (y ∷ ys) = (x ≡ y) ⊎ x ∈ ys

-- in the order of a round
abbrev pub step_number : Step → ℕ
step_number Propose = 0
step_number Prevote = 1
step_number Precommit = 2

abbrev pub step_eq : Step → Step → Bool
step_eq a b = step_number a == step_number b

-- the step that a vote is of
abbrev pub step_of_vote : VoteStep → Step
step_of_vote vote_steps.Prevote = Prevote
step_of_vote vote_steps.Precommit = Precommit

abbrev pub prevote : ℕ → ℕ → ℕ → Option Id → Vote
prevote height round sender content = record { step = vote_steps.Prevote; height = height; round = round; sender = sender; content = content }

abbrev pub precommit : ℕ → ℕ → ℕ → Option Id → Vote
precommit height round sender content = record { step = vote_steps.Precommit; height = height; round = round; sender = sender; content = content }

-- what a validator says in a round: a proposal with its valid round, a prevote for an id, a precommit for a value
pub data Act : Type 0 where
  Proposing : Option ℕ → Value → Act
  Prevoting : Option Id → Act
  Precommitting : Option Value → Act

abbrev pub step_of : Act → Step
step_of (Proposing r v) = Propose
step_of (Prevoting x) = Prevote
step_of (Precommitting v) = Precommit

-- what one save adds to a validator's journal: an own message, or a decision
pub data Record : Type 0 where
  Own : (height round : ℕ) → Act → Record
  Decided : Bundle → Record

abbrev pub body_of : ℕ → ℕ → ℕ → Act → Body
body_of p height round (Proposing valid_round value) = OfProposal (record { height = height; round = round; sender = p; valid_round = valid_round; value = value })
body_of p height round (Prevoting content) = OfVote (prevote height round p content)
body_of p height round (Precommitting content) = OfVote (precommit height round p (option_map id content))

-- the message that a record lets its validator send
abbrev pub own_body : ℕ → Record → Option Body
own_body p (Own height round act) = Some (body_of p height round act)
own_body p (Decided b) = None

-- who sends a body, and under whose key
abbrev pub sender_of : Body → Party
sender_of (OfTx t) = Client t.client
sender_of (OfProposal q) = Validator q.sender
sender_of (OfVote v) = Validator v.sender
sender_of (OfAsk a) = Validator a.sender
sender_of (OfBundle b) = Validator b.sender

-- the numbers below n
unfoldable pub below : ℕ → List ℕ
below zero = []
below (suc n) = below n ++ n ∷ []

-- a body with right tags for everyone
unfoldable pub tagged : Setting → Body → Message
tagged c body = record { body = body; tags = map (λ q. hmac (c.key (sender_of body) q) (body_spelling body)) (below (length c.powers)) }

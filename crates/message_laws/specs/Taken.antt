-- Which messages a validator takes in, without the causes for which it refuses the others.
use Rattle.std.specs.Prelude.{◌≡◌, ◌↔◌, ℕ, ◌+◌, ◌^◌, Bool, true, not, ◌&&◌, ◌||◌, List, length, ◌==◌, nat_lt, nat_le}
use Rattle.std.specs.List.{list_any}
use Rattle.std.specs.Str.{bytes_eq}
use Rattle.messages.specs.Grammar.{body_spelling}
use Rattle.powers.specs.Power.{power, is_quorum, proposer}
use Rattle.protocol.specs.Values.{Tx, Item, item, id, valid, fits}
use Rattle.protocol.specs.Tags.{Setting, right, tx_is_right}
use Rattle.protocol.specs.Messages.{Proposal, Vote, Bundle, Body, OfTx, OfProposal, OfVote, OfAsk, OfBundle, Message, proposal_eq, vote_eq, sender_of}
use Rattle.protocol.specs.State.{State, Queue, Node}
use Rattle.protocol.specs.Queues.{waiting_of}
use Rattle.protocol.specs.Refusals.{accepts, is_known, is_full, has_two, is_long, is_old, is_closed, reached, bundle_senders, tagged_tx}

-- its client's next one after what is delivered and what waits, of which there is less than the limit
abbrev pub takes_tx : Setting → ℕ → List Item → List Queue → Tx → Bool
takes_tx c p d queues t = not (is_long t.op) && tx_is_right c p t && not (is_old d queues t || is_closed d queues t) && fits (reached d queues t.client) (item t)
    && nat_lt (length (waiting_of t.client queues)) 64

abbrev pub takes_proposal : List ℕ → ℕ → State → Proposal → Bool
takes_proposal powers p s q = (q.height == s.height) && nat_le q.round 1000000 && nat_le q.round (s.round + 2) && (q.sender == proposer powers q.height q.round)
    && not (list_any (proposal_eq q) s.proposals) && not (is_full p s.proposals s.votes q.sender || has_two s.proposals q)

abbrev pub takes_vote : ℕ → State → Vote → Bool
takes_vote p s v = (v.height == s.height) && nat_le v.round 1000000 && not (list_any (vote_eq v) s.votes || is_full p s.proposals s.votes v.sender)

abbrev pub takes_bundle : Setting → ℕ → State → Bundle → Bool
takes_bundle c p s b = (b.height == s.height) && nat_lt b.height (2 ^ 48) && bytes_eq b.id (id b.value) && is_quorum c.powers (power c.powers (bundle_senders c p b)) && valid s.delivered b.value

-- the sender is known, and the tag is right
abbrev pub is_tagged : Setting → ℕ → Body → List (List ℕ) → Bool
is_tagged c p b tags = is_known c (sender_of b) && right c p (sender_of b) (body_spelling b) tags

abbrev pub takes : Setting → ℕ → Node → Message → Body → Bool
takes c p n m (OfTx t) = takes_tx c p n.state.delivered n.queues (tagged_tx t m)
takes c p n m (OfProposal q) = is_tagged c p (OfProposal q) m.tags && takes_proposal c.powers p n.state q
takes c p n m (OfVote v) = is_tagged c p (OfVote v) m.tags && takes_vote p n.state v
takes c p n m (OfAsk a) = is_tagged c p (OfAsk a) m.tags && nat_lt a.height n.state.height
takes c p n m (OfBundle b) = is_tagged c p (OfBundle b) m.tags && takes_bundle c p n.state b

-- Nothing stands against a message exactly where it is taken in.
abbrev pub TakenLaw : Type 0
TakenLaw = (c : Setting) (p : ℕ) (n : Node) (m : Message) → (accepts c p n m ≡ true) ↔ (takes c p n m m.body ≡ true)

-- Why what comes to a validator is refused: every cause, in the order in which they are tested.
use Rattle.std.specs.Prelude.{ℕ, suc, ◌+◌, ◌^◌, Bool, false, cond, not, ◌&&◌, ◌||◌, Option, Some, None, List, [], ◌∷◌, ◌++◌, length, map, ◌==◌, nat_lt, nat_le, count_by, is_none, flat_map, find, option_to_list, Result, Ok, Err}
use Rattle.std.specs.List.{list_any}
use Rattle.std.specs.Str.{bytes_eq}
use Rattle.transactions.specs.declared.fault.Fault.{Fault}
use Rattle.transactions.specs.declared.fault.Fault.TheVariants as faults
use Rattle.messages.specs.Grammar.{body_spelling}
use Rattle.messages.specs.Framing.{message_of}
use Rattle.powers.specs.Power.{power, is_quorum, proposer}
use Rattle.protocol.specs.Values.{Tx, Op, Bytes, Close, Item, item, id, valid, Standing, is_close, fits, left_after}
use Rattle.protocol.specs.Tags.{Setting, Party, Validator, Client, right, tx_is_right, genuine}
use Rattle.protocol.specs.Messages.{precommit, Signed, Proposal, Vote, Ask, Bundle, Body, OfTx, OfProposal, OfVote, OfAsk, OfBundle, Message, proposal_eq, vote_eq, sender_of, tagged, below}
use Rattle.protocol.specs.State.{Context, State, Queue, Node}
use Rattle.protocol.specs.Queues.{standing_of, is_above, waiting_of}

-- ---- what a validator knows

-- the precommit in the bundle is validator i's, for its id at its height and round, and its tag for p is right
abbrev pub is_vouching : Setting → ℕ → Bundle → ℕ → Signed → Bool
is_vouching c p b i s = (s.sender == i) && right c p (Validator i) (body_spelling (OfVote (precommit b.height b.round i (Some b.id)))) s.tags

-- the distinct senders of right precommits
unfoldable pub bundle_senders : Setting → ℕ → Bundle → ℕ → Bool
bundle_senders c p b i = list_any (is_vouching c p b i) b.precommits

-- the right precommits, the first of each validator, in order of validator
unfoldable pub certified : Setting → ℕ → Bundle → List Signed
certified c p b = flat_map (λ i. option_to_list (find (is_vouching c p b i) b.precommits)) (below (length c.powers))

abbrev pub context : Setting → ℕ → Context
context c p = record {
  powers = c.powers;
  me = p;
  genuine = genuine c p;
  vouches = bundle_senders c p;
  certified = certified c p;
  own_tags = λ height round x. (tagged c (OfVote (precommit height round p (Some x)))).tags;
}

-- ---- the names of the causes

-- why a transaction isn't queued
pub data TxRefusal : Type 0 where
  UnknownClient : TxRefusal
  BadTxTag : TxRefusal
  OldNumber : TxRefusal
  Gap : TxRefusal
  Closed : TxRefusal
  QueueFull : TxRefusal
  TxTooLong : TxRefusal
  SessionAhead : TxRefusal

-- why a bundle decides nothing
pub data BundleRefusal : Type 0 where
  NoQuorum : BundleRefusal
  WrongDigest : BundleRefusal
  BadBundleTag : BundleRefusal
  NotValid : BundleRefusal

pub data Refusal : Type 0 where
  Unread : Fault → Refusal
  UnknownSender : Refusal
  BadTag : Refusal
  OtherHeight : Refusal
  VoterFull : Refusal
  Repeat : Refusal
  RoundLimit : Refusal
  RoundAhead : Refusal
  WrongProposer : Refusal
  NotQueued : TxRefusal → Refusal
  NotDecided : BundleRefusal → Refusal

-- a cause that may stand, and what is then answered
pub record Cause (R : Type 0) : Type 0 where
  pub stands : Bool
  pub answer : R

infix 20 ◌↪◌
abbrev pub ◌↪◌ : {R : Type 0} → Bool → R → Cause R
stands ↪ answer = record { stands = stands; answer = answer }

-- the answer of the first cause that stands
abbrev pub first_cause : {R : Type 0} → List (Cause R) → Option R
first_cause [] = None
first_cause (x ∷ xs) = cond x.stands (Some x.answer) (first_cause xs)

abbrev pub answering : {R S : Type 0} → (R → S) → List (Cause R) → List (Cause S)
answering f [] = []
answering f (x ∷ xs) = (x.stands ↪ f x.answer) ∷ answering f xs

-- ---- the causes, in the order in which they are tested

abbrev pub is_known : Setting → Party → Bool
is_known c (Validator i) = nat_lt i (length c.powers)
is_known c (Client i) = c.clients i

abbrev pub sender_causes : Setting → ℕ → Body → List (List ℕ) → List (Cause Refusal)
sender_causes c p b tags = (not (is_known c (sender_of b)) ↪ UnknownSender)
    ∷ (not (right c p (sender_of b) (body_spelling b) tags) ↪ BadTag) ∷ []

-- 512 messages of validator i are kept, and it isn't the own number
abbrev pub is_full : ℕ → List Proposal → List Vote → ℕ → Bool
is_full p proposals votes i = not (i == p) && nat_le 512 (count_by (λ (q : Proposal). q.sender == i) proposals + count_by (λ (v : Vote). v.sender == i) votes)

-- two proposals of this round and sender are kept
abbrev pub has_two : List Proposal → Proposal → Bool
has_two proposals q = nat_le 2 (count_by (λ (other : Proposal). (other.round == q.round) && (other.sender == q.sender)) proposals)

abbrev pub proposal_causes : List ℕ → ℕ → State → Proposal → List (Cause Refusal)
proposal_causes powers p s q = (not (q.height == s.height) ↪ OtherHeight)
    ∷ (nat_lt 1000000 q.round ↪ RoundLimit)
    ∷ (nat_lt (s.round + 2) q.round ↪ RoundAhead)
    ∷ (not (q.sender == proposer powers q.height q.round) ↪ WrongProposer)
    ∷ (list_any (proposal_eq q) s.proposals ↪ Repeat)
    ∷ ((is_full p s.proposals s.votes q.sender || has_two s.proposals q) ↪ VoterFull) ∷ []

abbrev pub vote_causes : ℕ → State → Vote → List (Cause Refusal)
vote_causes p s v = (not (v.height == s.height) ↪ OtherHeight)
    ∷ (nat_lt 1000000 v.round ↪ RoundLimit)
    ∷ (list_any (vote_eq v) s.votes ↪ Repeat)
    ∷ (is_full p s.proposals s.votes v.sender ↪ VoterFull) ∷ []

abbrev pub ask_causes : State → Ask → List (Cause Refusal)
ask_causes s a = (not (nat_lt a.height s.height) ↪ OtherHeight) ∷ []

-- where the client stands after what is delivered and what waits
abbrev pub reached : List Item → List Queue → ℕ → Standing
reached d queues client = left_after (standing_of client d) (map item (waiting_of client queues))

-- It isn't above the client's last delivered one, or one of its session with its number or a higher one waits.
abbrev pub is_old : List Item → List Queue → Tx → Bool
is_old d queues t = not (is_above (standing_of t.client d) t) || list_any (λ (u : Tx). (u.session == t.session) && nat_le t.number u.number) (waiting_of t.client queues)

-- The close of its session is delivered, or waits.
abbrev pub is_closed : List Item → List Queue → Tx → Bool
is_closed d queues t = ((t.session == (standing_of t.client d).session) && (standing_of t.client d).closed) || list_any (λ (u : Tx). (u.session == t.session) && is_close u.op) (waiting_of t.client queues)

-- It is neither of the session that the client reached nor, where that one is closed, of the next.
abbrev pub is_ahead : Standing → Tx → Bool
is_ahead s t = not ((t.session == s.session) || (s.closed && (t.session == suc s.session)))

abbrev pub is_long : Op → Bool
is_long (Bytes b) = nat_lt 1024 (length b)
is_long Close = false

abbrev pub tx_causes : Setting → ℕ → List Item → List Queue → Tx → List (Cause TxRefusal)
tx_causes c p d queues t = (is_long t.op ↪ TxTooLong)
    ∷ (not (c.clients t.client) ↪ UnknownClient)
    ∷ (not (tx_is_right c p t) ↪ BadTxTag)
    ∷ (is_old d queues t ↪ OldNumber)
    ∷ (is_closed d queues t ↪ Closed)
    ∷ (is_ahead (reached d queues t.client) t ↪ SessionAhead)
    ∷ (not (fits (reached d queues t.client) (item t)) ↪ Gap)
    ∷ (nat_le 64 (length (waiting_of t.client queues)) ↪ QueueFull) ∷ []

-- those that the bundle names
abbrev pub named_senders : Bundle → ℕ → Bool
named_senders b i = list_any (λ (s : Signed). s.sender == i) b.precommits

abbrev pub judge_causes : Setting → ℕ → List Item → Bundle → List (Cause BundleRefusal)
judge_causes c p d b = (not (bytes_eq b.id (id b.value)) ↪ WrongDigest)
    ∷ (not (is_quorum c.powers (power c.powers (named_senders b))) ↪ NoQuorum)
    ∷ (not (is_quorum c.powers (power c.powers (bundle_senders c p b))) ↪ BadBundleTag)
    ∷ (not (valid d b.value) ↪ NotValid) ∷ []

abbrev pub bundle_causes : Setting → ℕ → State → Bundle → List (Cause Refusal)
bundle_causes c p s b = (not (b.height == s.height && nat_lt b.height (2 ^ 48)) ↪ OtherHeight) ∷ answering NotDecided (judge_causes c p s.delivered b)

-- a transaction's own tags are the message's
abbrev pub tagged_tx : Tx → Message → Tx
tagged_tx t m = record t { tags = m.tags }

abbrev pub causes : Setting → ℕ → Node → Message → Body → List (Cause Refusal)
causes c p n m (OfTx t) = answering NotQueued (tx_causes c p n.state.delivered n.queues (tagged_tx t m))
causes c p n m (OfProposal q) = sender_causes c p (OfProposal q) m.tags ++ proposal_causes c.powers p n.state q
causes c p n m (OfVote v) = sender_causes c p (OfVote v) m.tags ++ vote_causes p n.state v
causes c p n m (OfAsk a) = sender_causes c p (OfAsk a) m.tags ++ ask_causes n.state a
causes c p n m (OfBundle b) = sender_causes c p (OfBundle b) m.tags ++ bundle_causes c p n.state b

-- the answer to a message: none, where it is taken in
abbrev pub refusal_of : Setting → ℕ → Node → Result Message Fault → Option Refusal
refusal_of c p n (Err fault) = Some (Unread fault)
refusal_of c p n (Ok m) = first_cause (causes c p n m m.body)

-- the answer to any bytes
abbrev pub answer : Setting → ℕ → Node → List ℕ → Option Refusal
answer c p n bytes = refusal_of c p n (message_of bytes)

-- nothing is refused
abbrev pub accepts : Setting → ℕ → Node → Message → Bool
accepts c p n m = is_none (refusal_of c p n (Ok m))

-- ---- the numbers that callers see

abbrev pub fault_number : Fault → ℕ
fault_number faults.Truncated = 1
fault_number faults.TooLong = 2
fault_number faults.BadKind = 3
fault_number faults.BadSpelling = 4
fault_number faults.OutOfMemory = 16

abbrev pub tx_number : TxRefusal → ℕ
tx_number UnknownClient = 1
tx_number BadTxTag = 2
tx_number OldNumber = 3
tx_number Gap = 4
tx_number Closed = 5
tx_number QueueFull = 6
tx_number TxTooLong = 7
tx_number SessionAhead = 9

abbrev pub bundle_number : BundleRefusal → ℕ
bundle_number NoQuorum = 1
bundle_number WrongDigest = 2
bundle_number BadBundleTag = 3
bundle_number NotValid = 4

-- a number, and an inner one
abbrev pub refusal_number : Refusal → ℕ × ℕ
refusal_number (Unread fault) = (fault_number fault, 0)
refusal_number UnknownSender = (5, 0)
refusal_number BadTag = (6, 0)
refusal_number OtherHeight = (7, 0)
refusal_number VoterFull = (8, 0)
refusal_number Repeat = (9, 0)
refusal_number RoundLimit = (10, 0)
refusal_number RoundAhead = (11, 0)
refusal_number WrongProposer = (12, 0)
refusal_number (NotQueued r) = (13, tx_number r)
refusal_number (NotDecided r) = (14, bundle_number r)

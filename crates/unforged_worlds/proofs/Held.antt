-- What a node holds of others: items that clients sent, and votes that validators cast. Whatever is asked of these is kept, where it may only become true.
use Rattle.std.proofs.Common.{◌≡◌, ℕ, List, Option, Some, None}
use Rattle.protocol.specs.Values.{Id, Tx, Item, item}
use Rattle.protocol.specs.Messages.{◌∈◌, precommit, Signed, Proposal, Vote, Body, OfTx, OfProposal, OfVote, OfAsk, OfBundle, Record, Own, Decided, body_of}
use Rattle.protocol.specs.declared.types.ValueAt.{ValueAt}
use Rattle.protocol.specs.State.{State, Node, Rule, DecideByBundle}
use Rattle.protocol.specs.Queues.{all_waiting}

module _ (IsSent : Item → Type 0) (IsCast : Vote → Type 0) where
  abbrev pub AreSent : List Tx → Type 0
  AreSent txs = (t : Tx) → t ∈ txs → IsSent (item t)

  -- the votes that these precommits stand for
  abbrev pub AreCast : ℕ → ℕ → Id → List Signed → Type 0
  AreCast height round x signed = (s : Signed) → s ∈ signed → IsCast (precommit height round s.sender (Some x))

  -- what the body holds of others; and itself, where it is a transaction or a vote
  abbrev pub IsHeld : Body → Type 0
  IsHeld (OfTx t) = IsSent (item t)
  IsHeld (OfProposal q) = AreSent q.value.txs
  IsHeld (OfVote v) = IsCast v
  IsHeld (OfAsk a) = Unit {0}
  IsHeld (OfBundle b) = AreSent b.value.txs × AreCast b.height b.round b.id b.precommits

  abbrev pub RecordHeld : ℕ → Record → Type 0
  RecordHeld p (Own height round act) = IsHeld (body_of p height round act)
  RecordHeld p (Decided b) = IsHeld (OfBundle b)

  abbrev pub RecordsHeld : ℕ → List Record → Type 0
  RecordsHeld p rs = (r : Record) → r ∈ rs → RecordHeld p r

  abbrev pub FoundHeld : Option ValueAt → Type 0
  FoundHeld None = Unit {0}
  FoundHeld (Some l) = AreSent l.value.txs

  -- a kept vote is of the height
  pub record StateHeld (s : State) : Type 0 where
    pub proposals : (q : Proposal) → q ∈ s.proposals → AreSent q.value.txs
    pub votes : (v : Vote) → v ∈ s.votes → IsCast v × (v.height ≡ s.height)
    pub found : FoundHeld s.valid_value

  pub record NodeHeld (p : ℕ) (n : Node) : Type 0 where
    pub journal : RecordsHeld p n.journal
    pub state : StateHeld n.state
    pub queues : AreSent (all_waiting n.queues)

  -- what a bundle's rule rests on
  abbrev pub RuleHeld : Rule → Type 0
  RuleHeld (DecideByBundle b) = IsHeld (OfBundle b)
  RuleHeld _ = Unit {0}

-- ---- what may become true of more

module _ (IsSent IsSentThen : Item → Type 0) (IsCast IsCastThen : Vote → Type 0) (sent : (t : Item) → IsSent t → IsSentThen t) (cast : (v : Vote) → IsCast v → IsCastThen v) where
  pub held_more : (b : Body) → IsHeld IsSent IsCast b → IsHeld IsSentThen IsCastThen b
  held_more (OfTx t) k = sent (item t) k
  held_more (OfProposal q) k = λ t i. sent (item t) (k t i)
  held_more (OfVote v) k = cast v k
  held_more (OfAsk a) k = tt
  held_more (OfBundle b) k = (λ t i. sent (item t) (k.0 t i), λ s i. cast _ (k.1 s i))

  pub record_more : (p : ℕ) (r : Record) → RecordHeld IsSent IsCast p r → RecordHeld IsSentThen IsCastThen p r
  record_more p (Own height round act) k = held_more (body_of p height round act) k
  record_more p (Decided b) k = held_more (OfBundle b) k

  found_more : (l : Option ValueAt) → FoundHeld IsSent IsCast l → FoundHeld IsSentThen IsCastThen l
  found_more None k = tt
  found_more (Some l) k = λ t i. sent (item t) (k t i)

  state_more : (s : State) → StateHeld IsSent IsCast s → StateHeld IsSentThen IsCastThen s
  state_more s k = record {
    proposals = λ q i t j. sent (item t) (k.proposals q i t j);
    votes = λ v i. (cast v (k.votes v i).0, (k.votes v i).1);
    found = found_more s.valid_value k.found;
  }

  pub node_more : (p : ℕ) (n : Node) → NodeHeld IsSent IsCast p n → NodeHeld IsSentThen IsCastThen p n
  node_more p n k = record {
    journal = λ r i. record_more p r (k.journal r i);
    state = state_more n.state k.state;
    queues = λ t i. sent (item t) (k.queues t i);
  }

  pub rule_more : (k : Rule) → RuleHeld IsSent IsCast k → RuleHeld IsSentThen IsCastThen k
  rule_more (DecideByBundle b) k = held_more (OfBundle b) k
  rule_more _ k = tt

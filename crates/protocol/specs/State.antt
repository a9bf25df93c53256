-- A validator's state, and the names of its rules.
use Rattle.std.specs.Prelude.{ℕ, Bool, false, Option, None, List, []}
use Rattle.protocol.specs.Values.{Tx, Value, Item, Id}
use Rattle.protocol.specs.Messages.{Step, Propose, Bundle, Signed, Proposal, Vote, Record}
pub use Rattle.protocol.specs.declared.types.ValueAt.{ValueAt}
pub use Rattle.protocol.specs.declared.types.Stamp.{Stamp}
pub use Rattle.protocol.specs.declared.types.Timeout.{Timeout}

-- what a validator's rules know beside its state
pub record Context : Type 0 where
  pub powers : List ℕ
  pub me : ℕ
  pub genuine : Value → Bool  -- the own tags of the value's transactions are right
  pub vouches : Bundle → ℕ → Bool  -- the distinct senders of the bundle's right precommits
  pub certified : Bundle → List Signed  -- those precommits, the first of each sender, in order of sender
  pub own_tags : ℕ → ℕ → Id → List (List ℕ)  -- the tags of the own precommit of a height and round for an id

-- the variables of the algorithm
pub record State : Type 0 where
  pub delivered : List Item
  pub height : ℕ
  pub begun : Bool  -- a round of this height has begun; else round is 0 and step Propose
  pub round : ℕ
  pub step : Step
  pub lock : Option ValueAt  -- lockedRound and lockedValue
  pub valid_value : Option ValueAt  -- validRound and validValue
  pub proposals : List Proposal  -- the kept proposals of the height, in order of arrival
  pub votes : List Vote  -- the kept votes of the height, in order of arrival
  pub stamps : List Stamp  -- the kept precommits for a value that came from outside, with their tags
  pub prevotes_awaited : Bool  -- AwaitPrevotes has fired in this round
  pub value_found : Bool  -- Lock has fired in this round
  pub precommits_awaited : Bool  -- AwaitPrecommits has fired in this round

-- the height at which this list is delivered, before its first round
abbrev pub fresh : List Item → ℕ → State
fresh delivered height = record {
  delivered = delivered;
  height = height;
  begun = false;
  round = 0;
  step = Propose;
  lock = None;
  valid_value = None;
  proposals = [];
  votes = [];
  stamps = [];
  prevotes_awaited = false;
  value_found = false;
  precommits_awaited = false;
}

-- the transactions that a client waits to see delivered
pub record Queue : Type 0 where
  pub client : ℕ
  pub waiting : List Tx

-- a validator: its variables, its clients' queues, and its journal, the newest record first
pub record Node : Type 0 where
  pub state : State
  pub queues : List Queue
  pub journal : List Record

-- Each rule with what its row names. Ln is line n of algorithm 1 of arXiv 1807.04938.
pub data Rule : Type 0 where
  Start : Rule  -- StartRound(0), which stands in L10 and L54
  PrevoteFresh : Value → Rule  -- L22
  PrevoteAgain : ℕ → Value → Rule  -- L28, with the valid round
  AwaitPrevotes : Rule  -- L34
  Lock : Value → Rule  -- L36
  PrecommitNil : Rule  -- L44
  AwaitPrecommits : Rule  -- L47
  Decide : ℕ → Value → Rule  -- L49, with the round
  DecideByBundle : Bundle → Rule  -- L49, by precommits that another validator collected
  SkipRound : ℕ → Rule  -- L55
  TimedOut : Timeout → Rule  -- L57, L61 and L65, by its kind

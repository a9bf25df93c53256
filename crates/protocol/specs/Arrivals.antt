-- What a validator does with the bytes that come to it, where it doesn't refuse them, and with a rule that fires.
use Rattle.std.specs.Prelude.{ℕ, Bool, true, false, cond, Option, Some, None, List, [], ◌∷◌, ◌++◌, ◌==◌, Result, Ok, Err, option_to_list}
use Rattle.transactions.specs.declared.fault.Fault.{Fault}
use Rattle.messages.specs.Framing.{message_of}
use Rattle.protocol.specs.Values.{Id}
use Rattle.protocol.specs.Tags.{Setting}
use Rattle.protocol.specs.Messages.{Step, Precommit, step_of_vote, Body, OfTx, OfProposal, OfVote, OfAsk, OfBundle, Message, Record, Own, Decided}
use Rattle.protocol.specs.State.{State, Stamp, Queue, Node, Rule, Decide, DecideByBundle}
use Rattle.protocol.specs.Rules.{saved, fired, released_by, keeping}
use Rattle.protocol.specs.Queues.{pick, queued, drop_delivered}
use Rattle.protocol.specs.Refusals.{context, accepts, tagged_tx}

-- ---- what isn't refused

-- a node, the record that it saved as it came to be, and the bodies that it released
pub record Outcome : Type 0 where
  pub node : Node
  pub wrote : Option Record
  pub out : List Body

abbrev pub nothing : Node → Outcome
nothing n = record { node = n; wrote = None; out = [] }

-- a precommit for a value keeps its tags
abbrev pub stamp_of : Step → ℕ → ℕ → Option Id → List (List ℕ) → List Stamp
stamp_of Precommit round sender (Some x) tags = record { round = round; id = x; signed = record { sender = sender; tags = tags } } ∷ []
stamp_of _ round sender _ tags = []

-- a proposal or a vote is kept
abbrev pub kept_message : State → Message → Body → State
kept_message s m (OfProposal q) = keeping s (OfProposal q)
kept_message s m (OfVote v) = record (keeping s (OfVote v)) { stamps = s.stamps ++ stamp_of (step_of_vote v.step) v.round v.sender v.content m.tags }
kept_message s m _ = s

abbrev pub queued_message : List Queue → Message → Body → List Queue
queued_message queues m (OfTx t) = queued (tagged_tx t m) queues
queued_message queues m _ = queues

-- the bundles of a height that a journal has
abbrev pub bundles_of : ℕ → List Record → List Body
bundles_of height [] = []
bundles_of height (Decided b ∷ rest) = cond (b.height == height) (OfBundle b ∷ bundles_of height rest) (bundles_of height rest)
bundles_of height (Own h r act ∷ rest) = bundles_of height rest

-- an ask is answered by its height's bundle
abbrev pub replies : Node → Body → List Body
replies n (OfAsk a) = bundles_of a.height n.journal
replies n _ = []

-- ---- what a firing makes of a node

abbrev pub is_decision : Rule → Bool
is_decision (Decide r v) = true
is_decision (DecideByBundle b) = true
is_decision _ = false

-- the queues after the rule: a decision drops what it delivers
abbrev pub queues_after : State → Rule → List Queue → List Queue
queues_after s k queues = cond (is_decision k) (drop_delivered s.delivered queues) queues

-- The rule fires: its record joins the journal, and its message is released.
abbrev pub firing : Setting → ℕ → Node → Rule → Outcome
firing c p n k =
    let g = context c p in
    let picked = pick n.queues in
    let s = fired g picked n.state k in
    let wrote = saved g picked n.state k in
    record { node = record { state = s; queues = queues_after s k n.queues; journal = option_to_list wrote ++ n.journal }; wrote = wrote; out = option_to_list (released_by p wrote) }

-- a proposal or a vote is kept, a transaction queued, an ask answered
abbrev pub taken_in : Node → Message → Body → Outcome
taken_in n m b = record { node = record n { state = kept_message n.state m b; queues = queued_message n.queues m b }; wrote = None; out = replies n b }

-- and a bundle decides its height
abbrev pub received : Setting → ℕ → Node → Message → Body → Outcome
received c p n m (OfBundle b) = firing c p n (DecideByBundle b)
received c p n m b = taken_in n m b

abbrev pub arrival_of : Setting → ℕ → Node → Result Message Fault → Outcome
arrival_of c p n (Err fault) = nothing n
arrival_of c p n (Ok m) = cond (accepts c p n m) (received c p n m m.body) (nothing n)

-- the bytes come
abbrev pub arrival : Setting → ℕ → Node → List ℕ → Outcome
arrival c p n bytes = arrival_of c p n (message_of bytes)

-- Which frames a node lets in, before it looks at its state.
use Rattle.std.specs.Prelude.{◌≡◌, ℕ, not, List, [], ◌∷◌, Option, Some, None, Result, Ok, Err}
use Rattle.transactions.specs.declared.fault.Fault.{Fault}
use Rattle.messages.specs.Framing.{message_of}
use Rattle.protocol.specs.Tags.{Setting, Party, right}
use Rattle.protocol.specs.Messages.{Body, OfTx, OfProposal, OfVote, OfAsk, OfBundle, Message}
use Rattle.protocol.specs.State.{Node}
use Rattle.protocol.specs.Refusals.{Cause, ◌↪◌, first_cause, answering, Refusal, Unread, UnknownSender, BadTag, NotQueued, is_known, sender_causes, proposal_causes, vote_causes, ask_causes, tx_causes, tagged_tx, bundle_causes, answer}
use Rattle.protocol.specs.Answers.{cause_of}
use Rattle.protocol.specs.declared.refusal.Refusal.{Refusal as Answer}
use Rattle.protocol.specs.declared.refusal.Refusal.TheVariants.{OutOfMemory}

-- What stands against bytes with these tags that this party is said to have sent.
abbrev pub tag_causes : Setting → ℕ → Party → List ℕ → List (List ℕ) → List (Cause Refusal)
tag_causes c p sender bytes tags = (not (is_known c sender) ↪ UnknownSender) ∷ (not (right c p sender bytes tags) ↪ BadTag) ∷ []

-- the validator that is said to have sent a body; a client sends a transaction
abbrev pub validator_of : Body → Option ℕ
validator_of (OfTx t) = None
validator_of (OfProposal q) = Some q.sender
validator_of (OfVote v) = Some v.sender
validator_of (OfAsk a) = Some a.sender
validator_of (OfBundle b) = Some b.sender

-- What stands against a body with these tags in any state; a transaction's client and tags are judged where it is queued.
abbrev pub gate_causes : Setting → ℕ → Body → List (List ℕ) → List (Cause Refusal)
gate_causes c p (OfTx t) tags = []
gate_causes c p (OfProposal q) tags = sender_causes c p (OfProposal q) tags
gate_causes c p (OfVote v) tags = sender_causes c p (OfVote v) tags
gate_causes c p (OfAsk a) tags = sender_causes c p (OfAsk a) tags
gate_causes c p (OfBundle b) tags = sender_causes c p (OfBundle b) tags

-- the message, where nothing stands against it
abbrev pub let_in : Message → Option Refusal → Result Message Refusal
let_in m None = Ok m
let_in m (Some cause) = Err cause

abbrev pub judged : Setting → ℕ → Result Message Fault → Result Message Refusal
judged c p (Ok m) = let_in m (first_cause (gate_causes c p m.body m.tags))
judged c p (Err fault) = Err (Unread fault)

-- the message that validator p takes from a frame, or the first cause against it
unfoldable pub admission : Setting → ℕ → List ℕ → Result Message Refusal
admission c p frame = judged c p (message_of frame)

-- The refusal is the one that is told.
abbrev pub IsRefused : Result Message Refusal → Option Refusal → Type 0
IsRefused wanted (Some told) = wanted ≡ Err told
IsRefused wanted None = ⊥

-- What came back is that answer, unless memory ran out.
abbrev pub IsAnswer : Result Message Refusal → Result Message Answer → Type 0
IsAnswer wanted (Ok m) = wanted ≡ Ok m
IsAnswer wanted (Err OutOfMemory) = Unit {0}
IsAnswer wanted (Err e) = IsRefused wanted (cause_of e)

-- ---- what the state adds

abbrev pub state_causes : Setting → ℕ → Node → Message → Body → List (Cause Refusal)
state_causes c p n m (OfTx t) = answering NotQueued (tx_causes c p n.state.delivered n.queues (tagged_tx t m))
state_causes c p n m (OfProposal q) = proposal_causes c.powers p n.state q
state_causes c p n m (OfVote v) = vote_causes p n.state v
state_causes c p n m (OfAsk a) = ask_causes n.state a
state_causes c p n m (OfBundle b) = bundle_causes c p n.state b

-- a node's answer to a frame of which the gate thinks so
abbrev pub answer_behind : Setting → ℕ → Node → Result Message Refusal → Option Refusal
answer_behind c p n (Ok m) = first_cause (state_causes c p n m m.body)
answer_behind c p n (Err cause) = Some cause

-- What the gate refuses each state refuses so, and what it lets in only the state's causes can refuse.
abbrev pub GateLaw : Type 0
GateLaw = (c : Setting) (p : ℕ) (n : Node) (frame : List ℕ) → answer c p n frame ≡ answer_behind c p n (admission c p frame)

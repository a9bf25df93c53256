-- What a run of the world is asked to be: nobody makes a correct party's tags, and digests don't collide.
use Rattle.std.specs.Prelude.{◌≡◌, ℕ, Bool, ◌<◌, true, false, Option, Some, None, ◌⊎◌, List, [], ◌∷◌, ◌++◌, map, length, Result, Ok, Err}
use Rattle.transactions.specs.declared.fault.Fault.{Fault}
use Rattle.messages.specs.Grammar.{body_spelling}
use Rattle.messages.specs.Framing.{message_of}
use Rattle.protocol.specs.Values.{Tx, Value, Item, item, id}
use Rattle.protocol.specs.Tags.{Setting, Party, Validator, Client, right}
use Rattle.protocol.specs.Messages.{◌∈◌, precommit, Signed, Bundle, Body, OfTx, OfProposal, OfVote, OfBundle, Message, Record, Proposing, Precommitting, Own, Decided, own_body, sender_of}
use Rattle.protocol.specs.World.{World, Event, InArrival, Sends, Comes, Fires, Asks, Resends, Restarts, beginning, happens, run}

-- which validators lie, and which clients are correct
pub record Honesty : Type 0 where
  pub liars : ℕ → Bool
  pub clients : ℕ → Bool

-- what a body holds of others: the transactions of its value, and the votes that a bundle's precommits stand for
abbrev pub held_txs : Value → List Message
held_txs v = map (λ (t : Tx). record { body = OfTx (record t { tags = [] }); tags = t.tags }) v.txs

abbrev pub held_votes : Bundle → List Message
held_votes b = map (λ (s : Signed). record { body = OfVote (precommit b.height b.round s.sender (Some b.id)); tags = s.tags }) b.precommits

abbrev pub held : Body → List Message
held (OfProposal q) = held_txs q.value
held (OfBundle b) = held_votes b ++ held_txs b.value
held _ = []

-- the record of a journal that lets its validator send this body
abbrev pub IsSaved : ℕ → Body → List Record → Type 0
IsSaved p body journal = (r : Record) × (r ∈ journal) × (own_body p r ≡ Some body)

-- the body comes from its sender, where that one is correct
abbrev pub FromSender : Setting → Honesty → World → Body → Party → Type 0
FromSender c h w body (Validator i) = i < length c.powers → h.liars i ≡ false → (body ∈ w.released) ⊎ IsSaved i body (w.nodes i).journal
FromSender c h w (OfTx t) (Client i) = c.clients i ≡ true → h.clients i ≡ true → item t ∈ w.sent i
FromSender c h w _ (Client i) = Unit {0}

-- whatever of these has a right tag for p comes from its sender
abbrev pub Genuine : Setting → Honesty → World → ℕ → List Message → Type 0
Genuine c h w p ms = (m : Message) → m ∈ ms → right c p (sender_of m.body) (body_spelling m.body) m.tags ≡ true → FromSender c h w m.body (sender_of m.body)

-- the message that the bytes spell
abbrev pub MessageUnforged : Setting → Honesty → World → ℕ → Result Message Fault → Type 0
MessageUnforged c h w p (Ok m) = Genuine c h w p (m ∷ held m.body)
MessageUnforged c h w p (Err fault) = Unit {0}

abbrev pub EventUnforged : Setting → Honesty → World → Event → Type 0
EventUnforged c h w (Comes p bytes) = MessageUnforged c h w p (message_of bytes)
EventUnforged c h w (Restarts p (Some (InArrival bytes))) = MessageUnforged c h w p (message_of bytes)
EventUnforged c h w _ = Unit {0}

-- events happen at correct validators, and each is unforged
abbrev pub at_validator : Event → Option ℕ
at_validator (Sends client op) = None
at_validator (Comes p m) = Some p
at_validator (Fires p k) = Some p
at_validator (Asks p) = Some p
at_validator (Resends p) = Some p
at_validator (Restarts p cut) = Some p

abbrev pub IsCorrect : Setting → Honesty → ℕ → Type 0
IsCorrect c h p = (p < length c.powers) × (h.liars p ≡ false)

abbrev pub AtCorrect : Setting → Honesty → Option ℕ → Type 0
AtCorrect c h None = Unit {0}
AtCorrect c h (Some p) = IsCorrect c h p

abbrev pub Unforged : Setting → Honesty → World → List Event → Type 0
Unforged c h w [] = Unit {0}
Unforged c h w (e ∷ es) = AtCorrect c h (at_validator e) × EventUnforged c h w e × Unforged c h (happens c w e) es

-- a value in a record, in a message
abbrev pub RecordHas : Value → Record → Type 0
RecordHas v (Own h r (Proposing vr u)) = u ≡ v
RecordHas v (Own h r (Precommitting (Some u))) = u ≡ v
RecordHas v (Decided b) = b.value ≡ v
RecordHas v _ = ⊥

abbrev pub BodyHas : Value → Body → Type 0
BodyHas v (OfProposal q) = q.value ≡ v
BodyHas v (OfBundle b) = b.value ≡ v
BodyHas v _ = ⊥

abbrev pub MessageHas : Value → Result Message Fault → Type 0
MessageHas v (Ok m) = BodyHas v m.body
MessageHas v (Err fault) = ⊥

abbrev pub EventHas : Value → Event → Type 0
EventHas v (Comes p bytes) = MessageHas v (message_of bytes)
EventHas v _ = ⊥

-- a value of the run's messages or journals
abbrev pub Occurs : Setting → Honesty → List Event → Value → Type 0
Occurs c h es v = ((e : Event) × (e ∈ es) × EventHas v e) ⊎ ((p : ℕ) × IsCorrect c h p × ((r : Record) × (r ∈ ((run c (beginning c) es).nodes p).journal) × RecordHas v r))

-- values with one id are one
abbrev pub Distinct : Setting → Honesty → List Event → Type 0
Distinct c h es = (v u : Value) → Occurs c h es v → Occurs c h es u → id v ≡ id u → v ≡ u

abbrev pub Begins : List Item → List Item → Type 0
Begins a b = (rest : List Item) × (a ++ rest ≡ b)

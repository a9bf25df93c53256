-- What a judge's list says of the items that a validator delivers.
use Rattle.std.specs.Prelude.{◌≡◌, ℕ, ◌+◌, ◌<◌, ◌==◌, ◌&&◌, Bool, true, if◌then◌else◌, List, length, drop, Some, MatchOption, slice_get}
use Rattle.std.specs.Option.{option_map}
use Rattle.transactions.specs.declared.tx.Tx.{Tx}
use Rattle.transactions.specs.declared.tx.Op.{Op}
use Rattle.protocol.specs.Values.{is_close}
use Rattle.cluster_checks.specs.declared.kinds.TxName.{TxName}
use Rattle.cluster_checks.specs.declared.failure.Failure.{Failure}
use Rattle.cluster_checks.specs.declared.failure.Failure.TheVariants.{Disagreement}
use Rattle.cluster_checks.specs.declared.judge.Delivered.{Delivered}
use Rattle.cluster_checks.specs.declared.judge.Sender.{Sender}

abbrev pub name_of : Tx → TxName
name_of tx = record { client = tx.client; session = tx.session; number = tx.number }

-- the item that a transaction is in the list
abbrev pub item_of : Tx → Delivered
item_of tx = record { name = name_of tx; op = tx.op }

-- each item stays at its place
abbrev pub Keeps : List Delivered → List Delivered → Type 0
Keeps list longer = (k : ℕ) (item : Delivered) → slice_get list k ≡ Some item → slice_get longer k ≡ Some item

-- from this place on the list has the items of these transactions
abbrev pub Has : List Delivered → ℕ → List Tx → Type 0
Has list place txs = (k : ℕ) → k < length txs → slice_get list (place + k) ≡ option_map item_of (slice_get txs k)

-- the next name in a client's order: its numbers from one, and another session only behind a close
abbrev pub follows : Sender → TxName → Bool
follows sender name =
    if sender.is_closed then (name.number == 1) && (name.session == sender.session + 1) else (name.session == sender.session) && (name.number == sender.number + 1)

-- a client that is correct sent this next
abbrev pub HasSent : Sender → Delivered → Type 0
HasSent sender item = sender.is_correct ≡ true → slice_get sender.sent.items 0 ≡ Some item

-- what a client sent and isn't delivered, once the next of it is: of a Byzantine client that isn't known
abbrev pub left_after : Sender → List Delivered
left_after sender = if sender.is_correct then drop 1 sender.sent.items else sender.sent.items

-- a client's place in its order is behind this item
abbrev pub StandsAt : TxName → Op → Sender → Type 0
StandsAt name op sender = (sender.session ≡ name.session) × (sender.number ≡ name.number) × (sender.is_closed ≡ is_close op)

-- a transaction is its client's next, which it sent if it is correct
abbrev pub IsNext : List Sender → Tx → Type 0
IsNext senders tx = MatchOption (slice_get senders tx.client) ⊥ (λ sender. (follows sender (name_of tx) ≡ true) × HasSent sender (item_of tx))

-- what is told as a disagreement is one: the list has no such item at this place
abbrev pub IsDeserved : List Delivered → ℕ → Tx → Failure → Type 0
IsDeserved list place tx (Disagreement _ _ _) = ¬ (slice_get list place ≡ Some (item_of tx))
IsDeserved list place tx _ = Unit {0}

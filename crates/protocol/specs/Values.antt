-- Values, their ids, and the clients' order.
use Rattle.std.specs.Prelude.{ℕ, suc, Bool, true, false, cond, ◌&&◌, List, [], ◌∷◌, ◌++◌, map, filter, length, nat_le, ◌==◌}
use Rattle.std.specs.List.{list_all}
use Rattle.sha2.specs.Sha256.{sha256}
use Rattle.transactions.specs.Grammar.{value_spelling}
pub use Rattle.transactions.specs.declared.tx.Op.{Op}
pub use Rattle.transactions.specs.declared.tx.Op.TheVariants.{Bytes, Close}
pub use Rattle.transactions.specs.declared.tx.Tx.{Tx}
pub use Rattle.transactions.specs.declared.tx.Value.{Value}
pub use Rattle.transactions.specs.declared.tx.Item.{Item}
pub use Rattle.protocol.specs.declared.standing.Standing.{Standing}
pub use Rattle.transactions.specs.Equality.{lists_eq, op_eq, tx_eq, value_eq}

abbrev pub Id : Type 0
Id = List ℕ

-- what is delivered of a transaction
abbrev pub item : Tx → Item
item t = record { client = t.client; session = t.session; number = t.number; op = t.op }

abbrev pub items : Value → List Item
items v = map item v.txs

-- the digest of the spelling
unfoldable pub id : Value → Id
id v = sha256 (value_spelling v)

-- ---- clients' order

-- the items of a client
abbrev pub of : ℕ → List Item → List Item
of client d = filter (λ t. t.client == client) d

abbrev pub is_close : Op → Bool
is_close Close = true
is_close (Bytes b) = false

-- a client of which there is nothing
abbrev pub fresh : Standing
fresh = record { session = 0; last = 0; closed = false }

-- where a client stands after its item
abbrev pub left_by : Item → Standing
left_by t = record { session = t.session; last = t.number; closed = is_close t.op }

-- The next item of a client that stands there is of this session and has this number: the session's numbers go on, or, after its close, the next session's begin.
abbrev pub session_wanted : Standing → ℕ
session_wanted s = cond s.closed (suc s.session) s.session

abbrev pub number_wanted : Standing → ℕ
number_wanted s = cond s.closed 1 (suc s.last)

abbrev pub fits : Standing → Item → Bool
fits s t = (t.session == session_wanted s) && (t.number == number_wanted s)

-- each item is the next after those before it
abbrev pub in_turn : Standing → List Item → Bool
in_turn s [] = true
in_turn s (t ∷ ts) = fits s t && in_turn (left_by t) ts

-- where the client then stands
abbrev pub left_after : Standing → List Item → Standing
left_after s [] = s
left_after s (t ∷ ts) = left_after (left_by t) ts

-- Every client's sessions are 0, 1, .., each standing together with the numbers 1, 2, ..; its close is its last, and each but the last has one.
unfoldable pub fifo : List Item → Bool
fifo d = list_all (λ t. in_turn fresh (of t.client d)) d

-- at most 256 transactions, and 500,000 bytes
abbrev pub keeps_limits : Value → Bool
keeps_limits v = nat_le (length v.txs) 256 && nat_le (length (value_spelling v)) 500000

-- After this delivered list the value keeps the clients' order, and its limits.
unfoldable pub valid : List Item → Value → Bool
valid d v = fifo (d ++ items v) && keeps_limits v

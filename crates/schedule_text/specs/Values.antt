-- What items and value lines stand for.
use Rattle.std.specs.Prelude.{ℕ, Result, Ok, Err, List, map}
use Rattle.transactions.specs.declared.fault.Fault.{Fault}
use Rattle.transactions.specs.Checking.{tx_body_len}
use Rattle.protocol.specs.Values.{Tx, Value}
use Rattle.world_parties.specs.declared.lines.Tagged.{Tagged}
use Rattle.world_parties.specs.Sending.{bare_tx, submitted}

-- with the tags that it is sent with, or without any, by whether it has a length
abbrev pub tx_where : Result ℕ Fault → ℕ → Tagged → Tx
tx_where (Ok len) validators line = record (bare_tx line) { tags = (submitted validators line).tags }
tx_where (Err fault) validators line = bare_tx line

-- the transaction of an item; one that has no spelling has no tags
abbrev pub tx_of : ℕ → Tagged → Tx
tx_of validators line = tx_where (tx_body_len (bare_tx line)) validators line

abbrev pub value_of : ℕ → List Tagged → Value
value_of validators lines = record { txs = map (tx_of validators) lines }

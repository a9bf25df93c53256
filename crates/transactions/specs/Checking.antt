-- The length of a spelling, or the first fault, in the order of the fields.
use Rattle.std.specs.Prelude.{ℕ, zero, suc, ◌+◌, ◌*◌, ◌^◌, List, [], ◌∷◌, length, ◌&&◌, Result, Ok, nat_le}
use Rattle.sha2.specs.Sha256.{sha256}
use Rattle.transactions.specs.declared.fault.Fault.{Fault}
use Rattle.transactions.specs.declared.fault.Fault.TheVariants.{TooLong, BadSpelling}
use Rattle.transactions.specs.declared.tx.Op.{Op}
use Rattle.transactions.specs.declared.tx.Op.TheVariants.{Bytes, Close}
use Rattle.transactions.specs.declared.tx.Tx.{Tx}
use Rattle.transactions.specs.declared.tx.Value.{Value}
use Rattle.transactions.specs.Fields.{◌>>=◌, ◌>>◌, ask}
use Rattle.transactions.specs.Grammar.{tx_spelling, value_spelling}

unfoldable pub op_len : Op → Result ℕ Fault
op_len (Bytes contents) = do
  ask (nat_le (length contents) 1024) TooLong
  Ok (3 + length contents)
op_len Close = Ok 1

-- nothing for a client's first session
abbrev pub session_len : ℕ → ℕ
session_len zero = 0
session_len (suc before) = 4

unfoldable pub tx_body_len : Tx → Result ℕ Fault
tx_body_len tx = do
  ask (nat_le tx.client 1023) BadSpelling
  ask (nat_le 1 tx.number && nat_le tx.number (2 ^ 48)) BadSpelling
  op ← op_len tx.op
  Ok (11 + session_len tx.session + op)

unfoldable pub tags_len : List (List ℕ) → Result ℕ Fault
tags_len tags = do
  ask (nat_le (length tags) 128) TooLong
  ask (nat_le 1 (length tags)) BadSpelling
  Ok (1 + 32 * length tags)

unfoldable pub tx_len : Tx → Result ℕ Fault
tx_len tx = do
  body ← tx_body_len tx
  tags ← tags_len tx.tags
  Ok (body + tags)

unfoldable pub txs_len : ℕ → List Tx → Result ℕ Fault
txs_len so_far [] = Ok so_far
txs_len so_far (tx ∷ txs) = do
  len ← tx_len tx
  ask (nat_le (so_far + len) 500000) TooLong
  txs_len (so_far + len) txs

unfoldable pub value_len : Value → Result ℕ Fault
value_len value = do
  ask (nat_le (length value.txs) 256) TooLong
  txs_len 2 value.txs

-- the spelling, or the first fault
unfoldable pub tx_spelled : Tx → Result (List ℕ) Fault
tx_spelled tx = do
  len ← tx_len tx
  Ok (tx_spelling tx)

unfoldable pub value_spelled : Value → Result (List ℕ) Fault
value_spelled value = do
  len ← value_len value
  Ok (value_spelling value)

-- the digest of the spelling
unfoldable pub value_named : Value → Result (List ℕ) Fault
value_named value = do
  bytes ← value_spelled value
  Ok (sha256 bytes)

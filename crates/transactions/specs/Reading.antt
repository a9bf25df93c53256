-- Reading transactions and values, field by field.
use Rattle.std.specs.Prelude.{ℕ, zero, suc, ◌-◌, ◌^◌, List, [], length, Bool, true, false, Result, Ok, Err, nat_le}
use Rattle.transactions.specs.declared.fault.Fault.{Fault}
use Rattle.transactions.specs.declared.fault.Fault.TheVariants.{BadSpelling}
use Rattle.transactions.specs.declared.tx.Op.{Op}
use Rattle.transactions.specs.declared.tx.Op.TheVariants.{Bytes, Close}
use Rattle.transactions.specs.declared.tx.Tx.{Tx}
use Rattle.transactions.specs.declared.tx.Value.{Value}
use Rattle.transactions.specs.Fields.{◌>>=◌, Read, byte_at, number_at, ranged, limited, bytes_at, repeat, whole}

unfoldable pub data_at : List ℕ → Read (List ℕ)
data_at bytes = do
  count ← limited 1024 (number_at 2 bytes)
  bytes_at count.0 count.1

unfoldable pub op_after : ℕ → List ℕ → Read Op
op_after zero bytes = do
  contents ← data_at bytes
  Ok (Bytes contents.0, contents.1)
op_after (suc zero) bytes = Ok (Close, bytes)
op_after (suc (suc n)) bytes = Err BadSpelling

unfoldable pub op_at : List ℕ → Read Op
op_at bytes = do
  kind ← byte_at bytes
  op_after kind.0 kind.1

abbrev pub client_at : List ℕ → Read ℕ
client_at bytes = ranged 0 1023 (number_at 2 bytes)

abbrev pub tx_number_at : List ℕ → Read ℕ
tx_number_at bytes = ranged 1 (2 ^ 48) (number_at 8 bytes)

-- of a transaction of a later session it is told; the first is 0
abbrev pub session_at : Bool → List ℕ → Read ℕ
session_at false bytes = Ok (0, bytes)
session_at true bytes = ranged 1 4294967295 (number_at 4 bytes)

-- a transaction without its tags, behind its kind, by which it is of a later session or not
unfoldable pub tx_fields_at : Bool → List ℕ → Read Tx
tx_fields_at later bytes = do
  client ← client_at bytes
  session ← session_at later client.1
  number ← tx_number_at session.1
  op ← op_at number.1
  Ok (record { client = client.0; session = session.0; number = number.0; op = op.0; tags = [] }, op.1)

abbrev pub kind_after : ℕ → List ℕ → Read Bool
kind_after (suc zero) bytes = Ok (false, bytes)
kind_after (suc (suc zero)) bytes = Ok (true, bytes)
kind_after _ bytes = Err BadSpelling

-- whether a transaction is of a later session
unfoldable pub tx_kind_at : List ℕ → Read Bool
tx_kind_at bytes = do
  kind ← byte_at bytes
  kind_after kind.0 kind.1

-- a transaction without its tags
unfoldable pub tx_body_at : List ℕ → Read Tx
tx_body_at bytes = do
  later ← tx_kind_at bytes
  tx_fields_at later.0 later.1

unfoldable pub tag_count_at : List ℕ → Read ℕ
tag_count_at bytes = ranged 1 128 (limited 128 (byte_at bytes))

unfoldable pub tags_at : List ℕ → Read (List (List ℕ))
tags_at bytes = do
  count ← tag_count_at bytes
  repeat (bytes_at 32) (λ _. true) count.0 count.1

unfoldable pub tx_at : List ℕ → Read Tx
tx_at bytes = do
  body ← tx_body_at bytes
  tags ← tags_at body.1
  Ok (record { client = body.0.client; session = body.0.session; number = body.0.number; op = body.0.op; tags = tags.0 }, tags.1)

-- Of this many bytes with this rest, no more were read than a value may have.
abbrev pub is_within : ℕ → List ℕ → Bool
is_within len rest = nat_le (len - length rest) 500000

-- Too long is told after the transaction that passes the limit.
unfoldable pub value_at : List ℕ → Read Value
value_at bytes = do
  count ← limited 256 (number_at 2 bytes)
  txs ← repeat tx_at (is_within (length bytes)) count.0 count.1
  Ok (record { txs = txs.0 }, txs.1)

abbrev pub tx_of : List ℕ → Result Tx Fault
tx_of bytes = whole (tx_at bytes)

abbrev pub value_of : List ℕ → Result Value Fault
value_of bytes = whole (value_at bytes)

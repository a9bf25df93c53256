-- The one spelling of each transaction and value, and which have one.
use Rattle.std.specs.Prelude.{◌≡◌, ℕ, zero, suc, Bool, true, false, ◌<◌, ◌≤◌, ◌^◌, List, [], ◌∷◌, ◌++◌, length}
use Rattle.std.specs.List.{flat_map, AllByRecursion}
use Rattle.transactions.specs.Fields.{number_bytes}
use Rattle.transactions.specs.declared.tx.Op.{Op}
use Rattle.transactions.specs.declared.tx.Op.TheVariants.{Bytes, Close}
use Rattle.transactions.specs.declared.tx.Tx.{Tx}
use Rattle.transactions.specs.declared.tx.Value.{Value}

-- ---- spellings

abbrev pub op_spelling : Op → List ℕ
op_spelling (Bytes data_bytes) = 0 ∷ (number_bytes 2 (length data_bytes) ++ data_bytes)
op_spelling Close = 1 ∷ []

-- whether it is a session after a client's first
abbrev pub is_later : ℕ → Bool
is_later zero = false
is_later (suc before) = true

-- 01 within a client's first session, and 02 after it
abbrev pub kind_byte : Bool → ℕ
kind_byte false = 1
kind_byte true = 2

abbrev pub tx_kind : Tx → ℕ
tx_kind tx = kind_byte (is_later tx.session)

-- nothing for a client's first session
abbrev pub session_spelling : ℕ → List ℕ
session_spelling zero = []
session_spelling (suc before) = number_bytes 4 (suc before)

-- what stands behind the kind
unfoldable pub tx_fields_spelling : Tx → List ℕ
tx_fields_spelling tx = number_bytes 2 tx.client ++ (session_spelling tx.session ++ (number_bytes 8 tx.number ++ op_spelling tx.op))

abbrev pub tx_body_spelling : Tx → List ℕ
tx_body_spelling tx = tx_kind tx ∷ tx_fields_spelling tx

unfoldable pub tags_spelling : List (List ℕ) → List ℕ
tags_spelling tags = length tags ∷ flat_map (λ tag. tag) tags

unfoldable pub tx_spelling : Tx → List ℕ
tx_spelling tx = tx_body_spelling tx ++ tags_spelling tx.tags

unfoldable pub value_spelling : Value → List ℕ
value_spelling value = number_bytes 2 (length value.txs) ++ flat_map tx_spelling value.txs

-- ---- what has a spelling

abbrev pub IsOp : Op → Type 0
IsOp (Bytes data_bytes) = length data_bytes ≤ 1024
IsOp Close = Unit {0}

pub record AreTags (tags : List (List ℕ)) : Type 0 where
  pub some : 1 ≤ length tags
  pub few : length tags ≤ 128
  pub each : AllByRecursion (λ tag. length tag ≡ 32) tags

pub record IsTxBody (tx : Tx) : Type 0 where
  pub client : tx.client ≤ 1023
  pub session : tx.session < 2 ^ 32
  pub first : 1 ≤ tx.number
  pub last : tx.number ≤ 2 ^ 48
  pub op : IsOp tx.op

pub record IsTx (tx : Tx) : Type 0 where
  pub body : IsTxBody tx
  pub tags : AreTags tx.tags

pub record IsValue (value : Value) : Type 0 where
  pub few : length value.txs ≤ 256
  pub each : AllByRecursion IsTx value.txs
  pub short : length (value_spelling value) ≤ 500000

-- ---- the grammar: which bytes spell what

pub record SpellsTx (bytes : List ℕ) (tx : Tx) : Type 0 where
  pub lawful : IsTx tx
  pub same : bytes ≡ tx_spelling tx

pub record SpellsValue (bytes : List ℕ) (value : Value) : Type 0 where
  pub lawful : IsValue value
  pub same : bytes ≡ value_spelling value

-- Who has which keys, and which tags are right.
use Rattle.std.specs.Prelude.{ℕ, Bool, ◌&&◌, List, length}
use Rattle.std.specs.List.{list_all}
use Rattle.transactions.specs.Grammar.{tx_body_spelling}
use Rattle.protocol.specs.Values.{Tx, Value}
pub use Rattle.authenticators.specs.declared.party.Party.{Party}
pub use Rattle.authenticators.specs.declared.party.Party.TheVariants.{Validator, Client}
pub use Rattle.authenticators.specs.Tags.{padded, hmac, is_right}

-- the validators' powers, the clients that have keys, and the key of each sender and receiver
pub record Setting : Type 0 where
  pub powers : List ℕ
  pub clients : ℕ → Bool
  pub key : Party → ℕ → List ℕ

-- there are n tags, and p's is right
unfoldable pub right : Setting → ℕ → Party → List ℕ → List (List ℕ) → Bool
right c p sender body tags = is_right (length c.powers) (c.key sender p) p body tags

-- the client has keys, and the transaction's tag for p is right
unfoldable pub tx_is_right : Setting → ℕ → Tx → Bool
tx_is_right c p t = c.clients t.client && right c p (Client t.client) (tx_body_spelling t) t.tags

-- all tags for p of the value's transactions are right
unfoldable pub genuine : Setting → ℕ → Value → Bool
genuine c p v = list_all (tx_is_right c p) v.txs

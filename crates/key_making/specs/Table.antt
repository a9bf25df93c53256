-- The keys of all parties.
use Rattle.std.specs.Prelude.{◌≡◌, ℕ, ◌+◌, ◌*◌, ◌<◌, ◌≤◌, List, All, length, replicate, slice_index_or}
use Rattle.hex.specs.Hex.{IsBytes}
use Rattle.authenticators.specs.declared.party.Party.{Party}
use Rattle.authenticators.specs.declared.party.Party.TheVariants.{Validator, Client}

-- How many validators and clients there are, and the keys: a row for each sender, the validators before the clients, with a key for each validator that receives.
pub record Table : Type 0 where
  pub validators : ℕ
  pub clients : ℕ
  pub keys : List (List ℕ)

-- the row of a sender
abbrev pub row_of : Table → Party → ℕ
row_of table (Validator number) = number
row_of table (Client number) = table.validators + number

-- the key of what a party sends to a validator; zeros, where there is no such party
unfoldable pub key_of : Table → Party → ℕ → List ℕ
key_of table from to = slice_index_or table.keys (row_of table from * table.validators + to) (replicate 32 0)

-- the number is one of the table's validators or clients
abbrev pub IsParty : Table → Party → Type 0
IsParty table (Validator number) = number < table.validators
IsParty table (Client number) = number < table.clients

-- 32 bytes
abbrev pub IsKey : List ℕ → Type 0
IsKey key = (length key ≡ 32) × IsBytes key

-- what every table keeps
pub record IsTable (table : Table) : Type 0 where
  pub few_validators : table.validators ≤ 128
  pub few_clients : table.clients ≤ 1024
  pub whole : length table.keys ≡ (table.validators + table.clients) * table.validators
  pub keys : All IsKey table.keys

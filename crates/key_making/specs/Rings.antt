-- What the key files of a table give their parties.
use Rattle.std.specs.Prelude.{◌≡◌, ℕ, ◌<◌, List, length, map, nat_lt, Result, Ok, Err}
use Rattle.authenticators.specs.Keys.{ring_of}
use Rattle.authenticators.specs.Ring.{Ring, incoming, outgoing}
use Rattle.authenticators.specs.declared.fault.KeysFault.{KeysFault}
use Rattle.protocol.specs.Tags.{Setting, Party, Validator, Client}
use Rattle.protocol.specs.Messages.{below}
use Rattle.protocol.specs.Rings.{IsRingOf}
use Rattle.key_making.specs.Table.{Table, key_of, IsParty}

-- validators with these powers, and the clients, under the table's keys
abbrev pub setting : Table → List ℕ → Setting
setting table powers = record { powers = powers; clients = λ client. nat_lt client table.clients; key = key_of table }

-- the keys of what this client sends
pub record IsClientRing (table : Table) (client : ℕ) (ring : Ring) : Type 0 where
  pub me : ring.me ≡ Client client
  pub count : ring.count ≡ table.validators
  pub to_validators : ring.to_validators ≡ map (key_of table (Client client)) (below table.validators)

-- the keys that the party has by the table
abbrev pub IsRing : Table → Party → Ring → Type 0
IsRing table (Validator me) ring = (powers : List ℕ) → length powers ≡ table.validators → IsRingOf (setting table powers) me ring
IsRing table (Client client) ring = IsClientRing table client ring

-- a ring is read, and has these keys
abbrev pub ReadsAs : (Ring → Type 0) → Result Ring KeysFault → Type 0
ReadsAs has (Ok ring) = has ring
ReadsAs has (Err fault) = ⊥

-- the text is the key file of this party: its reader gets just the keys that it has by the table
abbrev pub IsFileOf : Table → Party → List ℕ → Type 0
IsFileOf table party text = ReadsAs (IsRing table party) (ring_of party table.validators text)

-- ---- law

-- A sender and a receiver hold the same key.
abbrev pub SharedLaw : Type 0
SharedLaw = (table : Table) (from : Party) (to : ℕ) (sender receiver : Ring) → IsParty table from → to < table.validators
    → IsRing table from sender → IsRing table (Validator to) receiver → outgoing sender to ≡ incoming receiver from

-- The keys of a table, and its key files.
use Rattle.std.proofs.Common.{◌≡◌, ℕ, zero, suc, ◌<◌, ◌+◌, ◌*◌, List, length, map, Result, Ok, Err, inl, inr, refl, arith}
use Rattle.std.specs.Prelude.{replicate}
use Rattle.std.proofs.lemmas.Bool.{cases_lt}
use Rattle.std.proofs.lemmas.List.{get_or_past}
use Rattle.hex.specs.Hex.{IsBytes}
use Rattle.authenticators.specs.Keys.{ring_of}
use Rattle.authenticators.specs.Ring.{Ring}
use Rattle.authenticators.specs.declared.fault.KeysFault.{KeysFault}
use Rattle.protocol.specs.Tags.{Party, Validator, Client}
use Rattle.protocol.specs.Messages.{below}
use Rattle.key_making.specs.Table.{Table, IsTable, IsKey, key_of, row_of}
use Rattle.key_making.specs.KeyFile.{validator_file, client_file}
use Rattle.key_making.specs.Rings.{ReadsAs, IsRing, IsFileOf}
use Rattle.key_making.proofs.Rings.{validator_reads, client_reads}

zeros : (n : ℕ) → IsBytes (replicate n 0)
zeros zero i = omega arith
zeros (suc n) zero = omega arith
zeros (suc n) (suc i) = zeros n i

is_key : (table : Table) → IsTable table → (from : Party) (to : ℕ) → IsKey (key_of table from to)
unfolding key_of
is_key table h from to =
    let place = row_of table from * table.validators + to in
    elim (cases_lt place (length table.keys)) [
      | inl within ↦ h.keys place (replicate 32 0) within
      | inr past ↦ rw (get_or_past table.keys place (replicate 32 0) past) (refl, zeros 32)
    ]

-- the text of a validator's file
pub validator_right : (table : Table) (me : ℕ) (text : List ℕ) → IsTable table → me < table.validators → text ≡ validator_file (key_of table) me table.validators table.clients
    → IsFileOf table (Validator me) text
validator_right table me text h within e =
    rw e (validator_reads (key_of table) (is_key table h) me table.validators table.clients within (omega (arith, h.few_validators)) h.few_clients)

as_ring : (table : Table) (client : ℕ) (answer : Result Ring KeysFault)
    → ReadsAs (λ ring. (ring.me ≡ Client client) × (ring.count ≡ table.validators) × (ring.to_validators ≡ map (key_of table (Client client)) (below table.validators))) answer
    → ReadsAs (IsRing table (Client client)) answer
as_ring table client (Ok ring) h = record { me = h.0; count = h.1; to_validators = h.2 }
as_ring table client (Err fault) h = h

-- and of a client's
pub client_right : (table : Table) (client : ℕ) (text : List ℕ) → IsTable table → client < table.clients → text ≡ client_file (key_of table) client table.validators
    → IsFileOf table (Client client) text
client_right table client text h within e =
    let reads = client_reads (key_of table) (is_key table h) client table.validators (omega (arith, h.few_clients)) (omega (arith, h.few_validators)) in
    rw e (as_ring table client (ring_of (Client client) table.validators (client_file (key_of table) client table.validators)) reads)

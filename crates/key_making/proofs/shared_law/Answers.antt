use Rattle.std.proofs.Common.{◌≡◌, ℕ, ◌<◌, true, List, Some, None, length, map, cond, sym, ap, ◌∙◌, lt-ltb}
use Rattle.std.specs.Prelude.{replicate, nat_lt}
use Rattle.std.proofs.lemmas.List.{length-replicate}
use Rattle.authenticators.specs.Ring.{Ring, incoming, outgoing}
use Rattle.protocol.specs.Tags.{Party, Validator, Client}
use Rattle.protocol.specs.Messages.{below}
use Rattle.key_making.specs.Table.{Table, key_of, IsParty}
use Rattle.key_making.specs.Rings.{IsRing}
use Rattle.key_making.proofs.KeyFiles.{below_at}
use Rattle.key_making.proofs.shared_law.Goals as goal

same : (table : Table) (from : Party) (to : ℕ) (sender receiver : Ring) → IsParty table from → to < table.validators
    → IsRing table from sender → IsRing table (Validator to) receiver → outgoing sender to ≡ incoming receiver from
same table (Validator i) to sender receiver within less s r =
    let powers : List ℕ = replicate table.validators 1 in
    let count : length powers ≡ table.validators = length-replicate table.validators 1 in
    let sends : sender.to_validators ≡ map (key_of table (Validator i)) (below table.validators) = rw count at (s powers count).to_validators in
    let found : outgoing sender to ≡ Some (key_of table (Validator i) to) = rw sends (below_at (key_of table (Validator i)) table.validators to less) in
    found ∙ sym ((r powers count).from_validators i (rw count within))
same table (Client i) to sender receiver within less s r =
    let powers : List ℕ = replicate table.validators 1 in
    let count : length powers ≡ table.validators = length-replicate table.validators 1 in
    let known : nat_lt i table.clients ≡ true = lt-ltb i table.clients within in
    let found : outgoing sender to ≡ Some (key_of table (Client i) to) = rw s.to_validators (below_at (key_of table (Client i)) table.validators to less) in
    let received : incoming receiver (Client i) ≡ Some (key_of table (Client i) to) = (r powers count).from_clients i ∙ ap (λ b. cond b (Some (key_of table (Client i) to)) None) known in
    found ∙ sym received

pub returns : goal.returns
returns c = same

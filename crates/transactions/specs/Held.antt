-- Where the bytes of a transaction stand.
use Rattle.std.specs.Prelude.{ℕ, List, take}
use Rattle.transactions.specs.declared.data.Held.{Held}
use Rattle.transactions.specs.declared.data.Held.TheVariants.{Short, Long}

abbrev pub bytes_in : Held → List ℕ
bytes_in (Short len bytes) = take len bytes
bytes_in (Long bytes) = bytes.items

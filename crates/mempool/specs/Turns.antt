-- Taking transactions of several queues in turn, as far as a value goes.
use Rattle.std.specs.Prelude.{List, length}
use Rattle.std.specs.List.{flat_map}
use Rattle.protocol.specs.Values.{Tx}
use Rattle.protocol.specs.Queues.{turns, longest}

-- one transaction of each queue in turn, again and again, until nothing is left
unfoldable pub in_turn : List (List Tx) → List Tx
in_turn queues = turns (length (flat_map (λ (queue : List Tx). queue) queues)) queues

-- the longest beginning that a value may have
unfoldable pub fitting : List Tx → List Tx
fitting txs = longest 256 txs

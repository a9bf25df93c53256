use Rattle.std.proofs.Common.{◌≡◌, ◌++◌, take, map}
use Rattle.protocol.specs.Values.{item}
use Rattle.world_schedule.proofs.ending.put_items.Given as goal

abbrev pub invariant-loop-tx : goal.invariant-loop-tx
invariant-loop-tx l = l.items.items ≡ l.initial.items.items ++ map item (take l.tx-index l.txs)

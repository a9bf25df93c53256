use Rattle.std.proofs.Common.{◌≡◌, map, take}
use Rattle.mempool.proofs.picking.copy_each.Given as goal

abbrev pub invariant-loop-tx : goal.invariant-loop-tx
invariant-loop-tx l = l.copies.items ≡ map (λ tx. tx.now) (take l.tx-index l.txs)

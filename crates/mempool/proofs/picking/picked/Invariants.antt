use Rattle.std.proofs.Common.{◌≡◌, ◌++◌, ◌≤◌, map, length}
use Rattle.mempool.proofs.Sizes.{size}
use Rattle.mempool.proofs.picking.picked.Given as goal

-- those taken fit in a value of this length, and the others are still to come
abbrev pub invariant-loop-tx : goal.invariant-loop-tx
invariant-loop-tx l = record {
  all : l.fn.turns ≡ map (λ tx. tx.now) l.txs.items ++ l.tx-iterator;
  len : l.len ≡ size (map (λ tx. tx.now) l.txs.items);
  short : l.len ≤ 500000;
  few : length l.txs.items ≤ 256;
}

use Rattle.std.proofs.Common.{◌≡◌, ◌≤◌, false, length, sym, ◌∙◌}
use Rattle.std.proofs.lemmas.List.{take_all}
use Rattle.std.proofs.lemmas.List.Folds.{list_all_at}
use Rattle.protocol.specs.Tags.{genuine, tx_is_right}
use Rattle.mempool.proofs.Mempool.is_genuine.Goals as goal

pub returns-then-not-is_right : goal.returns-then-not-is_right
unfolding genuine
returns-then-not-is_right c = λ s p h q.
    let wrong : tx_is_right s p c.tx-item.result ≡ false = sym (c.is_right.ensures s p h q) ∙ c.if-not-is_right.true in
    sym (list_all_at (tx_is_right s p) c.args.value.now.txs c.loop-tx.tx-index c.tx-item.result (rw (← c.as_slice-tx-items.ensures) c.loop-tx-test.true) (rw (← c.as_slice-tx-items.ensures, ← c.tx-item.is) wrong))

pub returns : goal.returns
unfolding genuine
returns c = λ s p h q.
    let past : length c.args.value.now.txs ≤ c.loop-tx.tx-index = rw (← c.as_slice-tx-items.ensures) c.loop-tx-test.false in
    sym (rw (take_all c.loop-tx.tx-index c.args.value.now.txs past) at (c.loop-tx.invariant s p h q))

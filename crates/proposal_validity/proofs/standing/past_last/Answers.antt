use Rattle.std.proofs.Common.{◌<◌, ◌≤◌, length, arith}
use Rattle.std.proofs.lemmas.List.{take_all}
use Rattle.std.proofs.lemmas.List.Elements.{All-more}
use Rattle.protocol.specs.Values.{Tx}
use Rattle.proposal_validity.proofs.standing.past_last.Goals as goal

pub loop-tx-preserved : goal.loop-tx-preserved
loop-tx-preserved c = All-more (λ (tx : Tx). tx.client < c.max-len.result) c.args.txs.now c.loop-tx.tx-index c.tx-item.result c.loop-tx-test.true
    (λ k d h. omega (arith, c.loop-tx.invariant k d h, c.max-len.ensures)) (rw (← c.tx-item.is) (omega (arith, c.max-len.ensures)))

pub returns : goal.returns
returns c = let le : length c.args.txs.now ≤ c.loop-tx.tx-index = c.loop-tx-test.false in rw (take_all c.loop-tx.tx-index c.args.txs.now le) at c.loop-tx.invariant

use Rattle.std.proofs.Common.{◌≤◌, length, arith}
use Rattle.std.proofs.lemmas.List.{take_all}
use Rattle.std.proofs.lemmas.List.Elements.{All-more, recursion_from_All}
use Rattle.std.proofs.lemmas.Result.{err_from_is_err_and}
use Rattle.transactions.specs.Grammar.{IsTx}
use Rattle.transactions.specs.Checking.{txs_len}
use Rattle.transactions.proofs.Lengths.{txs_fail, txs_long, txs_more, txs_done}
use Rattle.transactions.proofs.writing.len_of_txs.Goals as goal

pub returns-in_err-len-clause-len : goal.returns-in_err-len-clause-len
returns-in_err-len-clause-len c =
    let p = err_from_is_err_and c.from_residual.result c.from_residual.ensures.1 in
    rw (p.1, p.2) (txs_fail c.loop-tx.total c.loop-tx.tx-index c.args.txs.now c.tx-item.result (txs_len 2 c.args.txs.now) c.loop-tx-test.true c.tx-item.is c.loop-tx.invariant.rest c.in_err-len.field-0.0 c.in_err-len.ensures.len)

pub returns-then-total-len-gt-MOST_VALUE_BYTES-clause-len : goal.returns-then-total-len-gt-MOST_VALUE_BYTES-clause-len
returns-then-total-len-gt-MOST_VALUE_BYTES-clause-len c = txs_long c.loop-tx.total c.loop-tx.tx-index c.args.txs.now c.tx-item.result (txs_len 2 c.args.txs.now) c.loop-tx-test.true c.tx-item.is c.loop-tx.invariant.rest c.in_ok-len.len c.in_ok-len.ensures.len (omega arith)

pub loop-tx-preserved : goal.loop-tx-preserved
loop-tx-preserved c = record {
  rest = txs_more c.loop-tx.total c.loop-tx.tx-index c.args.txs.now c.tx-item.result (txs_len 2 c.args.txs.now) c.loop-tx-test.true c.tx-item.is c.loop-tx.invariant.rest c.in_ok-len.len c.in_ok-len.ensures.len (omega arith);
  small = omega arith;
  fit = All-more IsTx c.args.txs.now c.loop-tx.tx-index c.tx-item.result c.loop-tx-test.true c.loop-tx.invariant.fit (rw (← c.tx-item.is) c.in_ok-len.ensures.fits);
}

pub returns-clause-len : goal.returns-clause-len
returns-clause-len c = txs_done c.loop-tx.total c.loop-tx.tx-index c.args.txs.now (txs_len 2 c.args.txs.now) c.loop-tx-test.false c.loop-tx.invariant.rest

pub returns-clause-fits : goal.returns-clause-fits
returns-clause-fits c = let le : length c.args.txs.now ≤ c.loop-tx.tx-index = c.loop-tx-test.false in recursion_from_All IsTx c.args.txs.now (rw (take_all c.loop-tx.tx-index c.args.txs.now le) at c.loop-tx.invariant.fit)

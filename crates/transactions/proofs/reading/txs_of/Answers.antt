use Rattle.std.proofs.Common.{◌≡◌, arith, true, false}
use Rattle.std.proofs.lemmas.Bool.{le-leb, lt-leb}
use Rattle.std.proofs.lemmas.Result.{err_from_is_err_and}
use Rattle.transactions.specs.Fields.{repeat}
use Rattle.transactions.specs.Reading.{tx_at, is_within}
use Rattle.transactions.proofs.Repeats.{goes_on, ends, too_long, is_done}
use Rattle.transactions.proofs.reading.txs_of.Goals as goal

pub returns-in_err-tx : goal.returns-in_err-tx
returns-in_err-tx c =
    let p = err_from_is_err_and c.from_residual.result c.from_residual.ensures.1 in
    rw (p.1, p.2) (ends tx_at (is_within c.args.len) c.in_err-tx.field-0.0 c.loop.txs.items c.args.count c.loop.counter c.loop.rest.now (repeat tx_at (is_within c.args.len) c.args.count c.args.bytes.now) c.loop-test.true c.in_err-tx.ensures.exact c.loop.invariant)

pub returns-then-saturating_sub-gt-MOST_VALUE_BYTES : goal.returns-then-saturating_sub-gt-MOST_VALUE_BYTES
returns-then-saturating_sub-gt-MOST_VALUE_BYTES c =
    let passes : is_within c.args.len c.in_ok-tx.after.now ≡ false = lt-leb _ _ (omega arith) in
    too_long tx_at (is_within c.args.len) c.loop.txs.items c.args.count c.loop.counter c.loop.rest.now c.in_ok-tx.tx c.in_ok-tx.after.now (repeat tx_at (is_within c.args.len) c.args.count c.args.bytes.now) c.loop-test.true c.in_ok-tx.ensures.exact passes c.loop.invariant

pub loop-preserved : goal.loop-preserved
loop-preserved c =
    let within : is_within c.args.len c.in_ok-tx.after.now ≡ true = le-leb _ _ (omega arith) in
    rw c.in_ok-push.ensures.items (goes_on tx_at (is_within c.args.len) c.loop.txs.items c.args.count c.loop.counter c.loop.rest.now c.in_ok-tx.tx c.in_ok-tx.after.now (repeat tx_at (is_within c.args.len) c.args.count c.args.bytes.now) c.loop-test.true c.in_ok-tx.ensures.exact within c.loop.invariant)

pub returns : goal.returns
returns c = is_done tx_at (is_within c.args.len) c.loop.txs.items c.args.count c.loop.counter c.loop.rest.now (repeat tx_at (is_within c.args.len) c.args.count c.args.bytes.now) c.loop-test.false c.loop.invariant

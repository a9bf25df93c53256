use Rattle.std.proofs.Common.{arith}
use Rattle.transactions.proofs.writing.len_of_tx_body.Goals as goal

pub returns-clause-fits : goal.returns-clause-fits
returns-clause-fits c = record {
  client = omega arith;
  session = omega arith;
  first = omega arith;
  last = omega arith;
  op = c.in_ok-len_of_op.ensures.fits;
}

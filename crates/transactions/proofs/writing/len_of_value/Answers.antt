use Rattle.std.proofs.Common.{arith}
use Rattle.transactions.proofs.Lengths.{value_fits_if}
use Rattle.transactions.proofs.writing.len_of_value.Goals as goal

pub returns-clause-fits : goal.returns-clause-fits
returns-clause-fits c = value_fits_if c.args.value.now c.len_of_txs.result (omega arith) (rw (← c.as_slice.ensures) c.len_of_txs.ensures.len) (rw (← c.as_slice.ensures) c.len_of_txs.ensures.fits)

use Rattle.std.proofs.Common.{arith}
use Rattle.std.proofs.lemmas.List.{nil_from_length}
use Rattle.messages.proofs.measuring.len_of_bare_tx.Goals as goal

pub returns-clause-fits : goal.returns-clause-fits
returns-clause-fits c = (c.in_ok-len.ensures.fits, nil_from_length c.args.tx.now.tags (omega arith))

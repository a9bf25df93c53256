use Rattle.std.proofs.Common.{arith}
use Rattle.messages.proofs.measuring.len_of_precommit.Goals as goal

pub returns-clause-fits : goal.returns-clause-fits
returns-clause-fits c = record { sender = omega arith; tags = rw (← c.as_slice.ensures) c.in_ok-len_of_tags.ensures.fits }

use Rattle.transactions.proofs.writing.len_of_tx.Goals as goal

pub returns-clause-fits : goal.returns-clause-fits
returns-clause-fits c = record { body = c.in_ok-body.ensures.fits; tags = rw (← c.as_slice.ensures) c.in_ok-tags.ensures.fits }

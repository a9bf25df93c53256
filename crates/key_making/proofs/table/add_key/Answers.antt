use Rattle.key_making.proofs.table.add_key.Goals as goal

pub returns-clause-key : goal.returns-clause-key
returns-clause-key c = (c.told-key, c.fits-key)

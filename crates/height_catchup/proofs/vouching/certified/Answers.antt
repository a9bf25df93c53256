use Rattle.height_catchup.proofs.Cutting.{certified_fits}
use Rattle.height_catchup.proofs.vouching.certified.Goals as goal

pub returns-clause-spelled : goal.returns-clause-spelled
returns-clause-spelled c c' p ring small fits = rw (c.in_ok-precommits.ensures c' p ring) (certified_fits c' p c.args.bundle small fits)

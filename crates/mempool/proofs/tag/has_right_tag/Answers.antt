use Rattle.std.proofs.Common.{sym}
use Rattle.mempool.proofs.Tagged.{untagged_by_unknown}
use Rattle.mempool.proofs.tag.has_right_tag.Goals as goal

pub returns-in-None : goal.returns-in-None
returns-in-None c = λ s p h. sym (untagged_by_unknown s p c.args.ring.now c.args.tx.now h (sym c.in-None.ensures))

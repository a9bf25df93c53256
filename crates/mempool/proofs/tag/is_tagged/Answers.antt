use Rattle.std.proofs.Common.{sym, ◌∙◌}
use Rattle.mempool.proofs.Tagged.{tagged_by_known}
use Rattle.mempool.proofs.tag.is_tagged.Goals as goal

pub returns-in-Validator : goal.returns-in-Validator
returns-in-Validator c s p ring =
    rw (c.is_right.ensures, c.count.ensures.count, c.as_slice.ensures.value, c.body_of.ensures, c.as_slice-in-Validator.ensures)
    (tagged_by_known s p c.in-Validator.me c.args.ring.now c.args.key.now c.args.tx.now ring c.requires.known (sym c.me.ensures ∙ c.in-Validator.is))

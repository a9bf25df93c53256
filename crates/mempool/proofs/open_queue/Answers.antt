use Rattle.std.proofs.Common.{nat_eq, ◌∙◌}
use Rattle.indexmap.proofs.CallerLemmas.{insert_entry-new}
use Rattle.mempool.proofs.open_queue.Goals as goal

pub returns : goal.returns
returns c = record { ok = c.in_ok-insert.ensures.entries ∙ insert_entry-new nat_eq c.args.queues.now c.args.client c.args.waiting c.requires; err = tt }

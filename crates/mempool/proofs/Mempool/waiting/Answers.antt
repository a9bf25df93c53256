use Rattle.std.proofs.Common.{sym, ◌∙◌}
use Rattle.mempool.proofs.Places.{txs_in, none_found, waiting_found, waiting_none}
use Rattle.mempool.proofs.Mempool.waiting.Goals as goal

pub returns-in-Some : goal.returns-in-Some
returns-in-Some c = c.as_slice.ensures.value
    ∙ rw (← c.self.view_is) (sym (waiting_found txs_in c.args.client c.self.inside.queues.entries c.index.result.now c.in-Some.ensures.unique (sym c.in-Some.ensures.value ∙ c.index.ensures)))

pub returns-in-None : goal.returns-in-None
returns-in-None c = rw (← c.self.view_is) (sym (waiting_none txs_in c.args.client c.self.inside.queues.entries (none_found _ c.in-None.ensures.found)))

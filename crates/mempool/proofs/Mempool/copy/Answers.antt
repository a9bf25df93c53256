use Rattle.std.proofs.Common.{sym, ◌∙◌}
use Rattle.mempool.proofs.Places.{txs_in, next_differs}
use Rattle.mempool.proofs.Mempool.copy.Goals as goal

pub open_queue-requires : goal.open_queue-requires
open_queue-requires c = next_differs txs_in c.loop-client.queues.entries c.next.new.self c.self.inside.queues.entries (c.in-Some.client.now, c.in-Some.waiting.now)
    (rw c.in-Some.ensures.steps at (c.loop-client.invariant ∙ sym c.self.view_is)) c.iter-client-items.ensures.unique

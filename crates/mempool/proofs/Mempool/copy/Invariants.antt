use Rattle.std.proofs.Common.{◌≡◌, ◌++◌}
use Rattle.mempool.proofs.Places.{txs_in, queues_of}
use Rattle.mempool.proofs.Mempool.copy.Given as goal

-- the queues so far are copied, and the others are still to be copied
abbrev pub invariant-loop-client : goal.invariant-loop-client
invariant-loop-client l = queues_of txs_in l.queues.entries ++ queues_of txs_in l.client-iterator ≡ l.self

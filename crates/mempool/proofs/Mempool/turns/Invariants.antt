use Rattle.std.proofs.Common.{◌≡◌, ◌++◌, ◌+◌, ◌≤◌, map, length, deque_len, deque_capacity}
use Rattle.mempool.proofs.Rotation.{nonempty}
use Rattle.mempool.proofs.Places.{txs_in}
use Rattle.mempool.proofs.Mempool.turns.Given as goal

-- the queues that are not empty were taken, and those of the rest are still to be taken
abbrev pub invariant-loop-waiting : goal.invariant-loop-waiting
invariant-loop-waiting l = record {
  taken : nonempty (map (λ q. q.waiting) l.self) ≡ map (λ q. q.now) l.queues.items ++ nonempty (map txs_in l.waiting-iterator);
  room : deque_len l.queues + length l.waiting-iterator ≤ deque_capacity l.queues;
}

use Rattle.std.proofs.Common.{◌≡◌, ◌++◌, List, take, drop, length}
use Rattle.protocol.specs.Values.{Item}
use Rattle.protocol.specs.Queues.{drop_delivered}
use Rattle.proposal_validity.specs.Standing.{IsFrontierOf}
use Rattle.mempool.proofs.Places.{txs_in, queues_of}
use Rattle.mempool.proofs.Mempool.drop_delivered.Given as goal

-- the queues before this place have been gone over
abbrev pub invariant-loop-place : goal.invariant-loop-place
invariant-loop-place l = record {
  gone : (d : List Item) → IsFrontierOf d l.frontier → queues_of txs_in l.self-inside.queues.entries
      ≡ drop_delivered d (take l.place (queues_of txs_in l.initial.self-inside.queues.entries)) ++ drop l.place (queues_of txs_in l.initial.self-inside.queues.entries);
  len : length l.self-inside.queues.entries ≡ length l.initial.self-inside.queues.entries;
}

use Rattle.std.proofs.Common.{◌<◌, length, arith, ◌∙◌, ap}
use Rattle.std.proofs.lemmas.List.{length-map}
use Rattle.indexmap.proofs.CallerLemmas.{index_map_len-with_value_at}
use Rattle.protocol.specs.declared.standing.Standing.{Standing}
use Rattle.protocol.specs.Queues.{still_waiting}
use Rattle.mempool.proofs.Places.{txs_in, queue_of, queues_of, dropped_more}
use Rattle.mempool.proofs.Mempool.drop_delivered.Goals as goal

pub loop-place-preserved : goal.loop-place-preserved
loop-place-preserved c =
    let place = c.loop-place.place in
    let within : place < length (queues_of txs_in c.self.inside.queues.entries) = omega (arith, length-map c.self.inside.queues.entries (queue_of txs_in)) in
    record {
      gone = λ d is. dropped_more txs_in d (queues_of txs_in c.self.inside.queues.entries) c.loop-place.self-inside.queues.entries place c.client_at.result c.index_mut.result.now c.keep_going_on.new.waiting (c.loop-place.invariant.gone d is) within c.index_mut.ensures.value
          c.client_at.ensures
          (c.keep_going_on.ensures ∙ ap (λ (s : Standing). still_waiting s c.index_mut.result.now.items) (c.standing-standing.ensures.standing ∙ is.each c.client_at.result));
      len = index_map_len-with_value_at c.loop-place.self-inside.queues place c.keep_going_on.new.waiting ∙ c.loop-place.invariant.len;
    }

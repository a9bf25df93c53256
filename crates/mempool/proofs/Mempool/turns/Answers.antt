use Rattle.std.proofs.Common.{◌≡◌, map, Bor, List, ap, sym, ◌∙◌, arith}
use Rattle.std.proofs.lemmas.List.{append-nil}
use Rattle.protocol.specs.Values.{Tx}
use Rattle.protocol.specs.Queues.{Queue}
use Rattle.mempool.specs.Turns.{in_turn}
use Rattle.mempool.proofs.Places.{txs_in, waiting_lists}
use Rattle.mempool.proofs.Rotation.{nonempty, each_nonempty, in_turn-nonempty}
use Rattle.mempool.proofs.Mempool.turns.Goals as goal

pub loop-waiting-init : goal.loop-waiting-init
loop-waiting-init c = record {
  taken = rw (c.in_ok-queues.ensures.items, c.into_iter-waiting-iterator.ensures.into_iter_gives, c.values-waiting-items.ensures.rest, ← c.self.view_is) (ap nonempty (waiting_lists txs_in c.self.inside.queues.entries));
  room = rw (c.into_iter-waiting-iterator.ensures.into_iter_gives) (omega (arith, c.values-waiting-items.ensures.len, c.in_ok-queues.ensures.len, c.in_ok-queues.ensures.capacity, c.len.ensures.len));
}

pub new-requires : goal.new-requires
new-requires c =
    let all : map (λ (q : Bor (List Tx)). q.now) c.loop-waiting.queues.items ≡ nonempty (map (λ (q : Queue). q.waiting) c.args.self.now) = sym (c.loop-waiting.invariant.taken ∙ rw c.in-None.ensures.steps.0 (append-nil _)) in
    each_nonempty c.loop-waiting.queues.items (map (λ (q : Queue). q.waiting) c.args.self.now) all

pub returns : goal.returns
returns c =
    let all : map (λ (q : Bor (List Tx)). q.now) c.loop-waiting.queues.items ≡ nonempty (map (λ (q : Queue). q.waiting) c.args.self.now) = sym (c.loop-waiting.invariant.taken ∙ rw c.in-None.ensures.steps.0 (append-nil _)) in
    c.new.ensures ∙ ap in_turn all ∙ in_turn-nonempty (map (λ (q : Queue). q.waiting) c.args.self.now)

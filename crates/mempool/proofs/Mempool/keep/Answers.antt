use Rattle.std.proofs.Common.{ℕ, eqb, sym, ap, ◌∙◌}
use Rattle.std.proofs.lemmas.Result.{err_from_is_err_and}
use Rattle.protocol.specs.Values.{Tx}
use Rattle.protocol.specs.Queues.{queued}
use Rattle.std.specs.Global.{Vec}
use Rattle.std.specs.Map.{lookup}
use Rattle.std.specs.declared.hash.FoldHasher.{FoldHasher}
use Rattle.std.specs.declared.hash.BuildHasherDefault.{BuildHasherDefault}
use Rattle.indexmap.specs.IndexMap.{IndexMap}
use Rattle.mempool.proofs.Places.{txs_in, queues_of, queued_new, queued_found, queue_stays}
use Rattle.mempool.proofs.Mempool.keep.Goals as goal

abbrev Map : Type 0
Map = IndexMap ℕ (Vec Tx) (BuildHasherDefault FoldHasher)

pub returns-in_err-push-in-Some-clause-err : goal.returns-in_err-push-in-Some-clause-err
returns-in_err-push-in-Some-clause-err c =
    let written = c.get_mut.follows.holds c.push.new.self in
    let p = err_from_is_err_and c.from_residual.result c.from_residual.ensures.1 in
    rw p.1 (ap (queues_of txs_in) written.0 ∙ queue_stays txs_in c.args.tx.client c.self.inside.queues.entries c.in-Some.waiting.now c.push.new.self (sym c.in-Some.ensures.value) c.in_err-push-in-Some.ensures.items ∙ c.self.view_is)

pub returns-in_ok-push-in-Some-clause-ok : goal.returns-in_ok-push-in-Some-clause-ok
returns-in_ok-push-in-Some-clause-ok c =
    let written = c.get_mut.follows.holds c.push.new.self in
    rw (← c.self.view_is) (ap (queues_of txs_in) written.0 ∙ queued_found txs_in c.args.tx c.push.new.self c.self.inside.queues.entries c.in-Some.waiting.now (sym c.in-Some.ensures.value) c.in_ok-push-in-Some.ensures.items)

pub returns-in_ok-open_queue-in-None-clause-ok : goal.returns-in_ok-open_queue-in-None-clause-ok
returns-in_ok-open_queue-in-None-clause-ok c =
    let same = c.get_mut.follows.holds-at-none in
    let absent = ap (λ (m : Map). lookup (eqb c.args.tx.client) m.entries) same ∙ sym c.in-None.ensures.value in
    rw (← c.self.view_is) (ap (queues_of txs_in) c.in_ok-open_queue-in-None.ensures.ok
    ∙ queued_new txs_in c.args.tx c.in_ok-vec-in-None.field-0 c.get_mut.follows.lender-at-none.entries absent c.in_ok-vec-in-None.ensures.items ∙ ap (λ (m : Map). queued c.args.tx (queues_of txs_in m.entries)) same)

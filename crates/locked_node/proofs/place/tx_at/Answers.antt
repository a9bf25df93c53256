use Rattle.std.proofs.Common.{◌≡◌, ◌<◌, length, slice_index_or, sym, subst, ltb-true}
use Rattle.locked_node.proofs.Places.{here_tx}
use Rattle.locked_node.proofs.place.tx_at.Goals as goal

pub returns-clause-some : goal.returns-clause-some
returns-clause-some c =
    let bundle = c.in_ok-bundle.bundle.now in
    let tx = c.in_ok-tx.tx.now in
    let at = c.in_ok-bundle.ensures.lookup in
    let in_it = c.in_ok-tx.ensures.lookup in
    here_tx c.args.decisions.now c.args.place.height c.args.place.index bundle (ltb-true c.args.place.height (length c.args.decisions.now) (sym at.0)) at.1 tx
    (subst (λ l. c.args.place.index < length l) c.as_slice.ensures (ltb-true c.args.place.index (length c.as_slice.result.now) (sym in_it.0))) (subst (λ l. tx ≡ slice_index_or l c.args.place.index tx) c.as_slice.ensures in_it.1)

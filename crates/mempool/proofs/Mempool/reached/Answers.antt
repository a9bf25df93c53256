use Rattle.std.proofs.Common.{List, map, sym, ◌∙◌, ap}
use Rattle.protocol.specs.Values.{Tx, item, left_after}
use Rattle.protocol.specs.Queues.{standing_of}
use Rattle.mempool.proofs.Standings.{left_of_found}
use Rattle.mempool.proofs.Mempool.reached.Goals as goal

pub returns-in-Some : goal.returns-in-Some
returns-in-Some c d is = c.left_by.ensures
    ∙ sym (left_of_found (standing_of c.args.client d) c.waiting.result.now c.in-Some.tx.now (sym c.in-Some.ensures.value))
    ∙ ap (λ (txs : List Tx). left_after (standing_of c.args.client d) (map item txs)) c.waiting.ensures

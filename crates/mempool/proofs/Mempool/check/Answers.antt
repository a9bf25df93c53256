use Rattle.std.proofs.Common.{take, drop}
use Rattle.std.proofs.lemmas.Result.{err_from_is_err_and}
use Rattle.protocol.specs.Refusals.{tx_causes}
use Rattle.mempool.proofs.Causes.{told_first, told_later}
use Rattle.mempool.proofs.Mempool.check.Goals as goal

pub returns-in_err-check_tag : goal.returns-in_err-check_tag
returns-in_err-check_tag c s p d ring frontier =
    let causes = tx_causes s p d c.args.self.now c.args.tx.now in
    let told = told_first (take 3 causes) (drop 3 causes) c.in_err-check_tag.field-0.0 (c.in_err-check_tag.ensures s p ring d c.args.self.now) in
    let exit = err_from_is_err_and c.from_residual.result c.from_residual.ensures.1 in
    rw (exit.1, exit.2) told

pub returns : goal.returns
returns c s p d ring frontier =
    let causes = tx_causes s p d c.args.self.now c.args.tx.now in
    told_later (take 3 causes) (drop 3 causes) c.check_turn.result (c.in_ok-check_tag.ensures s p ring d c.args.self.now) (c.check_turn.ensures d frontier s p)

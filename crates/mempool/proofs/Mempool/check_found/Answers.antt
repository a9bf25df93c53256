use Rattle.std.proofs.Common.{take, drop}
use Rattle.protocol.specs.Refusals.{tx_causes}
use Rattle.mempool.proofs.Causes.{told_first, told_later}
use Rattle.mempool.proofs.Mempool.check_found.Goals as goal

pub returns-in-Err : goal.returns-in-Err
returns-in-Err c s p d ring frontier =
    let causes = tx_causes s p d c.args.self.now c.args.tx.now in
    told_first (take 3 causes) (drop 3 causes) c.in-Err.fault (c.in-Err.ensures s p ring d c.args.self.now)

pub returns-in-Ok : goal.returns-in-Ok
returns-in-Ok c s p d ring frontier =
    let causes = tx_causes s p d c.args.self.now c.args.tx.now in
    told_later (take 3 causes) (drop 3 causes) c.check_turn.result (c.in-Ok.ensures s p ring d c.args.self.now) (c.check_turn.ensures d frontier s p)

use Rattle.std.proofs.Common.{arith}
use Rattle.locked_node.proofs.Places.{over_both}
use Rattle.locked_node.proofs.place.normal.Goals as goal

pub loop-height-preserved : goal.loop-height-preserved
loop-height-preserved c =
    over_both c.args.decisions.now c.loop-height.height c.loop-height.index c.index-decisions-height.result c.index-decisions-height-in-loop-height.result c.len.result c.len-index.result c.args.place (omega (arith, c.loop-height-test.true)) c.len.ensures c.len-index.ensures
    (omega (arith, c.if-index-len.true)) c.loop-height.invariant

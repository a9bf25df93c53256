use Rattle.std.proofs.Common.{◌+◌, ◌-◌, ◌^◌, min, length, take_all, ap, ◌∙◌, arith}
use Rattle.node_core.specs.Core.{delivered_in}
use Rattle.locked_node.proofs.Feeds.{count_one_more}
use Rattle.locked_node.proofs.place.count_with.Goals as goal

pub loop-bundle-init : goal.loop-bundle-init
loop-bundle-init c = omega (arith, c.ranges.count.fits)

pub loop-bundle-preserved : goal.loop-bundle-preserved
loop-bundle-preserved c = omega (arith, c.saturating_add-all.ensures, c.len.ensures, c.loop-bundle.invariant, count_one_more c.args.decisions.now c.loop-bundle.bundle-index c.bundle-item.result c.loop-bundle-test.true c.bundle-item.is)

pub returns : goal.returns
returns c = c.loop-bundle.invariant ∙ ap (λ l. min (c.args.count + length (delivered_in l)) (2 ^ 64 - 1)) (take_all c.loop-bundle.bundle-index c.args.decisions.now c.loop-bundle-test.false)

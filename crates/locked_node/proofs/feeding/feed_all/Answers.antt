use Rattle.std.proofs.Common.{arith}
use Rattle.locked_node.proofs.Feeds.{fed_at, are_fed_set, are_offered_set}
use Rattle.locked_node.proofs.feeding.feed_all.Goals as goal

pub feed-requires-clause-fed : goal.feed-requires-clause-fed
feed-requires-clause-fed g c = fed_at _ c.loop-fed.fed-items c.loop-fed.fed-index c.fed-item.result (omega (arith, c.loop-fed-test.true, c.loop-fed.auto.fed-items)) c.loop-fed.invariant.0

pub loop-fed-preserved : goal.loop-fed-preserved
loop-fed-preserved g c = (
  are_fed_set _ c.loop-fed.fed-items c.loop-fed.fed-index c.feed.new.fed c.feed.ensures.fed c.loop-fed.invariant.0,
  are_offered_set _ c.loop-fed.fed-index _ c.loop-fed.fed-items c.fed-item.result c.feed.new.fed (omega (arith, c.loop-fed-test.true, c.loop-fed.auto.fed-items)) c.loop-fed.invariant.1 c.feed.ensures.offered,
)

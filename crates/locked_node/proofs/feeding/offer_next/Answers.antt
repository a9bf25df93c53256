use Rattle.locked_node.proofs.Feeds.{next_order}
use Rattle.locked_node.proofs.feeding.offer_next.Goals as goal

pub offer-requires-clause-order : goal.offer-requires-clause-order
offer-requires-clause-order g c = next_order _ _ _ _ _ _ _ c.requires.fed c.requires.order c.normal-fed.ensures.same c.in-Some.ensures.some c.in-Ok.ensures

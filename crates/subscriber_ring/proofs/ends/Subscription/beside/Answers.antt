use Rattle.std.proofs.Common.{◌∙◌}
use Rattle.subscriber_ring.proofs.Moves.{meets, parts_again}
use Rattle.subscriber_ring.proofs.ends.Subscription.beside.Goals as goal

pub absorb-requires-clause-rule : goal.absorb-requires-clause-rule
absorb-requires-clause-rule c = meets _ _ _ _ _ _ _ _ c.feeder.invariant.3 c.self.invariant.2

pub another-pass-requires-clause-rule : goal.another-pass-requires-clause-rule
another-pass-requires-clause-rule c = parts_again _ _ c.feeder.inside.pass.me.0.client c.self.inside.pass.me.0.client _ c.feeder.invariant.3 c.feeder.invariant.4 (c.learn_as.ensures.channel.2 ∙ c.absorb.ensures.rule)

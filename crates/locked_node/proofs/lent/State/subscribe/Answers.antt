use Rattle.std.proofs.Common.{ap, arith}
use Rattle.locked_node.proofs.Stepping.{locked_with}
use Rattle.locked_node.proofs.lent.State.subscribe.Goals as goal

pub invariant_of-self-2 : goal.invariant_of-self-2
invariant_of-self-2 g c =
    let feed = c.in_ok-feeder.ensures.feeder in (
      locked_with _ c.in_ok-feeder.feeder c.args.from c.self.inside.delivered _ _ c.self.invariant.0 (ap (λ f. f.first) feed) (ap (λ f. f.offered) feed) c.self.invariant.1 (omega (arith, c.if-from-self.false))
          c.reserve.ensures.items c.push_reserved.ensures.items,
      c.self.invariant.1,
    )

pub returns-clause-locked : goal.returns-clause-locked
returns-clause-locked g c =
    let feed = c.in_ok-feeder.ensures.feeder in
    locked_with _ c.in_ok-feeder.feeder c.args.from c.self.inside.delivered _ _ c.self.invariant.0 (ap (λ f. f.first) feed) (ap (λ f. f.offered) feed) c.self.invariant.1 (omega (arith, c.if-from-self.false))
    c.reserve.ensures.items c.push_reserved.ensures.items

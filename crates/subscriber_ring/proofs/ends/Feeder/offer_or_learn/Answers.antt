use Rattle.std.proofs.Common.{◌≡◌, sym, ap, ◌∙◌, subst}
use Rattle.crossbeam_channel.specs.Fifo.{Learns}
use Rattle.subscriber_ring.specs.Rule.{Hand, offering, Relayed}
use Rattle.subscriber_ring.proofs.Moves.{offers, next_in_order, one_offered}
use Rattle.subscriber_ring.proofs.ends.Feeder.offer_or_learn.Goals as goal

pub try_send_as-requires-clause-rule : goal.try_send_as-requires-clause-rule
try_send_as-requires-clause-rule g c =
    let i = c.self.invariant in
    let is = c.self.view_is in
    let good = next_in_order _ _ c.args.self.now c.args.delivered (ap (λ f. f.first) is) (ap (λ f. f.offered) is) i.4 c.requires.next c.requires.last c.requires.order in
    let same : offering c.args.self.now.first c.args.self.now.offered ≡ c.self.inside.pass.me.0.client = ap (λ f. offering f.first f.offered) (sym is) ∙ sym i.3 in
    (offers _ _ _ _ _ _ i.3 good, subst (λ (v : Hand). Learns Relayed c.self.inside.pass.id v (g.L.Lesson.fact v)) same (c.requires.lesson c.self.inside.pass.id))

pub invariant_of-self : goal.invariant_of-self
invariant_of-self g c =
    let i = c.self.invariant in
    let is = c.self.view_is in
    let good = next_in_order _ _ c.args.self.now c.args.delivered (ap (λ f. f.first) is) (ap (λ f. f.offered) is) i.4 c.requires.next c.requires.last c.requires.order in
    let k = one_offered c.self.inside.first c.self.inside.offered _ c.try_send_as.new.pass.me.0.client c.args.delivered (i.0, i.3, i.4) good c.in-Ok.ensures.rule in
    (k.0, c.try_send_as.ensures.channel.0, i.2, k.1, k.2)

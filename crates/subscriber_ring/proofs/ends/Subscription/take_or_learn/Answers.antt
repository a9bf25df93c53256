use Rattle.std.proofs.Common.{◌≡◌, sym, ap, ◌∙◌, subst}
use Rattle.crossbeam_channel.specs.Fifo.{Learns}
use Rattle.subscriber_ring.specs.Rule.{Hand, taking, Relayed}
use Rattle.subscriber_ring.proofs.Moves.{takes}
use Rattle.subscriber_ring.proofs.ends.Subscription.take_or_learn.Goals as goal

pub try_recv_as-requires-clause-rule : goal.try_recv_as-requires-clause-rule
try_recv_as-requires-clause-rule g c =
    let i = c.self.invariant in
    let same : taking c.args.self.now.first c.args.self.now.taken ≡ c.self.inside.pass.me.0.client = ap (λ s. taking s.first s.taken) (sym c.self.view_is) ∙ sym i.2 in
    (takes _ _ _ _ i.2, subst (λ (v : Hand). Learns Relayed c.self.inside.pass.id v (g.L.Lesson.fact v)) same (c.requires.lesson c.self.inside.pass.id))

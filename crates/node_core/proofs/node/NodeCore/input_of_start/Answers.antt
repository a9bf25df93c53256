use Rattle.std.proofs.Common.{refl, ap}
use Rattle.protocol.specs.Rules.{starts}
use Rattle.node_core.specs.Core.{setting_of, context_of}
use Rattle.node_core.specs.Seen.{seen}
use Rattle.node_core.proofs.Picks.{waiting_spelled, pick_genuine}
use Rattle.node_core.proofs.node.NodeCore.input_of_start.Goals as goal

pub returns : goal.returns
returns g c =
    let core = seen c.self.inside in
    let value = c.in_ok-pick.ensures.value in
    let spelled = c.in_ok-pick.ensures.spelled (waiting_spelled (setting_of core) core.machine.me core.queues c.self.invariant.waiting) in
    let genuine = pick_genuine (setting_of core) core.machine.me core.queues c.self.invariant.waiting in
    rw (← c.self.view_is) (record { serves = (spelled, rw (value, genuine) refl, λ _ _. refl); same = ap (λ v. starts (context_of core) core.machine.state c.args.round v) value })

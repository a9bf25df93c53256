use Rattle.std.proofs.Common.{◌≡◌, sym, subst, ◌∙◌}
use Rattle.protocol.specs.State.{Context}
use Rattle.protocol.specs.Rules.{saved, scheduled}
use Rattle.round_machine.specs.Naming.{rule_of, pick_in}
use Rattle.round_states.specs.Machine.{Agrees}
use Rattle.round_states.specs.Plans.{says, applied}
use Rattle.round_states.specs.Steps.{picked_value}
use Rattle.node_core.specs.Core.{Core}
use Rattle.node_core.specs.Seen.{seen}
use Rattle.node_core.specs.Firing.{IsHanded}
use Rattle.node_core.proofs.node.NodeCore.prepare.Goals as goal

pub returns : goal.returns
returns g c =
    let core : Core = seen {S = g.row.S.Denot} c.self.inside in
    let s = core.machine.state in
    let k = rule_of s c.args.rule in
    let p = c.in_ok-plan in
    let context = rw (← c.self.view_is) at c.requires.1.1.0 in
    let same = (subst (λ (n : Core). IsHanded n c.args.rule c.in_ok-input.input) (sym c.self.view_is) c.in_ok-input.ensures.handed).same in
    rw (← c.self.view_is) (record {
      fit = rw (← c.self.view_is) at c.in_ok-input.ensures.fit;
      says = subst (λ (h : Context). says p.plan ≡ saved h (picked_value (pick_in c.in_ok-input.input)) s k) context p.ensures.says ∙ same;
      moves = p.ensures.moves;
      timeout = subst (λ (h : Context). p.plan.timeout ≡ scheduled h s k) context p.ensures.timeout;
      place = p.ensures.place;
      agrees = subst (λ (h : Context). Agrees h (applied core.machine p.plan)) context p.ensures.agrees;
      record_of = rw (← c.self.view_is) at c.in_ok-spelled.ensures.record;
      frame = rw (← c.self.view_is) at c.in_ok-spelled.ensures.frame;
      body = rw (← c.self.view_is) at c.in_ok-spelled.ensures.body;
    })

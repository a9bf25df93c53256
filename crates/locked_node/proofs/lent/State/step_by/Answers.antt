use Rattle.std.proofs.Common.{◌≤◌, ◌+◌, ◌-◌, ◌^◌, min, length, drop, sym, ap, ap₂, ◌∙◌, subst₂}
use Rattle.node_core.specs.Core.{delivered_in}
use Rattle.locked_node.specs.History.{Heard, heard_by, calls_after}
use Rattle.locked_node.proofs.Stepping.{longer, count_after, locked_after}
use Rattle.locked_node.proofs.lent.State.step_by.Goals as goal

pub count_from-self-inside-requires : goal.count_from-self-inside-requires
count_from-self-inside-requires g c = subst₂ (λ k n. length k ≤ length n) (sym c.decisions-before.ensures.decisions) (sym c.decisions.ensures.decisions) (longer _ _ _ _ c.self.invariant.0 c.ask_core-answer.ensures)

pub invariant_of-self : goal.invariant_of-self
invariant_of-self g c = (
  locked_after _ _ _ _ c.self.invariant.0 c.ask_core-answer.ensures _ _ c.with-self-inside.ensures.0 (c.with-self-inside.ensures.1 ∙ ap (λ (h : Heard). calls_after h c.ask_core-answer.result c.fired.result c.self.inside.history.calls) c.event-event.ensures ∙ ap (λ k. calls_after (heard_by c.args.request) c.ask_core-answer.result k c.self.inside.history.calls) c.fired.ensures) c.decisions-before.ensures.each c.decisions.ensures.each,
  c.count_from-self-inside.ensures ∙ ap₂ (λ k n. min (c.self.inside.delivered + length (delivered_in (drop (length k) n))) (2 ^ 64 - 1)) c.decisions-before.ensures.decisions c.decisions.ensures.decisions
      ∙ count_after _ _ _ _ c.self.invariant.0 c.ask_core-answer.ensures c.self.inside.delivered c.self.invariant.1,
)

pub returns-clause-locked : goal.returns-clause-locked
returns-clause-locked g c = locked_after _ _ _ _ c.self.invariant.0 c.ask_core-answer.ensures _ _ c.with-self-inside.ensures.0 (c.with-self-inside.ensures.1 ∙ ap (λ (h : Heard). calls_after h c.ask_core-answer.result c.fired.result c.self.inside.history.calls) c.event-event.ensures ∙ ap (λ k. calls_after (heard_by c.args.request) c.ask_core-answer.result k c.self.inside.history.calls) c.fired.ensures) c.decisions-before.ensures.each c.decisions.ensures.each

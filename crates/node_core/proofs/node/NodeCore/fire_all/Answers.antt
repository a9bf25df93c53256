use Rattle.std.proofs.lemmas.Result.{err_from_is_err_and}
use Rattle.std.proofs.Common.{◌≡◌, ◌<◌, Err, refl, sym, ap, subst, ◌∙◌, suc, arith}
use Rattle.protocol.specs.Queues.{pick}
use Rattle.protocol.specs.History.{firsts}
use Rattle.round_machine.specs.Naming.{rule_of}
use Rattle.round_machine.proofs.Ending.{left, less_after}
use Rattle.node_core.specs.Core.{Core, context_of, setting_of}
use Rattle.node_core.specs.Seen.{seen}
use Rattle.node_core.specs.Calls.{HasFiredOnce, Serves, IsUnfired, TellsJournal}
use Rattle.node_core.proofs.Stepwise.{none_fired, fired_more, once_counted, run_counted}
use Rattle.node_core.proofs.Telling.{serves_itself, both_serve, tells_from, run_unfired, unfired_by}
use Rattle.protocol.specs.declared.refusal.Refusal.TheVariants as answers
use Rattle.node_core.proofs.Broken.{cut_off, cut_counted}
use Rattle.node_core.proofs.node.NodeCore.fire_all.Goals as goal

pub loop-rule-init : goal.loop-rule-init
loop-rule-init g c = record { ran = record { times = 0; count = refl; ran = λ n s. none_fired n _ s }; serves = serves_itself _ }

pub loop-rule-smaller : goal.loop-rule-smaller
loop-rule-smaller g c =
    let m = c.loop-rule.self in
    let less = less_after (context_of m) (pick m.queues) m.machine.state c.fire.new.self.machine.state c.in-Some.rule c.in-Some.ensures.placed c.in-Some.ensures.internal c.in-Some.ensures.holds c.in_ok-fire.ensures.state in
    subst (λ (x : Core). left x.machine.state < left m.machine.state) (sym c.self-in-Some.view_is) less

pub loop-rule-preserved : goal.loop-rule-preserved
loop-rule-preserved g c =
    let m = c.loop-rule.self in
    let before = c.loop-rule.invariant.ran in
    let fired = ap (λ (x : Core). x.fired) c.self-in-Some.view_is ∙ c.fire.ensures.fired ∙ before.count in
    let start : Core = record (seen c.self.inside) { fired = 0 } in
    record {
      ran = record {
        times = suc before.times;
        count = rw (c.saturating_add-self-inside.ensures, fired) (omega arith);
        ran = λ n s.
            let ran = before.ran n s in
            let once = c.in_ok-fire.ensures.ok _ ran.stands in
            fired_more n _ before.times _ m _ (sym c.in-Some.ensures.rule) ran (once_counted _ _ m _ _ (subst (λ (x : Core). HasFiredOnce (firsts (setting_of start) c.self.inside.state.me before.times n) (rule_of m.machine.state c.in-Some.rule) m x) (sym c.self-in-Some.view_is) once));
      };
      serves = subst (λ (x : Core). Serves c.self.inside.journal x.journal) (sym c.self-in-Some.view_is) (both_serve c.self.inside.journal m.journal c.fire.new.self.journal c.loop-rule.invariant.serves c.in_ok-fire.ensures.journal);
    }

pub fire-requires : goal.fire-requires
fire-requires g c = λ κs l. (l.0, (l.1, (c.loop-rule.invariant.serves.failed ∙ (rw (← c.self.view_is) at c.requires.running), (refl, (c.in-Some.ensures.placed, c.in-Some.ensures.holds)))))

pub returns-in_err-fire-clause-journal : goal.returns-in_err-fire-clause-journal
returns-in_err-fire-clause-journal g c =
    let p = err_from_is_err_and c.from_residual.result c.from_residual.ensures.1 in
    rw (← c.self.view_is, p.1, p.2) (tells_from (Err c.in_err-fire.field-0.0) c.self.inside.journal c.loop-rule.self.journal c.fire.new.self.journal c.loop-rule.invariant.serves c.in_err-fire.ensures.journal)

pub returns-clause-journal : goal.returns-clause-journal
returns-clause-journal g c = rw (← c.self.view_is) c.loop-rule.invariant.serves

pub returns-in_err-fire-clause-answer : goal.returns-in_err-fire-clause-answer
returns-in_err-fire-clause-answer g c =
    let p = err_from_is_err_and c.from_residual.result c.from_residual.ensures.1 in
    rw (p.1, p.2) (unfired_by c.in_err-fire.field-0.0 c.loop-rule.self c.fire.new.self c.in_err-fire.ensures.err)

pub returns-in_err-fire-clause-ran : goal.returns-in_err-fire-clause-ran
returns-in_err-fire-clause-ran g c =
    let ran = run_unfired c.in_err-fire.field-0.0 _ c.loop-rule.self c.fire.new.self c.loop-rule.invariant.ran c.in_err-fire.ensures.err c.in_err-fire.ensures.journal in
    rw (← c.self.view_is) (run_counted (seen c.self.inside) _ 0 ran)

pub returns-clause-ran : goal.returns-clause-ran
returns-clause-ran g c = rw (← c.self.view_is) (run_counted (seen c.self.inside) _ 0 c.loop-rule.invariant.ran)

pub returns-in_err-fire-clause-broken : goal.returns-in_err-fire-clause-broken
returns-in_err-fire-clause-broken g c =
    let p = err_from_is_err_and c.from_residual.result c.from_residual.ensures.1 in
    let m = c.loop-rule.self in
    let r = c.in_err-fire.field-0.0 in
    rw (← c.self.view_is, p.1, p.2) (λ is.
    let failed : r ≡ answers.JournalFailed = cc in
    let tells = subst (λ x. TellsJournal (Err x) m.journal c.fire.new.self.journal) failed c.in_err-fire.ensures.journal in
    let unfired = subst (λ x. IsUnfired x m c.fire.new.self) failed c.in_err-fire.ensures.err in
    cut_counted (seen c.self.inside) _ 0 (cut_off _ m c.fire.new.self c.in-Some.rule c.loop-rule.invariant.ran (sym c.in-Some.ensures.rule) c.in-Some.ensures.holds unfired tells.now (c.in_err-fire.ensures.broken (ap Err failed))))

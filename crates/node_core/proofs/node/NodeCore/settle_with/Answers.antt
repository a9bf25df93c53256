use Rattle.std.proofs.Common.{None, inl, refl, sym, subst, ◌≡◌}
use Rattle.std.proofs.lemmas.Result.{err_from_is_err_and}
use Rattle.protocol.specs.History.{Settle}
use Rattle.node_core.specs.Core.{Core, Stands}
use Rattle.node_core.proofs.Stepwise.{settled, stands_counted}
use Rattle.node_core.proofs.Called.{halted_answers, halted_done, halted_tells, running_answers, run_answer, tells_begun, run_begun, run_left}
use Rattle.node_core.proofs.Broken.{run_broken}
use Rattle.protocol.specs.declared.refusal.Refusal.TheVariants as answers
use Rattle.node_core.proofs.node.NodeCore.settle_with.Goals as goal

pub returns-in_err-begin-clause-answer : goal.returns-in_err-begin-clause-answer
returns-in_err-begin-clause-answer g c =
    let p = err_from_is_err_and c.from_residual.result c.from_residual.ensures.1 in
    rw (p.1, p.2) (halted_answers c.args.self.now.journal.failed None c.in_err-begin.field-0.0 c.in_err-begin.ensures.halted.0 c.in_err-begin.ensures.halted.1)

pub returns-in_err-begin-clause-done : goal.returns-in_err-begin-clause-done
returns-in_err-begin-clause-done g c =
    let p = err_from_is_err_and c.from_residual.result c.from_residual.ensures.1 in
    rw (p.1, p.2) (λ n s. halted_done n Settle c.in_err-begin.field-0.0 c.args.self.now c.begin.new.self c.in_err-begin.ensures.halted.0 c.in_err-begin.ensures.halted.1 c.in_err-begin.ensures.new)

pub returns-in_err-begin-clause-journal : goal.returns-in_err-begin-clause-journal
returns-in_err-begin-clause-journal g c =
    let p = err_from_is_err_and c.from_residual.result c.from_residual.ensures.1 in
    rw (p.1, p.2) (halted_tells c.in_err-begin.field-0.0 c.args.self.now c.begin.new.self c.in_err-begin.ensures.halted.0 c.in_err-begin.ensures.new)

pub returns-clause-answer : goal.returns-clause-answer
returns-clause-answer g c = running_answers c.args.self.now.journal.failed None c.fire_all.result c.in_ok-begin.ensures.running (run_answer None c.fire_all.result refl c.fire_all.ensures.answer)

pub returns-clause-journal : goal.returns-clause-journal
returns-clause-journal g c = tells_begun c.fire_all.result c.args.self.now c.begin.new.self c.fire_all.new.self c.in_ok-begin.ensures.new c.fire_all.ensures.journal

pub returns-clause-done : goal.returns-clause-done
returns-clause-done g c = λ n s.
    let mid : Core = c.begin.new.self in
    inl (run_begun n Settle c.args.self.now mid mid c.fire_all.new.self c.in_ok-begin.ensures.new (settled n mid (subst (Stands n) (sym c.in_ok-begin.ensures.new) (stands_counted n c.args.self.now 0 s))) c.fire_all.ensures.ran)

pub returns-clause-refused : goal.returns-clause-refused
returns-clause-refused g c = run_left c.fire_all.result _ c.fire_all.ensures.answer

-- ---- the device failed

pub returns-in_err-begin-clause-broken : goal.returns-in_err-begin-clause-broken
returns-in_err-begin-clause-broken g c =
    let p = err_from_is_err_and c.from_residual.result c.from_residual.ensures.1 in
    let halted = c.in_err-begin.ensures.halted.0 in
    rw (p.1, p.2) (λ is. absurd (let e : answers.Halted ≡ answers.JournalFailed = cc in cc))

pub returns-clause-broken : goal.returns-clause-broken
returns-clause-broken g c = λ is n s.
    let mid : Core = c.begin.new.self in
    run_broken n Settle c.args.self.now mid mid c.fire_all.new.self c.in_ok-begin.ensures.new (settled n mid (subst (Stands n) (sym c.in_ok-begin.ensures.new) (stands_counted n c.args.self.now 0 s))) (c.fire_all.ensures.broken is)

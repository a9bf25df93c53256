use Rattle.std.proofs.Common.{◌≡◌, false, inl, Some, Err, refl, sym, ap, subst, ◌∙◌}
use Rattle.std.proofs.lemmas.Result.{err_from_is_err_and}
use Rattle.protocol.specs.State.{State, TimedOut}
use Rattle.protocol.specs.Rules.{holds}
use Rattle.protocol.specs.Calls.{timeout_answer}
use Rattle.protocol.proofs.Timeouts.{timeout_law}
use Rattle.round_machine.specs.Timing.{IsRefusal as IsTimeoutRefusal}
use Rattle.protocol.specs.History.{Due}
use Rattle.node_core.specs.Core.{Core, Stands, context_of, setting_of}
use Rattle.node_core.proofs.Due.{due_passed, some_refused, timeout_refused, timeout_other}
use Rattle.node_core.proofs.Stepwise.{none_fired, called, stands_counted, taken_counted}
use Rattle.node_core.proofs.Telling.{tells_itself, tells_from}
use Rattle.node_core.proofs.Called.{halted_answers, halted_done, halted_tells, running_answers, run_answer, tells_begun, run_begun, run_left, unfired_refusal, unfired_done, unfired_left}
use Rattle.node_core.proofs.Broken.{input_broken, run_broken}
use Rattle.protocol.specs.declared.refusal.Refusal.TheVariants as answers
use Rattle.node_core.specs.Calls.{IsUnfired}
use Rattle.node_core.proofs.node.NodeCore.fire_timeout_with.Goals as goal

pub returns-in_err-begin-clause-answer : goal.returns-in_err-begin-clause-answer
returns-in_err-begin-clause-answer g c =
    let p = err_from_is_err_and c.from_residual.result c.from_residual.ensures.1 in
    rw (p.1, p.2) (halted_answers c.args.self.now.journal.failed _ c.in_err-begin.field-0.0 c.in_err-begin.ensures.halted.0 c.in_err-begin.ensures.halted.1)

pub returns-in_err-begin-clause-done : goal.returns-in_err-begin-clause-done
returns-in_err-begin-clause-done g c =
    let p = err_from_is_err_and c.from_residual.result c.from_residual.ensures.1 in
    rw (p.1, p.2) (λ n s. halted_done n (Due c.args.timeout) c.in_err-begin.field-0.0 c.args.self.now c.begin.new.self c.in_err-begin.ensures.halted.0 c.in_err-begin.ensures.halted.1 c.in_err-begin.ensures.new)

pub returns-in_err-begin-clause-journal : goal.returns-in_err-begin-clause-journal
returns-in_err-begin-clause-journal g c =
    let p = err_from_is_err_and c.from_residual.result c.from_residual.ensures.1 in
    rw (p.1, p.2) (halted_tells c.in_err-begin.field-0.0 c.args.self.now c.begin.new.self c.in_err-begin.ensures.halted.0 c.in_err-begin.ensures.new)

-- ---- it would begin a round above the last one

pub returns-in-Some-clause-answer : goal.returns-in-Some-clause-answer
returns-in-Some-clause-answer g c =
    let old : Core = c.args.self.now in
    let t = c.args.timeout in
    let told = subst (λ (x : Core). IsTimeoutRefusal (timeout_answer x.machine.state t) c.timeout_refusal.result) (c.self.view_is ∙ c.in_ok-begin.ensures.new) c.timeout_refusal.ensures in
    let some = subst (λ o. IsTimeoutRefusal (timeout_answer old.machine.state t) o) c.in-Some.is told in
    running_answers old.journal.failed (timeout_answer old.machine.state t) (Err c.in-Some.refusal) c.in_ok-begin.ensures.running (timeout_refused _ c.in-Some.refusal some)

pub returns-in-Some-clause-done : goal.returns-in-Some-clause-done
returns-in-Some-clause-done g c =
    let old : Core = c.args.self.now in
    let t = c.args.timeout in
    let told = subst (λ (x : Core). IsTimeoutRefusal (timeout_answer x.machine.state t) c.timeout_refusal.result) (c.self.view_is ∙ c.in_ok-begin.ensures.new) c.timeout_refusal.ensures in
    let some = some_refused (timeout_answer old.machine.state t) c.in-Some.refusal (subst (λ o. IsTimeoutRefusal (timeout_answer old.machine.state t) o) c.in-Some.is told) in
    rw (c.in_ok-begin.ensures.new) (λ n s.
    let there = subst (λ (x : State). timeout_answer x t ≡ Some some.0) s.state some.1 in
    let law = timeout_law (setting_of old) old.machine.me n t in
    let h = subst (λ (x : State). holds (context_of old) x (TimedOut t) ≡ false) (sym s.state) (law.0 some.0 there).2 in
    let taken = due_passed n t old s h in
    inl (0, called n (Due t) 0 old (record old { fired = 0 }) (record old { fired = 0 }) (taken_counted n (Due t) old 0 taken) (none_fired _ (record old { fired = 0 }) (stands_counted _ old 0 taken.stands)) refl))

pub returns-in-Some-clause-journal : goal.returns-in-Some-clause-journal
returns-in-Some-clause-journal g c =
    let old : Core = c.args.self.now in
    let t = c.args.timeout in
    let told = subst (λ (x : Core). IsTimeoutRefusal (timeout_answer x.machine.state t) c.timeout_refusal.result) (c.self.view_is ∙ c.in_ok-begin.ensures.new) c.timeout_refusal.ensures in
    let some = subst (λ o. IsTimeoutRefusal (timeout_answer old.machine.state t) o) c.in-Some.is told in
    tells_begun (Err c.in-Some.refusal) old c.begin.new.self c.begin.new.self c.in_ok-begin.ensures.new (tells_itself c.in-Some.refusal c.begin.new.self.journal (timeout_other _ c.in-Some.refusal some))

-- ---- its rule does not fire

pub returns-in_err-fire_due-clause-answer : goal.returns-in_err-fire_due-clause-answer
returns-in_err-fire_due-clause-answer g c =
    let p = err_from_is_err_and c.from_residual-in_err-fire_due.result c.from_residual-in_err-fire_due.ensures.1 in
    let old : Core = c.args.self.now in
    let told = subst (λ (x : Core). IsTimeoutRefusal (timeout_answer x.machine.state c.args.timeout) c.timeout_refusal.result) (c.self.view_is ∙ c.in_ok-begin.ensures.new) c.timeout_refusal.ensures in
    let none = subst (λ o. IsTimeoutRefusal (timeout_answer old.machine.state c.args.timeout) o) c.in_default.is told in
    rw (p.1, p.2) (running_answers c.args.self.now.journal.failed _ (Err c.in_err-fire_due.field-0.0) c.in_ok-begin.ensures.running (unfired_refusal _ c.in_err-fire_due.field-0.0 c.begin.new.self c.fire_due.new.self none c.in_err-fire_due.ensures.err))

pub returns-in_err-fire_due-clause-done : goal.returns-in_err-fire_due-clause-done
returns-in_err-fire_due-clause-done g c =
    let p = err_from_is_err_and c.from_residual-in_err-fire_due.result c.from_residual-in_err-fire_due.ensures.1 in
    rw (p.1, p.2) (λ n s. unfired_done n (Due c.args.timeout) c.in_err-fire_due.field-0.0 c.args.self.now c.begin.new.self c.fire_due.new.self c.in_ok-begin.ensures.new c.in_err-fire_due.ensures.err)

pub returns-in_err-fire_due-clause-journal : goal.returns-in_err-fire_due-clause-journal
returns-in_err-fire_due-clause-journal g c =
    let p = err_from_is_err_and c.from_residual-in_err-fire_due.result c.from_residual-in_err-fire_due.ensures.1 in
    rw (p.1, p.2) (tells_begun (Err c.in_err-fire_due.field-0.0) c.args.self.now c.begin.new.self c.fire_due.new.self c.in_ok-begin.ensures.new c.in_err-fire_due.ensures.journal)

pub returns-in_err-fire_due-clause-refused : goal.returns-in_err-fire_due-clause-refused
returns-in_err-fire_due-clause-refused g c =
    let p = err_from_is_err_and c.from_residual-in_err-fire_due.result c.from_residual-in_err-fire_due.ensures.1 in
    rw (p.1, p.2) (unfired_left c.in_err-fire_due.field-0.0 c.begin.new.self c.fire_due.new.self _ c.in_err-fire_due.ensures.err)

-- ---- it fires, or does not fit

pub returns-clause-answer : goal.returns-clause-answer
returns-clause-answer g c =
    let old : Core = c.args.self.now in
    let told = subst (λ (x : Core). IsTimeoutRefusal (timeout_answer x.machine.state c.args.timeout) c.timeout_refusal.result) (c.self.view_is ∙ c.in_ok-begin.ensures.new) c.timeout_refusal.ensures in
    let none = subst (λ o. IsTimeoutRefusal (timeout_answer old.machine.state c.args.timeout) o) c.in_default.is told in
    running_answers old.journal.failed (timeout_answer old.machine.state c.args.timeout) c.fire_all.result c.in_ok-begin.ensures.running (run_answer _ c.fire_all.result none c.fire_all.ensures.answer)

pub returns-clause-done : goal.returns-clause-done
returns-clause-done g c = λ n s.
    let old : Core = c.args.self.now in
    let b = c.in_ok-begin.ensures.new in
    let s0 = subst (Stands n) (sym b) (stands_counted n old 0 s) in
    inl (run_begun n (Due c.args.timeout) old c.begin.new.self c.fire_due.new.self c.fire_all.new.self b (c.in_ok-fire_due.ensures.ok n s0) c.fire_all.ensures.ran)

pub returns-clause-journal : goal.returns-clause-journal
returns-clause-journal g c =
    let old : Core = c.args.self.now in
    tells_begun c.fire_all.result old c.begin.new.self c.fire_all.new.self c.in_ok-begin.ensures.new (tells_from c.fire_all.result c.begin.new.self.journal c.fire_due.new.self.journal c.fire_all.new.self.journal c.in_ok-fire_due.ensures.journal c.fire_all.ensures.journal)

pub returns-clause-refused : goal.returns-clause-refused
returns-clause-refused g c = run_left c.fire_all.result _ c.fire_all.ensures.answer

-- ---- the device failed

pub returns-in_err-begin-clause-broken : goal.returns-in_err-begin-clause-broken
returns-in_err-begin-clause-broken g c =
    let p = err_from_is_err_and c.from_residual.result c.from_residual.ensures.1 in
    let halted = c.in_err-begin.ensures.halted.0 in
    rw (p.1, p.2) (λ is. absurd (let e : answers.Halted ≡ answers.JournalFailed = cc in cc))

pub returns-in-Some-clause-broken : goal.returns-in-Some-clause-broken
returns-in-Some-clause-broken g c =
    let old : Core = c.args.self.now in
    let t = c.args.timeout in
    let told = subst (λ (x : Core). IsTimeoutRefusal (timeout_answer x.machine.state t) c.timeout_refusal.result) (c.self.view_is ∙ c.in_ok-begin.ensures.new) c.timeout_refusal.ensures in
    let some = subst (λ o. IsTimeoutRefusal (timeout_answer old.machine.state t) o) c.in-Some.is told in
    λ is. absurd (timeout_other _ c.in-Some.refusal some cc)

pub returns-in_err-fire_due-clause-broken : goal.returns-in_err-fire_due-clause-broken
returns-in_err-fire_due-clause-broken g c =
    let p = err_from_is_err_and c.from_residual-in_err-fire_due.result c.from_residual-in_err-fire_due.ensures.1 in
    let r = c.in_err-fire_due.field-0.0 in
    let begun : Core = c.begin.new.self in
    let b = c.in_ok-begin.ensures.new in
    rw (p.1, p.2) (λ is n s.
    let failed : r ≡ answers.JournalFailed = cc in
    input_broken n (Due c.args.timeout) c.args.self.now begun c.fire_due.new.self b (subst (λ x. IsUnfired x begun c.fire_due.new.self) failed c.in_err-fire_due.ensures.err)
    (c.in_err-fire_due.ensures.broken (ap Err failed) n (subst (Stands n) (sym b) (stands_counted n c.args.self.now 0 s))))

pub returns-clause-broken : goal.returns-clause-broken
returns-clause-broken g c = λ is n s.
    let b = c.in_ok-begin.ensures.new in
    run_broken n (Due c.args.timeout) c.args.self.now c.begin.new.self c.fire_due.new.self c.fire_all.new.self b (c.in_ok-fire_due.ensures.ok n (subst (Stands n) (sym b) (stands_counted n c.args.self.now 0 s))) (c.fire_all.ensures.broken is)

use Rattle.std.proofs.Common.{◌≡◌, ◌≢◌, ℕ, List, Option, None, Result, Ok, Err, inl, sym, ap, subst, ◌∙◌}
use Rattle.std.proofs.lemmas.Result.{err_from_is_err_and}
use Rattle.protocol.specs.Refusals.{Refusal, first_cause, answer}
use Rattle.protocol.specs.Messages.{Message}
use Rattle.protocol.specs.State.{Node}
use Rattle.protocol.specs.Rings.{IsRingOf}
use Rattle.protocol.specs.History.{Given}
use Rattle.frame_admission.specs.Gate.{admission, answer_behind, state_causes, IsAnswer as IsAdmitted}
use Rattle.frame_admission.proofs.Causes.{gate_law, let_in_message}
use Rattle.node_core.specs.Core.{Core, Stands, setting_of}
use Rattle.protocol.specs.declared.refusal.Refusal.{Refusal as Answer}
use Rattle.protocol.specs.Answers.{IsAnswer, IsRefusal}
use Rattle.node_core.specs.Calls.{IsDone, IsRefused}
use Rattle.node_core.specs.Seen.{seen}
use Rattle.node_core.proofs.Known.{known}
use Rattle.node_core.proofs.Given.{gate_refused, refused_done, received_taken}
use Rattle.node_core.proofs.Telling.{tells_itself, tells_from, inadmissible_other}
use Rattle.node_core.proofs.Stepwise.{stands_counted}
use Rattle.node_core.proofs.Called.{halted_answers, halted_done, halted_tells, running_answers, run_answer, tells_begun, run_begun, refused_call, refused_left, run_left}
use Rattle.node_core.proofs.node.NodeCore.handle_examined.Given as given
use Rattle.node_core.proofs.Broken.{input_broken, run_broken, arrival_left}
use Rattle.protocol.specs.declared.refusal.Refusal.TheVariants as answers
use Rattle.node_core.proofs.node.NodeCore.handle_examined.Goals as goal

pub returns-in_err-begin-clause-answer : goal.returns-in_err-begin-clause-answer
returns-in_err-begin-clause-answer g c =
    let p = err_from_is_err_and c.from_residual.result c.from_residual.ensures.1 in
    rw (p.1, p.2) (λ n s. halted_answers c.args.self.now.journal.failed _ c.in_err-begin.field-0.0 c.in_err-begin.ensures.halted.0 c.in_err-begin.ensures.halted.1)

pub returns-in_err-begin-clause-done : goal.returns-in_err-begin-clause-done
returns-in_err-begin-clause-done g c =
    let p = err_from_is_err_and c.from_residual.result c.from_residual.ensures.1 in
    rw (p.1, p.2) (λ n s. halted_done n (Given c.args.examined) c.in_err-begin.field-0.0 c.args.self.now c.begin.new.self c.in_err-begin.ensures.halted.0 c.in_err-begin.ensures.halted.1 c.in_err-begin.ensures.new)

pub returns-in_err-begin-clause-journal : goal.returns-in_err-begin-clause-journal
returns-in_err-begin-clause-journal g c =
    let p = err_from_is_err_and c.from_residual.result c.from_residual.ensures.1 in
    rw (p.1, p.2) (halted_tells c.in_err-begin.field-0.0 c.args.self.now c.begin.new.self c.in_err-begin.ensures.halted.0 c.in_err-begin.ensures.new)

-- ---- the gate refuses

gate_told : (g : given.Over) (c : goal.After-from_residual-in_err-let_in g) → IsAdmitted (admission (setting_of c.args.self.now) c.args.self.now.machine.me c.args.examined) (Err c.in_err-let_in.field-0.0)
gate_told g c =
    let core : Core = seen c.self.inside in
    subst (λ (x : Core). IsAdmitted (admission (setting_of x) x.machine.me c.args.examined) (Err c.in_err-let_in.field-0.0)) (c.self.view_is ∙ c.in_ok-begin.ensures.new) (c.in_err-let_in.ensures.answer (setting_of core) core.machine.me (known core c.self.invariant))

refusal : (g : given.Over) (c : goal.After-from_residual-in_err-let_in g) (n : Node) → IsRefusal (answer (setting_of c.args.self.now) c.args.self.now.machine.me n c.args.examined) c.in_err-let_in.field-0.0
refusal g c n =
    let old : Core = c.args.self.now in
    let e = c.in_err-let_in.field-0.0 in
    subst (λ (o : Option Refusal). IsRefusal o e) (sym (gate_law (setting_of old) old.machine.me n c.args.examined)) (gate_refused (setting_of old) old.machine.me n _ e (gate_told g c))

other : (g : given.Over) (c : goal.After-from_residual-in_err-let_in g) → c.in_err-let_in.field-0.0 ≢ answers.JournalFailed
other g c = inadmissible_other _ c.in_err-let_in.field-0.0 (gate_told g c)

pub returns-in_err-let_in-clause-answer : goal.returns-in_err-let_in-clause-answer
returns-in_err-let_in-clause-answer g c =
    let p = err_from_is_err_and c.from_residual-in_err-let_in.result c.from_residual-in_err-let_in.ensures.1 in
    rw (p.1, p.2) (λ n s. running_answers c.args.self.now.journal.failed _ (Err c.in_err-let_in.field-0.0) c.in_ok-begin.ensures.running (refusal g c n))

pub returns-in_err-let_in-clause-done : goal.returns-in_err-let_in-clause-done
returns-in_err-let_in-clause-done g c =
    let p = err_from_is_err_and c.from_residual-in_err-let_in.result c.from_residual-in_err-let_in.ensures.1 in
    let r = c.in_err-let_in.field-0.0 in
    rw (p.1, p.2) (λ n s. subst (IsDone n (Given c.args.examined) (Err r) c.args.self.now) (sym c.in_ok-begin.ensures.new) (refused_done n c.args.examined r c.args.self.now s (refusal g c n) (other g c)))

pub returns-in_err-let_in-clause-journal : goal.returns-in_err-let_in-clause-journal
returns-in_err-let_in-clause-journal g c =
    let p = err_from_is_err_and c.from_residual-in_err-let_in.result c.from_residual-in_err-let_in.ensures.1 in
    let r = c.in_err-let_in.field-0.0 in
    rw (p.1, p.2) (tells_begun (Err r) c.args.self.now c.begin.new.self c.begin.new.self c.in_ok-begin.ensures.new (tells_itself r c.begin.new.self.journal (other g c)))

-- ---- the message is refused

admitted : (old begun core : Core) (frame : List ℕ) (m : Message) → core ≡ begun → begun ≡ record old { fired = 0 } → admission (setting_of core) core.machine.me frame ≡ Ok m → admission (setting_of old) old.machine.me frame ≡ Ok m
admitted old begun core frame m v b a = subst (λ (x : Core). admission (setting_of x) x.machine.me frame ≡ Ok m) (v ∙ b) a

pub take-requires-clause-admitted : goal.take-requires-clause-admitted
take-requires-clause-admitted g c =
    let old : Core = c.args.self.now in
    rw c.in_ok-begin.ensures.new ((let_in_message (setting_of old) old.machine.me c.args.examined c.in_ok-let_in.let_in.message (admitted c.args.self.now c.begin.new.self (seen c.self.inside) c.args.examined c.in_ok-let_in.let_in.message c.self.view_is c.in_ok-begin.ensures.new (c.in_ok-let_in.ensures.answer (setting_of (seen c.self.inside)) c.self.inside.state.me (known (seen c.self.inside) c.self.invariant)).0)).1)

pub take-requires-clause-found : goal.take-requires-clause-found
take-requires-clause-found g c = λ s p h.
    (c.in_ok-let_in.ensures.answer s p (subst (IsRingOf s p) (sym (ap (λ (x : Core). x.ring) c.self.view_is)) h)).1

-- what the state's causes say of the message
judged : (old begun : Core) (n : Node) (frame : List ℕ) (m : Message) (result : Result (Unit {0}) Answer) → begun ≡ record old { fired = 0 } → admission (setting_of old) old.machine.me frame ≡ Ok m
    → IsAnswer (first_cause (state_causes (setting_of begun) begun.machine.me n m m.body)) result → IsAnswer (answer (setting_of old) old.machine.me n frame) result
judged old begun n frame m result b a h =
    let there = gate_law (setting_of old) old.machine.me n frame ∙ ap (answer_behind (setting_of old) old.machine.me n) a in
    subst (λ (o : Option Refusal). IsAnswer o result) (sym there) (subst (λ (x : Core). IsAnswer (first_cause (state_causes (setting_of x) x.machine.me n m m.body)) result) b h)

pub returns-in_err-take-clause-answer : goal.returns-in_err-take-clause-answer
returns-in_err-take-clause-answer g c =
    let p = err_from_is_err_and c.from_residual-in_err-take.result c.from_residual-in_err-take.ensures.1 in
    let old : Core = c.args.self.now in
    let b = c.in_ok-begin.ensures.new in
    rw (p.1, p.2) (λ n s. running_answers old.journal.failed _ (Err c.in_err-take.field-0.0) c.in_ok-begin.ensures.running
    (judged old c.begin.new.self n c.args.examined c.in_ok-let_in.let_in.message (Err c.in_err-take.field-0.0) b (admitted c.args.self.now c.begin.new.self (seen c.self.inside) c.args.examined c.in_ok-let_in.let_in.message c.self.view_is c.in_ok-begin.ensures.new (c.in_ok-let_in.ensures.answer (setting_of (seen c.self.inside)) c.self.inside.state.me (known (seen c.self.inside) c.self.invariant)).0) (c.in_err-take.ensures.answer n (subst (Stands n) (sym b) (stands_counted n old 0 s)))))

pub returns-in_err-take-clause-done : goal.returns-in_err-take-clause-done
returns-in_err-take-clause-done g c =
    let p = err_from_is_err_and c.from_residual-in_err-take.result c.from_residual-in_err-take.ensures.1 in
    let old : Core = c.args.self.now in
    let b = c.in_ok-begin.ensures.new in
    rw (p.1, p.2) (λ n s. refused_call n c.args.examined c.in_err-take.field-0.0 old c.begin.new.self c.take.new.self s b
    (judged old c.begin.new.self n c.args.examined c.in_ok-let_in.let_in.message (Err c.in_err-take.field-0.0) b (admitted c.args.self.now c.begin.new.self (seen c.self.inside) c.args.examined c.in_ok-let_in.let_in.message c.self.view_is c.in_ok-begin.ensures.new (c.in_ok-let_in.ensures.answer (setting_of (seen c.self.inside)) c.self.inside.state.me (known (seen c.self.inside) c.self.invariant)).0) (c.in_err-take.ensures.answer n (subst (Stands n) (sym b) (stands_counted n old 0 s)))) c.in_err-take.ensures.err)

pub returns-in_err-take-clause-journal : goal.returns-in_err-take-clause-journal
returns-in_err-take-clause-journal g c =
    let p = err_from_is_err_and c.from_residual-in_err-take.result c.from_residual-in_err-take.ensures.1 in
    rw (p.1, p.2) (tells_begun (Err c.in_err-take.field-0.0) c.args.self.now c.begin.new.self c.take.new.self c.in_ok-begin.ensures.new c.in_err-take.ensures.journal)

pub returns-in_err-take-clause-refused : goal.returns-in_err-take-clause-refused
returns-in_err-take-clause-refused g c =
    let p = err_from_is_err_and c.from_residual-in_err-take.result c.from_residual-in_err-take.ensures.1 in
    rw (p.1, p.2) (refused_left c.in_err-take.field-0.0 c.args.self.now c.begin.new.self c.take.new.self c.in_ok-begin.ensures.new c.in_err-take.ensures.err)

-- ---- it is taken in

pub returns-clause-answer : goal.returns-clause-answer
returns-clause-answer g c = λ n s.
    let old : Core = c.args.self.now in
    let b = c.in_ok-begin.ensures.new in
    let none = judged old c.begin.new.self n c.args.examined c.in_ok-let_in.let_in.message (Ok tt) b (admitted c.args.self.now c.begin.new.self (seen c.self.inside) c.args.examined c.in_ok-let_in.let_in.message c.self.view_is c.in_ok-begin.ensures.new (c.in_ok-let_in.ensures.answer (setting_of (seen c.self.inside)) c.self.inside.state.me (known (seen c.self.inside) c.self.invariant)).0) (c.in_ok-take.ensures.answer n (subst (Stands n) (sym b) (stands_counted n old 0 s))) in
    running_answers old.journal.failed _ c.fire_all.result c.in_ok-begin.ensures.running (run_answer _ c.fire_all.result none c.fire_all.ensures.answer)

pub returns-clause-done : goal.returns-clause-done
returns-clause-done g c = λ n s.
    let old : Core = c.args.self.now in
    let begun : Core = c.begin.new.self in
    let m = c.in_ok-let_in.let_in.message in
    let b = c.in_ok-begin.ensures.new in
    let s0 = subst (Stands n) (sym b) (stands_counted n old 0 s) in
    let none = judged old begun n c.args.examined m (Ok tt) b (admitted c.args.self.now c.begin.new.self (seen c.self.inside) c.args.examined c.in_ok-let_in.let_in.message c.self.view_is c.in_ok-begin.ensures.new (c.in_ok-let_in.ensures.answer (setting_of (seen c.self.inside)) c.self.inside.state.me (known (seen c.self.inside) c.self.invariant)).0) (c.in_ok-take.ensures.answer n s0) in
    let read = (let_in_message (setting_of old) old.machine.me c.args.examined m (admitted c.args.self.now c.begin.new.self (seen c.self.inside) c.args.examined c.in_ok-let_in.let_in.message c.self.view_is c.in_ok-begin.ensures.new (c.in_ok-let_in.ensures.answer (setting_of (seen c.self.inside)) c.self.inside.state.me (known (seen c.self.inside) c.self.invariant)).0)).0 in
    inl (run_begun n (Given c.args.examined) old begun c.take.new.self c.fire_all.new.self b
    (received_taken n c.args.examined m begun c.take.new.self read (subst (λ (x : Core). answer (setting_of x) x.machine.me n c.args.examined ≡ None) (sym b) none) (c.in_ok-take.ensures.ok n s0)) c.fire_all.ensures.ran)

pub returns-clause-journal : goal.returns-clause-journal
returns-clause-journal g c =
    let old : Core = c.args.self.now in
    tells_begun c.fire_all.result old c.begin.new.self c.fire_all.new.self c.in_ok-begin.ensures.new (tells_from c.fire_all.result c.begin.new.self.journal c.take.new.self.journal c.fire_all.new.self.journal c.in_ok-take.ensures.journal c.fire_all.ensures.journal)

pub returns-clause-refused : goal.returns-clause-refused
returns-clause-refused g c = run_left c.fire_all.result _ c.fire_all.ensures.answer

-- ---- the device failed

pub returns-in_err-begin-clause-broken : goal.returns-in_err-begin-clause-broken
returns-in_err-begin-clause-broken g c =
    let p = err_from_is_err_and c.from_residual.result c.from_residual.ensures.1 in
    let halted = c.in_err-begin.ensures.halted.0 in
    rw (p.1, p.2) (λ is. absurd (let e : answers.Halted ≡ answers.JournalFailed = cc in cc))

pub returns-in_err-let_in-clause-broken : goal.returns-in_err-let_in-clause-broken
returns-in_err-let_in-clause-broken g c =
    let p = err_from_is_err_and c.from_residual-in_err-let_in.result c.from_residual-in_err-let_in.ensures.1 in
    rw (p.1, p.2) (λ is. absurd (other g c cc))

pub returns-in_err-take-clause-broken : goal.returns-in_err-take-clause-broken
returns-in_err-take-clause-broken g c =
    let p = err_from_is_err_and c.from_residual-in_err-take.result c.from_residual-in_err-take.ensures.1 in
    let old : Core = c.args.self.now in
    let begun : Core = c.begin.new.self in
    let new : Core = c.take.new.self in
    let r = c.in_err-take.field-0.0 in
    let m = c.in_ok-let_in.let_in.message in
    let frame = c.args.examined in
    let b = c.in_ok-begin.ensures.new in
    let admission = (admitted c.args.self.now c.begin.new.self (seen c.self.inside) c.args.examined c.in_ok-let_in.let_in.message c.self.view_is c.in_ok-begin.ensures.new (c.in_ok-let_in.ensures.answer (setting_of (seen c.self.inside)) c.self.inside.state.me (known (seen c.self.inside) c.self.invariant)).0) in
    let read = (let_in_message (setting_of old) old.machine.me frame m admission).0 in
    rw (p.1, p.2) (λ is n s.
    let failed : r ≡ answers.JournalFailed = cc in
    let s0 = subst (Stands n) (sym b) (stands_counted n old 0 s) in
    let left = c.in_err-take.ensures.broken (ap Err failed) n s0 in
    let told = judged old begun n frame m (Err r) b admission (c.in_err-take.ensures.answer n s0) in
    let none = subst (IsRefusal (answer (setting_of old) old.machine.me n frame)) failed told in
    let here = subst (λ (x : Core). answer (setting_of x) x.machine.me n frame ≡ None) (sym b) none in
    input_broken n (Given frame) old begun new b (subst (λ x. IsRefused x begun new) failed c.in_err-take.ensures.err) (arrival_left begun n frame m new.journal read here left))

pub returns-clause-broken : goal.returns-clause-broken
returns-clause-broken g c = λ is n s.
    let old : Core = c.args.self.now in
    let begun : Core = c.begin.new.self in
    let m = c.in_ok-let_in.let_in.message in
    let b = c.in_ok-begin.ensures.new in
    let s0 = subst (Stands n) (sym b) (stands_counted n old 0 s) in
    let admission = (admitted c.args.self.now c.begin.new.self (seen c.self.inside) c.args.examined c.in_ok-let_in.let_in.message c.self.view_is c.in_ok-begin.ensures.new (c.in_ok-let_in.ensures.answer (setting_of (seen c.self.inside)) c.self.inside.state.me (known (seen c.self.inside) c.self.invariant)).0) in
    let none = judged old begun n c.args.examined m (Ok tt) b admission (c.in_ok-take.ensures.answer n s0) in
    let read = (let_in_message (setting_of old) old.machine.me c.args.examined m admission).0 in
    run_broken n (Given c.args.examined) old begun c.take.new.self c.fire_all.new.self b
    (received_taken n c.args.examined m begun c.take.new.self read (subst (λ (x : Core). answer (setting_of x) x.machine.me n c.args.examined ≡ None) (sym b) none) (c.in_ok-take.ensures.ok n s0)) (c.fire_all.ensures.broken is)

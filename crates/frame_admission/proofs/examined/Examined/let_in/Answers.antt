use Rattle.std.proofs.lemmas.Result.{err_from_is_err_and}
use Rattle.frame_admission.proofs.Causes.{unread_answer, refused_answer, let_in_answer}
use Rattle.frame_admission.proofs.examined.Examined.let_in.Goals as goal

pub returns-in_err-message-clause-answer : goal.returns-in_err-message-clause-answer
returns-in_err-message-clause-answer c = λ s p h.
    let e = err_from_is_err_and c.from_residual.result c.from_residual.ensures.1 in
    let read = rw c.in_err-message.was at c.self.invariant.read in
    rw (← c.self.view_is, e.1, e.2) (unread_answer s p c.self.inside.frame.now c.in_err-message.field-0.0 read)

pub returns-in_err-found-clause-answer : goal.returns-in_err-found-clause-answer
returns-in_err-found-clause-answer c = λ s p h.
    let e = err_from_is_err_and c.from_residual-in_err-found.result c.from_residual-in_err-found.ensures.1 in
    let read = rw c.in_ok-message.was at c.self.invariant.read in
    rw (← c.self.view_is, e.1, e.2) (refused_answer s p c.self.inside.frame.now c.in_ok-message.message read c.in_err-found.field-0.0 (c.in_err-found.ensures.checked s p h))

pub returns-clause-answer : goal.returns-clause-answer
returns-clause-answer c = λ s p h.
    let read = rw c.in_ok-message.was at c.self.invariant.read in
    let found = c.in_ok-found.ensures.checked s p h in
    rw (← c.self.view_is) (let_in_answer s p c.self.inside.frame.now c.in_ok-message.message read found.0, found.1)

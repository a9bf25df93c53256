use Rattle.std.proofs.Common.{sym, subst}
use Rattle.world_schedule.specs.Handed.{told_numbers}
use Rattle.world_schedule.specs.Making.{IsMetBy}
use Rattle.world_schedule.specs.Validators.{request_of}
use Rattle.world_schedule.proofs.validator.Validator.make.Goals as goal

pub returns-in-Settle-clause-met : goal.returns-in-Settle-clause-met
returns-in-Settle-clause-met c = λ s n h st own health.
    let p = c.args.self.now.number in
    subst (λ r. IsMetBy s p n h (request_of r) (told_numbers c.settle.result) c.args.self.now.core.outgoing c.settle.new.core) (sym c.in-Settle.is) (c.settle.ensures.met s p n h st health)

pub returns-in-Take-clause-met : goal.returns-in-Take-clause-met
returns-in-Take-clause-met c = λ s n h st own health.
    let p = c.args.self.now.number in
    subst (λ r. IsMetBy s p n h (request_of r) (told_numbers c.hand_frame.result) c.args.self.now.core.outgoing c.hand_frame.new.core) (sym c.in-Take.is) (c.hand_frame.ensures.met s p n h st health)

pub returns-in-Expire-clause-met : goal.returns-in-Expire-clause-met
returns-in-Expire-clause-met c = λ s n h st own health.
    let p = c.args.self.now.number in
    subst (λ r. IsMetBy s p n h (request_of r) (told_numbers c.hand_timeout.result) c.args.self.now.core.outgoing c.hand_timeout.new.core) (sym c.in-Expire.is) (c.hand_timeout.ensures.met s p n h st health)

pub returns-in-Ask-clause-met : goal.returns-in-Ask-clause-met
returns-in-Ask-clause-met c = λ s n h st own health.
    subst (λ r. IsMetBy s c.args.self.now.number n h (request_of r) (told_numbers c.ask.result) c.args.self.now.core.outgoing c.ask.new.self.core) (sym c.in-Ask.is) (c.ask.ensures.met s n h st own health)

pub returns-in-Resend-clause-met : goal.returns-in-Resend-clause-met
returns-in-Resend-clause-met c = λ s n h st own health.
    subst (λ r. IsMetBy s c.args.self.now.number n h (request_of r) (told_numbers c.resend.result) c.args.self.now.core.outgoing c.resend.new.self.core) (sym c.in-Resend.is) (c.resend.ensures.met s n h st health)

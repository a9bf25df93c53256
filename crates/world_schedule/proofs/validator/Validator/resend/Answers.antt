use Rattle.world_schedule.proofs.Meeting.{meets_resend}
use Rattle.world_schedule.proofs.validator.Validator.resend.Goals as goal

pub returns-clause-met : goal.returns-clause-met
returns-clause-met c = λ s n h st health.
    meets_resend s c.args.self.now.number n h c.args.self.now.core c.resend.new.self c.resend.result st health c.resend.ensures.answer c.resend.ensures.refusal (c.resend.ensures.ok n st.stands) c.resend.ensures.err

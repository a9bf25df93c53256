use Rattle.protocol.specs.History.{Given}
use Rattle.world_schedule.proofs.Answered.{answered_law}
use Rattle.world_schedule.proofs.Clauses.{at_err, at_ok}
use Rattle.world_schedule.proofs.Meeting.{meets_input}
use Rattle.world_schedule.proofs.Serving.{not_halted}
use Rattle.world_schedule.proofs.handing.hand_frame.Goals as goal

pub returns-clause-met : goal.returns-clause-met
returns-clause-met g c = λ s p n h st health. meets_input s p n h (Given c.args.frame.now) c.args.core.now c.handle.new.self c.handle.result st health (record {
  answer = c.handle.ensures.answer n st.stands;
  journal = c.handle.ensures.journal;
  done = c.handle.ensures.done n st.stands;
  broken = λ e. c.handle.ensures.broken e n st.stands;
  refused = at_err _ c.handle.result c.handle.ensures.refused;
  quiet = at_ok _ c.handle.result c.handle.ensures.quiet;
})

pub returns-clause-answered : goal.returns-clause-answered
returns-clause-answered g c = λ s p n st. answered_law s p n c.args.core.now st (Given c.args.frame.now) c.handle.result c.handle.new.self (record {
  answer = c.handle.ensures.answer n st.stands;
  journal = c.handle.ensures.journal;
  done = c.handle.ensures.done n st.stands;
  broken = λ e. c.handle.ensures.broken e n st.stands;
  refused = at_err _ c.handle.result c.handle.ensures.refused;
  quiet = at_ok _ c.handle.result c.handle.ensures.quiet;
})

pub returns-clause-halted : goal.returns-clause-halted
returns-clause-halted g c = λ s p n st serves. not_halted c.args.core.now.journal.failed _ c.handle.result serves (c.handle.ensures.answer n st.stands)

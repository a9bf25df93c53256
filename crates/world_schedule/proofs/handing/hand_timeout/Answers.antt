use Rattle.protocol.specs.History.{Due}
use Rattle.world_schedule.proofs.Answered.{answered_law}
use Rattle.world_schedule.proofs.Clauses.{at_err, at_ok}
use Rattle.world_schedule.proofs.Meeting.{meets_input}
use Rattle.world_schedule.proofs.Serving.{not_halted}
use Rattle.world_schedule.proofs.handing.hand_timeout.Goals as goal

pub returns-clause-met : goal.returns-clause-met
returns-clause-met g c = λ s p n h st health. meets_input s p n h (Due c.args.timeout) c.args.core.now c.fire_timeout.new.self c.fire_timeout.result st health (record {
  answer = c.fire_timeout.ensures.answer;
  journal = c.fire_timeout.ensures.journal;
  done = c.fire_timeout.ensures.done n st.stands;
  broken = λ e. c.fire_timeout.ensures.broken e n st.stands;
  refused = at_err _ c.fire_timeout.result c.fire_timeout.ensures.refused;
  quiet = at_ok _ c.fire_timeout.result c.fire_timeout.ensures.quiet;
})

pub returns-clause-answered : goal.returns-clause-answered
returns-clause-answered g c = λ s p n st. answered_law s p n c.args.core.now st (Due c.args.timeout) c.fire_timeout.result c.fire_timeout.new.self (record {
  answer = c.fire_timeout.ensures.answer;
  journal = c.fire_timeout.ensures.journal;
  done = c.fire_timeout.ensures.done n st.stands;
  broken = λ e. c.fire_timeout.ensures.broken e n st.stands;
  refused = at_err _ c.fire_timeout.result c.fire_timeout.ensures.refused;
  quiet = at_ok _ c.fire_timeout.result c.fire_timeout.ensures.quiet;
})

pub returns-clause-halted : goal.returns-clause-halted
returns-clause-halted g c = λ s p n st serves. not_halted c.args.core.now.journal.failed _ c.fire_timeout.result serves (c.fire_timeout.ensures.answer)

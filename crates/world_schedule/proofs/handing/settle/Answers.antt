use Rattle.protocol.specs.History.{Settle}
use Rattle.world_schedule.proofs.Answered.{answered_law}
use Rattle.world_schedule.proofs.Clauses.{at_err, at_ok}
use Rattle.world_schedule.proofs.Meeting.{meets_input}
use Rattle.world_schedule.proofs.Serving.{not_halted}
use Rattle.world_schedule.proofs.handing.settle.Goals as goal

pub returns-clause-met : goal.returns-clause-met
returns-clause-met g c = λ s p n h st health. meets_input s p n h Settle c.args.core.now c.settle.new.self c.settle.result st health (record {
  answer = c.settle.ensures.answer;
  journal = c.settle.ensures.journal;
  done = c.settle.ensures.done n st.stands;
  broken = λ e. c.settle.ensures.broken e n st.stands;
  refused = at_err _ c.settle.result c.settle.ensures.refused;
  quiet = at_ok _ c.settle.result c.settle.ensures.quiet;
})

pub returns-clause-answered : goal.returns-clause-answered
returns-clause-answered g c = λ s p n st. answered_law s p n c.args.core.now st Settle c.settle.result c.settle.new.self (record {
  answer = c.settle.ensures.answer;
  journal = c.settle.ensures.journal;
  done = c.settle.ensures.done n st.stands;
  broken = λ e. c.settle.ensures.broken e n st.stands;
  refused = at_err _ c.settle.result c.settle.ensures.refused;
  quiet = at_ok _ c.settle.result c.settle.ensures.quiet;
})

pub returns-clause-halted : goal.returns-clause-halted
returns-clause-halted g c = λ s p n st serves. not_halted c.args.core.now.journal.failed _ c.settle.result serves (c.settle.ensures.answer)

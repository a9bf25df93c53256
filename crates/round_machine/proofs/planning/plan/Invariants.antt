use Rattle.round_machine.proofs.planning.plan.Given as goal

abbrev pub ghost-plan_decision : goal.ghost-plan_decision
ghost-plan_decision g a = g.g

abbrev pub ghost-fresh_content : goal.ghost-fresh_content
ghost-fresh_content g a = g.g

abbrev pub ghost-plan_timeout : goal.ghost-plan_timeout
ghost-plan_timeout g a = g.g

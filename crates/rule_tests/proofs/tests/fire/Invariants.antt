use Rattle.rule_tests.proofs.tests.fire.Given as goal

abbrev pub ghost-plan : goal.ghost-plan
ghost-plan g a = g.g

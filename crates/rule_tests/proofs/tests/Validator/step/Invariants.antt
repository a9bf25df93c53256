use Rattle.rule_tests.proofs.tests.Validator.step.Given as goal

abbrev pub ghost-fire : goal.ghost-fire
ghost-fire g a = g.g

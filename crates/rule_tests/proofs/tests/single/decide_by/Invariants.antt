use Rattle.std.proofs.Common.{true, []}
use Rattle.rule_tests.proofs.tests.single.decide_by.Given as goal

abbrev pub ghost-plan_by_bundle : goal.ghost-plan_by_bundle
ghost-plan_by_bundle g a = record { context = record { powers = a.state.now.powers; me = a.state.now.me; genuine = λ _. true; vouches = λ _ _. true; certified = λ b. b.precommits; own_tags = λ _ _ _. [] }; bundle = a.bundle }

use Rattle.std.proofs.Common.{true, []}
use Rattle.rule_tests.proofs.tests.single.foretell_start.Given as goal

abbrev pub ghost-plan : goal.ghost-plan
ghost-plan g a = record { powers = a.state.now.powers; me = a.state.now.me; genuine = λ _. true; vouches = λ _ _. true; certified = λ b. b.precommits; own_tags = λ _ _ _. [] }

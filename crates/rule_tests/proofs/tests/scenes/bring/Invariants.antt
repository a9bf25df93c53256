use Rattle.std.proofs.Common.{false, []}
use Rattle.rule_tests.proofs.tests.scenes.bring.Given as goal

abbrev pub ghost-time_out : goal.ghost-time_out
ghost-time_out g a = record { powers = a.self.now.state.powers; me = a.self.now.state.me; genuine = λ _. a.self.now.genuine; vouches = λ _ _. false; certified = λ _. []; own_tags = λ _ _ _. a.self.now.own_tags }

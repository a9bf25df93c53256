use Rattle.std.proofs.Common.{refl, false, Bool, List, [], ℕ}
use Rattle.protocol.specs.State.{Context}
use Rattle.rule_tests.proofs.tests.Validator.hear_vote.Goals as goal

abbrev context : List ℕ → ℕ → Bool → Context
context powers me genuine = record { powers = powers; me = me; genuine = λ _. genuine; vouches = λ _ _. false; certified = λ _. []; own_tags = λ _ _ _. [] }

pub invariant_of-self : goal.invariant_of-self
invariant_of-self c =
    let v = c.args.self.now in
    record { told = (c.take_vote.ensures.agrees (context v.state.powers v.state.me v.genuine) (record { powers = refl; me = refl; genuine = v.told })).genuine }

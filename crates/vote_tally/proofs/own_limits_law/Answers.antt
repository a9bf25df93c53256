use Rattle.vote_tally.proofs.OwnLimits.{vote_law, proposal_law}
use Rattle.vote_tally.proofs.own_limits_law.Goals as goal

pub returns : goal.returns
returns c = λ a b. (λ v same. vote_law a b v same, λ q same. proposal_law a b q same)

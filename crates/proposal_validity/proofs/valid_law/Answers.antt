use Rattle.proposal_validity.proofs.Follows.{valid_law}
use Rattle.proposal_validity.proofs.valid_law.Goals as goal

pub returns : goal.returns
returns c = valid_law

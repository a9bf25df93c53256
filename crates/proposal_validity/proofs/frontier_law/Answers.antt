use Rattle.proposal_validity.proofs.Follows.{frontier_law}
use Rattle.proposal_validity.proofs.frontier_law.Goals as goal

pub returns : goal.returns
returns c = frontier_law

use Rattle.shared_headline.proofs.shared_law.Goals as goal
use Rattle.shared_headline.proofs.Lives.{shared_law}

pub returns : goal.returns
returns c = shared_law c.subscribers_law.ensures

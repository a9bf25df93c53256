use Rattle.fair_worlds.proofs.fair_law.Goals as goal
use Rattle.fair_worlds.proofs.Fair.{fair_law}

pub returns : goal.returns
returns c = fair_law

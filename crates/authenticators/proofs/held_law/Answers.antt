use Rattle.authenticators.proofs.Laws.{held_law}
use Rattle.authenticators.proofs.held_law.Goals as goal

pub returns : goal.returns
returns c = held_law

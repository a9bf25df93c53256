use Rattle.message_laws.proofs.same_law.Goals as goal
use Rattle.message_laws.proofs.Same.{same_law}

pub returns : goal.returns
returns c = same_law

use Rattle.message_laws.proofs.taken_law.Goals as goal
use Rattle.message_laws.proofs.Taken.{taken_law}

pub returns : goal.returns
returns c = taken_law

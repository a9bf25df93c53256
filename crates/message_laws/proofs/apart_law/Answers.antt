use Rattle.message_laws.proofs.apart_law.Goals as goal
use Rattle.message_laws.proofs.Apart.{apart_law}

pub returns : goal.returns
returns c = apart_law

use Rattle.message_laws.proofs.read_law.Goals as goal
use Rattle.message_laws.proofs.Apart.{read_law}

pub returns : goal.returns
returns c = read_law

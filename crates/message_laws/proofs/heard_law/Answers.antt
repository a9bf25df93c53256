use Rattle.message_laws.proofs.heard_law.Goals as goal
use Rattle.message_laws.proofs.Heard.{heard_law}

pub returns : goal.returns
returns c = heard_law

use Rattle.client_order.proofs.sessions_law.Goals as goal
use Rattle.client_order.proofs.Sessions.{sessions_law}

pub returns : goal.returns
returns c = sessions_law

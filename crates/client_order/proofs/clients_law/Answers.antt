use Rattle.client_order.proofs.clients_law.Goals as goal
use Rattle.client_order.proofs.Sessions.{clients_law}

pub returns : goal.returns
returns c = clients_law

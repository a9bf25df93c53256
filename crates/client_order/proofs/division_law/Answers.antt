use Rattle.client_order.proofs.division_law.Goals as goal
use Rattle.client_order.proofs.Sessions.{division_law}

pub returns : goal.returns
returns c = division_law

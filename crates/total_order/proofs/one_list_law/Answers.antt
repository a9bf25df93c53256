use Rattle.total_order.proofs.one_list_law.Goals as goal
use Rattle.total_order.proofs.Longest.{one_list_law}

pub returns : goal.returns
returns c = one_list_law

use Rattle.total_order.proofs.one_decision_law.Goals as goal
use Rattle.total_order.proofs.Marks.{one_decision_law}

pub returns : goal.returns
returns c = one_decision_law

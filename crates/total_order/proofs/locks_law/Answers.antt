use Rattle.total_order.proofs.locks_law.Goals as goal
use Rattle.total_order.proofs.Marks.{locks_law}

pub returns : goal.returns
returns c = locks_law

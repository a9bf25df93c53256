use Rattle.locked_node.proofs.Certifying.{counts}
use Rattle.locked_node.proofs.laws.count_law.Goals as goal

pub returns : goal.returns
returns c = counts

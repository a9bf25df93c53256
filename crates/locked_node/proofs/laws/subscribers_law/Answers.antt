use Rattle.locked_node.proofs.Subscribers.{subscribers}
use Rattle.locked_node.proofs.laws.subscribers_law.Goals as goal

pub returns : goal.returns
returns c = subscribers

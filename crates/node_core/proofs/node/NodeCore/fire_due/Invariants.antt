use Rattle.node_core.specs.Core.{context_of}
use Rattle.node_core.proofs.node.NodeCore.fire_due.Given as goal

abbrev pub ghost-fire : goal.ghost-fire
ghost-fire g a = context_of a.self.now

use Rattle.node_core.specs.Core.{context_of}
use Rattle.node_core.proofs.node.NodeCore.take_bundle.Given as goal

abbrev pub ghost-decide : goal.ghost-decide
ghost-decide g a = record { context = context_of a.self.now; bundle = a.bundle }

use Rattle.node_core.proofs.node.NodeCore.fire.Given as goal

abbrev pub ghost-prepare : goal.ghost-prepare
ghost-prepare g a = g.g

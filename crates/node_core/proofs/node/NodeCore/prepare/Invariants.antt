use Rattle.node_core.proofs.node.NodeCore.prepare.Given as goal

abbrev pub ghost-plan : goal.ghost-plan
ghost-plan g a = g.g

use Rattle.node_core.proofs.node.NodeCore.decide.Given as goal

abbrev pub ghost-plan_by_bundle : goal.ghost-plan_by_bundle
ghost-plan_by_bundle g a = g.came

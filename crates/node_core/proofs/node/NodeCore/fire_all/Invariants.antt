use Rattle.round_machine.proofs.Ending.{left}
use Rattle.node_core.specs.Core.{context_of}
use Rattle.node_core.specs.Calls.{Serves}
use Rattle.node_core.specs.Running.{HasRun}
use Rattle.node_core.proofs.node.NodeCore.fire_all.Given as goal

abbrev pub ghost-fire : goal.ghost-fire
ghost-fire g a = context_of a.self.now

abbrev pub invariant-loop-rule : goal.invariant-loop-rule
invariant-loop-rule g l = record {
  ran : HasRun l.initial.self l.self;
  serves : Serves l.initial.self.journal l.self.journal;
}

abbrev pub decreases-loop-rule : goal.decreases-loop-rule
decreases-loop-rule g l = left l.self.machine.state

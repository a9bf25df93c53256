use Rattle.locked_node.specs.Feeding.{IsFed, AreMore}
use Rattle.locked_node.proofs.feeding.feed.Given as goal

abbrev pub invariant-loop : goal.invariant-loop
invariant-loop g l = IsFed l.decisions l.fed × AreMore l.initial.fed l.fed

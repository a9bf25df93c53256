use Rattle.locked_node.specs.Feeding.{AreFed, AreOffered}
use Rattle.locked_node.proofs.feeding.feed_all.Given as goal

abbrev pub invariant-loop-fed : goal.invariant-loop-fed
invariant-loop-fed g l = AreFed l.decisions l.fed-items × AreOffered l.decisions l.fed-index l.initial.fed-items l.fed-items

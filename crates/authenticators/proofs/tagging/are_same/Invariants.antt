use Rattle.std.proofs.Common.{length}
use Rattle.authenticators.proofs.Bits.{Compared}
use Rattle.authenticators.proofs.tagging.are_same.Given as goal

abbrev pub invariant-loop-one : goal.invariant-loop-one
invariant-loop-one l = Compared (length l.yielded) l.left l.right l.difference

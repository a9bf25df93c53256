use Rattle.mempool.proofs.Standings.{GoesOn}
use Rattle.mempool.proofs.count_going_on.Given as goal

abbrev pub invariant-loop-i : goal.invariant-loop-i
invariant-loop-i l = GoesOn l.fn.standing l.waiting l.i l.reached

use Rattle.std.proofs.Common.{arith}
use Rattle.proposer_turns.proofs.Next.{total_more, total_most}
use Rattle.proposer_turns.proofs.Turns.of.Goals as goal

pub overflow_add-before : goal.overflow_add-before
overflow_add-before c = omega (arith, total_most c.args.powers.now c.loop-smaller.smaller, c.loop-smaller.invariant, c.power_of-before.ensures, c.total-cycle.ensures.total, c.total-cycle.ensures.small)

pub loop-smaller-preserved : goal.loop-smaller-preserved
loop-smaller-preserved c = omega (arith, total_more c.args.powers.now c.loop-smaller.smaller, c.loop-smaller.invariant, c.power_of-before.ensures)

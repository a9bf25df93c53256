use Rattle.std.proofs.Common.{◌+◌, ◌≤◌, length, arith, refl, sym, ◌∙◌, subst}
use Rattle.std.proofs.lemmas.List.{take_all}
use Rattle.protocol.specs.declared.standing.Standing.{Standing}
use Rattle.mempool.proofs.Standings.{GoesOn, one_more, stops, all_go_on}
use Rattle.mempool.proofs.count_going_on.Goals as goal

pub loop-i-init : goal.loop-i-init
loop-i-init c = refl

pub returns-then-not-admits-clause-items : goal.returns-then-not-admits-clause-items
returns-then-not-admits-clause-items c =
    stops c.args.standing c.loop-i.reached c.args.waiting.now c.loop-i.i c.index-waiting-i.result c.loop-i-test.true c.index-waiting-i.is c.loop-i.invariant (sym c.admits.ensures ∙ c.if-not-admits.true)

pub loop-i-preserved : goal.loop-i-preserved
loop-i-preserved c = subst (λ (s : Standing). GoesOn c.args.standing c.args.waiting.now (c.loop-i.i + 1) s) (sym c.left_by-reached.ensures)
    (one_more c.args.standing c.loop-i.reached c.args.waiting.now c.loop-i.i c.index-waiting-i.result c.loop-i-test.true c.index-waiting-i.is c.loop-i.invariant (sym c.admits.ensures ∙ c.if-not-admits.false))

pub returns-clause-items : goal.returns-clause-items
returns-clause-items c = take_all (length c.args.waiting.now) c.args.waiting.now le ∙ all_go_on c.args.standing c.loop-i.reached c.args.waiting.now c.loop-i.i c.loop-i-test.false c.loop-i.invariant
  where
    le : length c.args.waiting.now ≤ length c.args.waiting.now
    le = omega arith

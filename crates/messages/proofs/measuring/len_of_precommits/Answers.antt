use Rattle.std.proofs.Common.{◌≤◌, length, arith}
use Rattle.std.proofs.lemmas.List.{take_all}
use Rattle.std.proofs.lemmas.List.Elements.{All-more, recursion_from_All}
use Rattle.std.proofs.lemmas.Result.{err_from_is_err_and}
use Rattle.messages.specs.Grammar.{IsPrecommit}
use Rattle.messages.specs.Checking.{precommits_len}
use Rattle.messages.proofs.Lengths.{precommits_fail, precommits_more, precommits_done}
use Rattle.messages.proofs.measuring.len_of_precommits.Goals as goal

pub returns-in_err-len-clause-len : goal.returns-in_err-len-clause-len
returns-in_err-len-clause-len c =
    let p = err_from_is_err_and c.from_residual.result c.from_residual.ensures.1 in
    rw (p.1, p.2) (precommits_fail c.loop-precommit.total c.loop-precommit.precommit-index c.args.precommits.now c.precommit-item.result (precommits_len c.args.precommits.now) c.loop-precommit-test.true c.precommit-item.is c.loop-precommit.invariant.rest c.in_err-len.field-0.0 c.in_err-len.ensures.len)

pub loop-precommit-preserved : goal.loop-precommit-preserved
loop-precommit-preserved c = record {
  rest = precommits_more c.loop-precommit.total c.loop-precommit.precommit-index c.args.precommits.now c.precommit-item.result (precommits_len c.args.precommits.now) c.loop-precommit-test.true c.precommit-item.is c.loop-precommit.invariant.rest c.in_ok-len.len c.in_ok-len.ensures.len;
  small = omega (arith, c.in_ok-len.ensures.small);
  fit = All-more IsPrecommit c.args.precommits.now c.loop-precommit.precommit-index c.precommit-item.result c.loop-precommit-test.true c.loop-precommit.invariant.fit (rw (← c.precommit-item.is) c.in_ok-len.ensures.fits);
}

pub returns-clause-len : goal.returns-clause-len
returns-clause-len c = precommits_done c.loop-precommit.total c.loop-precommit.precommit-index c.args.precommits.now (precommits_len c.args.precommits.now) c.loop-precommit-test.false c.loop-precommit.invariant.rest

pub returns-clause-fits : goal.returns-clause-fits
returns-clause-fits c = let le : length c.args.precommits.now ≤ c.loop-precommit.precommit-index = c.loop-precommit-test.false in recursion_from_All IsPrecommit c.args.precommits.now (rw (take_all c.loop-precommit.precommit-index c.args.precommits.now le) at c.loop-precommit.invariant.fit)

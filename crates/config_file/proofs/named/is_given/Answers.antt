use Rattle.std.proofs.Common.{◌∙◌, sym, arith, rules}
use Rattle.config_file.proofs.Walking.{given_here, given_behind, given_end}
use Rattle.config_file.proofs.named.is_given.Goals as goal

pub returns-then-gives : goal.returns-then-gives
returns-then-gives g c =
    sym (given_here g.T.AsStr.text c.args.words.now c.args.name.now c.loop-word.word-index c.word-item.result (omega arith) (search rules)) ∙ c.loop-word.invariant

pub loop-word-preserved : goal.loop-word-preserved
loop-word-preserved g c =
    sym (given_behind g.T.AsStr.text c.args.words.now c.args.name.now c.loop-word.word-index c.word-item.result (omega arith) (search rules)) ∙ c.loop-word.invariant

pub returns : goal.returns
returns g c = sym (given_end g.T.AsStr.text c.args.words.now c.args.name.now c.loop-word.word-index (omega arith)) ∙ c.loop-word.invariant

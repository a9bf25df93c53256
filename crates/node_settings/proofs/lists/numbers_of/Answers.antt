use Rattle.std.proofs.Common.{◌∙◌, sym, map, arith, rules, List, ℕ, [], Bor}
use Rattle.node_settings.proofs.Numbers.{numbers_begin, numbers_fail, numbers_more, numbers_end}
use Rattle.node_settings.proofs.lists.numbers_of.Goals as goal

abbrev nothing : Bor (List ℕ)
nothing = record { ref_ptr = (0, 0); now = [] }

pub loop-word-init : goal.loop-word-init
loop-word-init c = rw c.in_ok-numbers.ensures.items (numbers_begin (map (λ word. word.now) c.args.words.now))

pub returns-in_default : goal.returns-in_default
returns-in_default c =
    sym c.loop-word.invariant ∙ numbers_fail c.args.words.now c.loop-word.word-index c.loop-word.numbers.items nothing (omega arith) (search rules)

pub loop-word-preserved : goal.loop-word-preserved
loop-word-preserved c =
    rw c.in_ok-push.ensures.items (numbers_more c.args.words.now c.loop-word.word-index c.loop-word.numbers.items nothing c.in-Some.number (omega arith) (search rules) ∙ c.loop-word.invariant)

pub returns : goal.returns
returns c =
    sym c.loop-word.invariant ∙ numbers_end c.args.words.now c.loop-word.word-index c.loop-word.numbers.items (omega arith)

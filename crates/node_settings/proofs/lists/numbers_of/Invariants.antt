use Rattle.std.proofs.Common.{◌≡◌, map}
use Rattle.node_settings.proofs.Numbers.{behind, numbers_from, numbers_in}
use Rattle.node_settings.proofs.lists.numbers_of.Given as goal

abbrev pub invariant-loop-word : goal.invariant-loop-word
invariant-loop-word l = behind l.numbers.items (numbers_from l.word-index l.words) ≡ numbers_in (map (λ word. word.now) l.words)

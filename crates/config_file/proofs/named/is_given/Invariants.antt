use Rattle.std.proofs.Common.{◌≡◌, map, drop}
use Rattle.config_file.specs.Named.{is_given}
use Rattle.config_file.proofs.named.is_given.Given as goal

abbrev pub invariant-loop-word : goal.invariant-loop-word
invariant-loop-word g l = is_given (map g.T.AsStr.text (drop l.word-index l.words)) l.name ≡ is_given (map g.T.AsStr.text l.words) l.name

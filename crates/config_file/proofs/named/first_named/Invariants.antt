use Rattle.std.proofs.Common.{◌≡◌, map, drop}
use Rattle.config_file.specs.Named.{named_in}
use Rattle.config_file.proofs.named.first_named.Given as goal

abbrev pub invariant-loop-place : goal.invariant-loop-place
invariant-loop-place g l = named_in (map g.T.AsStr.text (drop l.place l.words)) ≡ named_in (map g.T.AsStr.text l.words)

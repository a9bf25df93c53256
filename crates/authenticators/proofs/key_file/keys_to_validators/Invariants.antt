use Rattle.std.proofs.Common.{◌≡◌, List, ℕ, map, Some}
use Rattle.std.specs.List.{range_with_len}
use Rattle.authenticators.specs.Keys.{key_between}
use Rattle.authenticators.proofs.key_file.keys_to_validators.Given as goal

abbrev pub invariant-loop-to : goal.invariant-loop-to
invariant-loop-to l = map (λ (key : List ℕ). Some key) l.keys.items ≡ map (λ to. key_between l.lines l.from to) (range_with_len 0 l.to)

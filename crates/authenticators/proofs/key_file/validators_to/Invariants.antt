use Rattle.std.proofs.Common.{◌≡◌, List, ℕ, map, Some}
use Rattle.std.specs.List.{range_with_len}
use Rattle.authenticators.specs.Keys.{key_between}
use Rattle.authenticators.specs.declared.party.Party.TheVariants.{Validator}
use Rattle.authenticators.proofs.key_file.validators_to.Given as goal

abbrev pub invariant-loop-from : goal.invariant-loop-from
invariant-loop-from l = map (λ (key : List ℕ). Some key) l.keys.items ≡ map (λ from. key_between l.lines (Validator from) l.to) (range_with_len 0 l.from)

use Rattle.std.proofs.Common.{◌≡◌, map}
use Rattle.std.specs.List.{range_with_len}
use Rattle.authenticators.specs.Keys.{key_between}
use Rattle.authenticators.specs.declared.party.Party.TheVariants.{Client}
use Rattle.authenticators.proofs.key_file.clients_to.Given as goal

abbrev pub invariant-loop-from : goal.invariant-loop-from
invariant-loop-from l = l.keys.items ≡ map (λ from. key_between l.lines (Client from) l.to) (range_with_len 0 l.from)

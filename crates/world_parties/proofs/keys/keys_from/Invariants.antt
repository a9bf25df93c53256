use Rattle.std.proofs.Common.{◌≡◌, length, map}
use Rattle.protocol.specs.Messages.{below}
use Rattle.protocol.specs.Tags.{Validator}
use Rattle.world_parties.specs.Keys.{key_between}
use Rattle.world_parties.proofs.keys.keys_from.Given as goal

abbrev pub invariant-loop-to : goal.invariant-loop-to
invariant-loop-to l = (l.keys.items ≡ map (key_between (Validator l.sender)) (below l.to)) × (length l.keys.items ≡ l.to)

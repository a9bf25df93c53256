use Rattle.std.proofs.Common.{◌≡◌}
use Rattle.world_parties.specs.Keys.{tags_for}
use Rattle.world_parties.proofs.keys.tags_of.Given as goal

abbrev pub invariant-loop-to : goal.invariant-loop-to
invariant-loop-to l = l.tags.items ≡ tags_for l.right l.from l.to l.body

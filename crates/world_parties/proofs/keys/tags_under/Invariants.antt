use Rattle.std.proofs.Common.{◌≡◌, ℕ, List, map, take}
use Rattle.protocol.specs.Tags.{hmac}
use Rattle.world_parties.proofs.keys.tags_under.Given as goal

abbrev pub invariant-loop-key : goal.invariant-loop-key
invariant-loop-key l = l.tags.items ≡ map (λ (key : List ℕ). hmac key l.text) (take l.key-index l.keys)

use Rattle.std.proofs.Common.{◌≡◌, map, take}
use Rattle.authenticators.specs.Tags.{hmac}
use Rattle.authenticators.proofs.key_ring.tag_all.Given as goal

abbrev pub invariant-loop-key : goal.invariant-loop-key
invariant-loop-key l = l.tags.items ≡ map (λ key. hmac key l.body) (take l.key-index l.ring.to_validators)

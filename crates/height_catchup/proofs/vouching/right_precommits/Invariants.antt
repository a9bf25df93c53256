use Rattle.std.proofs.Common.{◌≡◌, ℕ}
use Rattle.std.specs.Prelude.{flat_map, find, option_to_list}
use Rattle.protocol.specs.Tags.{Setting}
use Rattle.protocol.specs.Messages.{below}
use Rattle.protocol.specs.Rings.{IsRingOf}
use Rattle.protocol.specs.Refusals.{is_vouching}
use Rattle.height_catchup.proofs.vouching.right_precommits.Given as goal

abbrev pub invariant-loop-validator : goal.invariant-loop-validator
invariant-loop-validator l = (c : Setting) (p : ℕ) → IsRingOf c p l.ring → l.precommits.items ≡ flat_map (λ i. option_to_list (find (is_vouching c p l.bundle i) l.bundle.precommits)) (below l.validator)

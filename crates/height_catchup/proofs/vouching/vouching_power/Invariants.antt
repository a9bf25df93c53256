use Rattle.std.proofs.Common.{◌≡◌, ℕ, ◌<◌, length, get_or, false}
use Rattle.protocol.specs.Tags.{Setting}
use Rattle.protocol.specs.Rings.{IsRingOf}
use Rattle.protocol.specs.Refusals.{bundle_senders}
use Rattle.height_catchup.proofs.vouching.vouching_power.Given as goal

abbrev pub invariant-loop-validator : goal.invariant-loop-validator
invariant-loop-validator l = record {
  marks : (c : Setting) (p i : ℕ) → c.powers ≡ l.powers → IsRingOf c p l.ring → i < l.validator → get_or l.marks i false ≡ bundle_senders c p l.bundle i;
  len : length l.marks ≡ 128;
}

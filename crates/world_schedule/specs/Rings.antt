-- What a validator sees of a setting is what its ring of keys has.
use Rattle.std.specs.Prelude.{◌≡◌, ℕ}
use Rattle.authenticators.specs.Ring.{Ring}
use Rattle.protocol.specs.Tags.{Setting}
use Rattle.protocol.specs.Rings.{IsRingOf}
use Rattle.world_schedule.specs.Seeing.{AreAlike}

-- Where one ring is validator p's in two settings of the same powers, they are alike to it.
abbrev pub RingLaw : Type 0
RingLaw = (p : ℕ) (c d : Setting) (ring : Ring) → c.powers ≡ d.powers → IsRingOf c p ring → IsRingOf d p ring → AreAlike p c d

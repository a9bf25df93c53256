-- Which keys a ring has.
use Rattle.std.specs.Prelude.{◌≡◌, ℕ, ◌<◌, cond, length, map, Some, None}
use Rattle.authenticators.specs.Ring.{Ring, incoming}
use Rattle.protocol.specs.Tags.{Setting, Validator, Client}
use Rattle.protocol.specs.Messages.{below}

-- The ring has the keys that validator p has in this setting: those of what each validator and each client sends to it, and those of what it sends.
pub record IsRingOf (c : Setting) (p : ℕ) (ring : Ring) : Type 0 where
  pub me : ring.me ≡ Validator p
  pub count : ring.count ≡ length c.powers
  pub from_validators : (i : ℕ) → i < length c.powers → incoming ring (Validator i) ≡ Some (c.key (Validator i) p)
  pub from_clients : (i : ℕ) → incoming ring (Client i) ≡ cond (c.clients i) (Some (c.key (Client i) p)) None
  pub to_validators : ring.to_validators ≡ map (c.key (Validator p)) (below (length c.powers))

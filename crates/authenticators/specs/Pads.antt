-- The two hashers of HMAC, after the blocks that a key makes.
use Rattle.std.specs.Prelude.{ℕ, List}
use Rattle.sha2.specs.Hashers.{Holds256}
use Rattle.authenticators.specs.Tags.{short_key, padded}
use Rattle.authenticators.specs.declared.tagging.Pads.{Pads}

pub record IsPadded (pads : Pads) (key : List ℕ) : Type 0 where
  pub inner : Holds256 pads.inner (padded (short_key key) 54)
  pub outer : Holds256 pads.outer (padded (short_key key) 92)

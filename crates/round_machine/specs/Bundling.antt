-- A bundle that decides.
use Rattle.protocol.specs.Messages.{Bundle}
use Rattle.protocol.specs.State.{Context}

-- a bundle as it came to a validator, with what the validator's rules know beside its state
pub record Came : Type 0 where
  pub context : Context
  pub bundle : Bundle

-- What a validator says: a record of its own.
use Rattle.std.specs.Prelude.{ℕ, Option, option_map}
use Rattle.protocol.specs.Messages.{Body, OfBundle, Record, Own, Decided, body_of}

pub record Pending : Type 0 where
  pub sender : ℕ
  pub entry : Record

-- the own message, or the decision as a bundle
abbrev pub body_in : ℕ → Record → Body
body_in sender (Own height round act) = body_of sender height round act
body_in sender (Decided b) = OfBundle b

abbrev pub pending_of : ℕ → Option Record → Option Pending
pending_of sender entry = option_map (λ e. record { sender = sender; entry = e }) entry

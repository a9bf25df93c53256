-- The keys of one party.
use Rattle.std.specs.Prelude.{◌≡◌, ℕ, ◌<◌, ◌≤◌, List, map, Option, None, IsSome, length, slice_get, slice_index_or}
use Rattle.authenticators.specs.Tags.{hmac}
use Rattle.authenticators.specs.declared.party.Party.{Party}
use Rattle.authenticators.specs.declared.party.Party.TheVariants.{Validator, Client}

-- The party, how many validators there are, and its keys, each list by the number of the other party.
pub record Ring : Type 0 where
  pub me : Party
  pub count : ℕ
  pub from_validators : List (List ℕ)
  pub from_clients : List (Option (List ℕ))
  pub to_validators : List (List ℕ)

-- the key of what this party sends to me
abbrev pub incoming : Ring → Party → Option (List ℕ)
incoming ring (Validator number) = slice_get ring.from_validators number
incoming ring (Client number) = slice_index_or ring.from_clients number None

-- the key of what I send to this validator
abbrev pub outgoing : Ring → ℕ → Option (List ℕ)
outgoing ring number = slice_get ring.to_validators number

-- how many validators send to this party
abbrev pub sender_count : Party → ℕ → ℕ
sender_count (Validator me) count = count
sender_count (Client me) count = 0

-- A party has a key with every validator: to send to it, and where it is a validator itself, to receive from it. What it sends to itself it receives under the same key.
-- No further validator has a key to send to it.
pub record IsWhole (ring : Ring) : Type 0 where
  pub sends : (number : ℕ) → number < ring.count → IsSome (outgoing ring number)
  pub receives : (me number : ℕ) → ring.me ≡ Validator me → number < ring.count → IsSome (incoming ring (Validator number))
  pub own : (me : ℕ) → ring.me ≡ Validator me → incoming ring (Validator me) ≡ outgoing ring me
  pub no_further : (number : ℕ) → ring.count ≤ number → incoming ring (Validator number) ≡ None
  pub all : length ring.to_validators ≡ ring.count

-- the tags of a body for the validators in turn
abbrev pub tags_of : Ring → List ℕ → List (List ℕ)
tags_of ring body = map (λ key. hmac key body) ring.to_validators

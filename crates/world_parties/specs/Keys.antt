-- The keys of a world's parties, and the tags under them.
use Rattle.std.specs.Prelude.{ℕ, cond, Option, List, ◌∷◌, ◌++◌, map, replicate, codes, nat_lt}
use Rattle.sha2.specs.Sha256.{sha256}
use Rattle.authenticators.specs.Party.{shown}
use Rattle.protocol.specs.Tags.{Setting, Party, Validator, hmac}
use Rattle.protocol.specs.Messages.{below}
use Rattle.world_parties.specs.Sets.{is_right_for}

-- the key of what a party sends to a validator: the digest of the text `tmsim FROM TO`
unfoldable pub key_between : Party → ℕ → List ℕ
key_between from to = sha256 (codes "tmsim " ++ (shown from ++ (32 ∷ shown (Validator to))))

-- validators with these powers, and this many clients
abbrev pub setting : List ℕ → ℕ → Setting
setting powers clients = record { powers = powers; clients = λ i. nat_lt i clients; key = key_between }

-- ---- tags of which only some are right

-- a right one, or zeros
abbrev pub tag_for : Option (List ℕ) → Party → List ℕ → ℕ → List ℕ
tag_for right from body q = cond (is_right_for right q) (hmac (key_between from q) body) (replicate 32 0)

-- for the validators in turn
abbrev pub tags_for : Option (List ℕ) → Party → ℕ → List ℕ → List (List ℕ)
tags_for right from validators body = map (tag_for right from body) (below validators)

-- The key file of a party, where `keys` are those of what each party sends to each validator.
use Rattle.std.specs.Prelude.{ℕ, cond, List, [], ◌∷◌, ◌++◌, ◌==◌}
use Rattle.std.specs.List.{flat_map}
use Rattle.hex.specs.Hex.{encode_lower}
use Rattle.authenticators.specs.Party.{shown}
use Rattle.protocol.specs.Tags.{Party, Validator, Client}
use Rattle.protocol.specs.Messages.{below}

-- `FROM TO KEY`
unfoldable pub key_line : (Party → ℕ → List ℕ) → Party → ℕ → List ℕ
key_line keys from to = shown from ++ (32 ∷ (shown (Validator to) ++ (32 ∷ encode_lower (keys from to))))

-- and a line feed
abbrev pub with_feed : List ℕ → List ℕ
with_feed line = line ++ (10 ∷ [])

-- what another validator sends to me, and what I send to it: one key where it is me
abbrev pub lines_with : (Party → ℕ → List ℕ) → ℕ → ℕ → List ℕ
lines_with keys me other = with_feed (key_line keys (Validator other) me) ++ cond (other == me) [] (with_feed (key_line keys (Validator me) other))

-- what a client sends to me
abbrev pub line_of_client : (Party → ℕ → List ℕ) → ℕ → ℕ → List ℕ
line_of_client keys me client = with_feed (key_line keys (Client client) me)

-- what I, a client, send to a validator
abbrev pub line_to : (Party → ℕ → List ℕ) → ℕ → ℕ → List ℕ
line_to keys client to = with_feed (key_line keys (Client client) to)

unfoldable pub validator_file : (Party → ℕ → List ℕ) → ℕ → ℕ → ℕ → List ℕ
validator_file keys me validators clients = flat_map (lines_with keys me) (below validators) ++ flat_map (line_of_client keys me) (below clients)

unfoldable pub client_file : (Party → ℕ → List ℕ) → ℕ → ℕ → List ℕ
client_file keys client validators = flat_map (line_to keys client) (below validators)

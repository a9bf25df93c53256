-- The key file of a validator.
use Rattle.std.specs.Prelude.{ℕ, cond, List, [], ◌∷◌, ◌++◌, ◌==◌}
use Rattle.std.specs.List.{flat_map}
use Rattle.hex.specs.Hex.{encode_lower}
use Rattle.authenticators.specs.Party.{shown}
use Rattle.protocol.specs.Tags.{Party, Validator, Client}
use Rattle.protocol.specs.Messages.{below}
use Rattle.world_parties.specs.Keys.{key_between}

-- `FROM TO KEY`
unfoldable pub key_line : Party → ℕ → List ℕ
key_line from to = shown from ++ (32 ∷ (shown (Validator to) ++ (32 ∷ encode_lower (key_between from to))))

-- and a line feed
abbrev pub with_feed : List ℕ → List ℕ
with_feed line = line ++ (10 ∷ [])

-- what another validator sends to me, and what I send to it: one key where it is me
abbrev pub lines_with : ℕ → ℕ → List ℕ
lines_with me other = with_feed (key_line (Validator other) me) ++ cond (other == me) [] (with_feed (key_line (Validator me) other))

abbrev pub line_of_client : ℕ → ℕ → List ℕ
line_of_client me client = with_feed (key_line (Client client) me)

unfoldable pub key_file : ℕ → ℕ → ℕ → List ℕ
key_file me validators clients = flat_map (lines_with me) (below validators) ++ flat_map (line_of_client me) (below clients)

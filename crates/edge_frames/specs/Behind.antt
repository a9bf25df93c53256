-- What a node has seen of the heights above its own.
use Rattle.std.specs.Prelude.{ℕ, Bool, false, ◌&&◌, nat_lt, if◌then◌else◌}

pub record Sight : Type 0 where
  -- how long a node waits that is one height behind
  pub moment : ℕ
  -- the greatest height of which a frame came, or 0, and when the first frame of it came
  pub highest : ℕ
  pub since : ℕ
  -- whether the node asked in its present height
  pub asked : Bool
  -- whether it asked in some height, and has not come to the greatest height since
  pub catching_up : Bool

abbrev pub sight : ℕ → ℕ → ℕ → Bool → Bool → Sight
sight moment highest since asked catching_up = record { moment = moment; highest = highest; since = since; asked = asked; catching_up = catching_up }

-- a frame of this height came now
abbrev pub with_seen : Sight → ℕ → ℕ → Sight
with_seen s height now = if nat_lt s.highest height then record s { highest = height; since = now } else s

-- the node decided, and is in this height
abbrev pub with_own : Sight → ℕ → Sight
with_own s own = record s { asked = false; catching_up = s.catching_up && nat_lt own s.highest }

-- Single transactions that wait.
use Rattle.std.specs.Prelude.{◌≡◌, ℕ, Bool, true, List, ◌&&◌, ◌==◌, nat_le}
use Rattle.protocol.specs.Values.{Tx, is_close}
use Rattle.protocol.specs.Messages.{◌∈◌}
use Rattle.protocol.specs.Tags.{Setting, tx_is_right}
use Rattle.protocol.specs.Queues.{Queue, all_waiting}

-- one of the transaction's session that has its number, or a higher one
abbrev pub is_not_below : Tx → Tx → Bool
is_not_below t u = (u.session == t.session) && nat_le t.number u.number

-- the close of the transaction's session
abbrev pub closes_session_of : Tx → Tx → Bool
closes_session_of t u = (u.session == t.session) && is_close u.op

-- what waits was found to have the right tag for validator p
abbrev pub HaveRightTags : Setting → ℕ → List Queue → Type 0
HaveRightTags c p queues = (t : Tx) → t ∈ all_waiting queues → tx_is_right c p t ≡ true

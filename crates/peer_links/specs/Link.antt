-- What the calls of a link answer and count.
use Rattle.std.specs.Prelude.{◌≡◌, ℕ, ◌+◌, ◌-◌, ◌^◌, ◌≤◌, min}
use Rattle.peer_links.specs.declared.link.Received.{Received}
use Rattle.peer_links.specs.declared.link.Received.TheVariants.{Piece, Idle, Ended, Failed}
use Rattle.peer_links.specs.declared.link.Sent.{Sent}
use Rattle.peer_links.specs.declared.link.Sent.TheVariants.{Taken, Idle as NoneTaken, Failed as SendFailed}

-- a piece has from 1 to 16,384 bytes
abbrev pub IsPiece : Received → Type 0
IsPiece (Piece n) = (1 ≤ n) × (n ≤ 16384)
IsPiece Idle = Unit {0}
IsPiece Ended = Unit {0}
IsPiece Failed = Unit {0}

-- of so many bytes from 1 to all were taken, if any were
abbrev pub IsTaken : Sent → ℕ → Type 0
IsTaken (Taken n) length = (1 ≤ n) × (n ≤ length)
IsTaken NoneTaken length = Unit {0}
IsTaken SendFailed length = Unit {0}

-- the failures that were counted and one more, up to the greatest u64
abbrev pub one_more : ℕ → ℕ
one_more before = min (before + 1) (2 ^ 64 - 1)

-- a failed read is counted, and nothing else is
abbrev pub Counts : Received → ℕ → ℕ → Type 0
Counts (Piece n) before now = now ≡ before
Counts Idle before now = now ≡ before
Counts Ended before now = now ≡ before
Counts Failed before now = now ≡ one_more before

-- a failed send is counted, and nothing else is
abbrev pub CountsSent : Sent → ℕ → ℕ → Type 0
CountsSent (Taken n) before now = now ≡ before
CountsSent NoneTaken before now = now ≡ before
CountsSent SendFailed before now = now ≡ one_more before

-- Which frames of a height are passed on next.
use Rattle.std.specs.Prelude.{◌≡◌, ◌<◌, ℕ, ◌+◌, ◌≤◌, ◌⊎◌, nat_lt, if◌then◌else◌, List, length, take, drop}
use Rattle.edge_frames.specs.Passing.{SentFrame, bytes_of}

-- as many frames and bytes as are passed on in one turn; one frame may have more bytes
pub record FitsTurn (fs : List SentFrame) : Type 0 where
  pub frames : length fs ≤ 256
  pub bytes : (length fs ≤ 1) ⊎ (bytes_of fs ≤ 524288)

-- where a turn over so many frames begins: at this place, if it is one of theirs, else at the first one
abbrev pub start : ℕ → ℕ → ℕ
start place count = if nat_lt place count then place else 0

abbrev pub rest : ℕ → List SentFrame → List SentFrame
rest place fs = drop (start place (length fs)) fs

-- It is the longest beginning that fits one turn of the frames from its start on, and the next turn begins behind it.
pub record IsTurn (fs : List SentFrame) (place : ℕ) (turn : List SentFrame) (behind : ℕ) : Type 0 where
  pub begins : turn ≡ take (length turn) (rest place fs)
  pub fits : FitsTurn turn
  pub longest : length turn < length (rest place fs) → ¬ FitsTurn (take (length turn + 1) (rest place fs))
  pub next : behind ≡ start (start place (length fs) + length turn) (length fs)

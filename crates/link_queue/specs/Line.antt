-- What waits on a link, and what came by.
use Rattle.std.specs.Prelude.{◌≡◌, ℕ, ◌≤◌, Bool, true, false, List, [], ◌∷◌, ◌++◌, length}
use Rattle.std.specs.List.{sum_by}

abbrev pub Frame : Type 0
Frame = List ℕ

-- how many bytes these have together
abbrev pub bytes_of : List Frame → ℕ
bytes_of frames = sum_by length frames

-- all that were taken in, all that were handed out, and what waits, each in order
pub record Line : Type 0 where
  pub accepted : List Frame
  pub taken : List Frame
  pub queued : List Frame
  pub closed : Bool

abbrev pub line : List Frame → List Frame → List Frame → Bool → Line
line accepted taken queued closed = record { accepted = accepted; taken = taken; queued = queued; closed = closed }

-- What was handed out followed by what waits is what was taken in, and at most 1,024 frames wait.
pub record IsInOrder (l : Line) : Type 0 where
  pub whole : l.accepted ≡ l.taken ++ l.queued
  pub room : length l.queued ≤ 1024

abbrev pub with_accepted : Line → Frame → Line
with_accepted l f = line (l.accepted ++ f ∷ []) l.taken (l.queued ++ f ∷ []) l.closed

-- the frame that waited longest was handed out
abbrev pub Handed : Line → Frame → Line → Type 0
Handed l f m = (l.queued ≡ f ∷ m.queued) × (m ≡ line l.accepted (l.taken ++ f ∷ []) m.queued l.closed)

-- nothing is left, and nothing will come
abbrev pub HasEnded : Line → Type 0
HasEnded l = (l.queued ≡ []) × (l.closed ≡ true)

-- nothing is there to be taken yet
abbrev pub IsIdle : Line → Type 0
IsIdle l = (l.queued ≡ []) × (l.closed ≡ false)

-- An own proposal of no transactions that waits.
use Rattle.std.specs.Prelude.{◌==◌, ℕ, Bool, false, if◌then◌else◌, Option, Some, None}
use Rattle.edge_frames.specs.Early.{Frame}

pub record Holding : Type 0 where
  -- the height of the last one that waited
  pub last : Option ℕ
  -- until when
  pub due : ℕ
  -- and its frame, while it waits
  pub frame : Option Frame

abbrev pub holding : Option ℕ → ℕ → Option Frame → Holding
holding last due frame = record { last = last; due = due; frame = frame }

abbrev pub is_of : ℕ → Option ℕ → Bool
is_of height None = false
is_of height (Some last) = last == height

-- what waits once a proposal of this height came: the first one of its height
abbrev pub holds : ℕ → Frame → ℕ → Holding → Holding
holds height frame due h = if is_of height h.last then h else holding (Some height) due (Some frame)

-- another one is let through once the first has gone
abbrev pub behind : Frame → Option Frame → Option Frame
behind frame None = Some frame
behind frame (Some first) = None

abbrev pub answers : ℕ → Frame → Holding → Option Frame
answers height frame h = if is_of height h.last then behind frame h.frame else None

abbrev pub due_with : ℕ → Option Frame → Option ℕ
due_with due None = None
due_with due (Some frame) = Some due

-- until when a frame waits, if one does
abbrev pub due_of : Holding → Option ℕ
due_of h = due_with h.due h.frame

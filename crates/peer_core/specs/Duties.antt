-- What is to be done next.
use Rattle.std.specs.Prelude.{ℕ, Bool, nat_lt, min, List, Option, Some, None}
use Rattle.protocol.specs.declared.types.Timeout.{Timeout}
use Rattle.edge_frames.specs.Behind.{Sight}
use Rattle.timeouts.specs.Waiting.{Waiting, placed, due_of}
use Rattle.peer_core.specs.declared.duty.Duty.{Duty}
use Rattle.peer_core.specs.declared.duty.Duty.TheVariants.{HandIn, Fire}

-- if a frame is handed in, this holds of its link's number and of its bytes
abbrev pub IfHandedIn : Option Duty → (ℕ → List ℕ → Type 0) → Type 0
IfHandedIn (Some (HandIn link frame)) holds = holds link.0 frame
IfHandedIn _ holds = Unit {0}

-- if a timeout is fired, this holds of it
abbrev pub IfFired : Option Duty → (Timeout → Type 0) → Type 0
IfFired (Some (Fire timeout)) holds = holds timeout
IfFired _ holds = Unit {0}

-- a plan in which this timeout, whose time begins now, waits as well
abbrev pub with_timeout : Waiting → ℕ → Timeout → Waiting
with_timeout plan now timeout = record plan { due = placed (due_of plan now timeout) plan.due }

-- the earlier one of a time and of when something is due
abbrev pub next_of : ℕ → Option ℕ → ℕ
next_of time None = time
next_of time (Some due) = min due time

-- a frame of a height above this one came
abbrev pub is_behind : ℕ → Sight → Bool
is_behind height sight = nat_lt height sight.highest

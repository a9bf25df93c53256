-- What waits in a plan, and what its calls make of that.
use Rattle.std.specs.Prelude.{ℕ, ◌+◌, ◌-◌, ◌*◌, ◌^◌, min, ◌||◌, List, [], ◌∷◌, ◌++◌, filter, Option, Some, None, Result, Ok, Err, nat_le, nat_lt, if◌then◌else◌}
use Rattle.protocol.specs.declared.types.Timeout.{Timeout}
use Rattle.timeouts.specs.declared.PlanFault.{PlanFault}
use Rattle.timeouts.specs.declared.PlanFault.TheVariants.{TooLong}
pub use Rattle.timeouts.specs.declared.Due.{Due}

-- How many milliseconds a timeout of round 0 lasts, how many more one of each further round, and those that wait, the earliest first.
pub record Waiting : Type 0 where
  pub start : ℕ
  pub delta : ℕ
  pub due : List Due

-- a plan in which nothing waits, or the fault
abbrev pub planned : ℕ → ℕ → Result Waiting PlanFault
planned start delta =
    if nat_lt 86400000 start || nat_lt 86400000 delta then Err TooLong
    else Ok (record { start = start; delta = delta; due = [] })

-- how long a timeout of this round lasts
abbrev pub lasting : Waiting → ℕ → ℕ
lasting plan round = plan.start + round * plan.delta

-- a timeout that is scheduled now, with the time at which it is due: at most the greatest one
abbrev pub due_of : Waiting → ℕ → Timeout → Due
due_of plan now timeout = record { at = min (now + lasting plan timeout.round) (2 ^ 64 - 1); timeout = timeout }

-- it stands behind all that are due no later, and before all that are due later
abbrev pub placed : Due → List Due → List Due
placed d ds = filter (λ e. nat_le e.at d.at) ds ++ d ∷ filter (λ e. nat_lt d.at e.at) ds

-- the first, where it is due now
abbrev pub given : ℕ → List Due → Option Timeout
given now [] = None
given now (d ∷ ds) = if nat_le d.at now then Some d.timeout else None

-- and those that wait on
abbrev pub left : ℕ → List Due → List Due
left now [] = []
left now (d ∷ ds) = if nat_le d.at now then ds else d ∷ ds

-- when the first is due
abbrev pub earliest : List Due → Option ℕ
earliest [] = None
earliest (d ∷ ds) = Some d.at

-- those of this height and of later ones
abbrev pub of_heights_from : ℕ → List Due → List Due
of_heights_from height ds = filter (λ d. nat_le height d.timeout.height) ds

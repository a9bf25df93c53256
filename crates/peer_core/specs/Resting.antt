-- When a height is held open.
use Rattle.std.specs.Prelude.{ℕ, Bool, true, false, not, ◌&&◌, ◌||◌, ◌==◌, ◌+◌, ◌-◌, ◌/◌, ◌^◌, nat_lt, nat_le, min, max, if◌then◌else◌, Option, Some, None}
use Rattle.protocol.specs.declared.types.Step.{Step}
use Rattle.protocol.specs.declared.types.Step.TheVariants.{Propose, Prevote, Precommit}
use Rattle.protocol.specs.declared.types.Timeout.{Timeout}
use Rattle.peer_core.specs.declared.rest.Rest.{Rest}
use Rattle.peer_core.specs.declared.rest.HeldTimeout.{HeldTimeout}

-- a sum, up to the greatest u64
abbrev pub plus : ℕ → ℕ → ℕ
plus a b = min (a + b) (2 ^ 64 - 1)

-- it rests from a height on, unless it is never to, or a transaction that it accepted may wait
abbrev pub rests : Rest → ℕ → Bool
rests r height = (nat_lt 0 r.longest && not r.may_have) && nat_le r.awake_until height

-- how long an own proposal of no transactions waits, which would wait so long awake
abbrev pub wait_of : Rest → ℕ → ℕ → ℕ
wait_of r height idle = if rests r height then max r.longest idle else idle

abbrev pub is_propose : Step → Bool
is_propose Propose = true
is_propose Prevote = false
is_propose Precommit = false

-- the timeout of a height's first propose step waits where the validator rests
abbrev pub is_held : Rest → Timeout → Bool
is_held r t = (is_propose t.kind && (t.round == 0)) && rests r t.height

abbrev pub held_until : Timeout → ℕ → HeldTimeout
held_until t due = record { timeout = t; due = due }

abbrev pub holding : Rest → Timeout → ℕ → Rest
holding r t now = if is_held r t then record r { held = Some (held_until t (plus now r.longest)) } else r

abbrev pub woken : Rest → ℕ → Rest
woken r height = record r { awake_until = max r.awake_until (plus height r.heights) }

abbrev pub stirred : Rest → ℕ → Rest
stirred r height = record r { awake_until = max r.awake_until (plus height 1) }

-- it would rest, or will before half of the validators had their turns, if no transaction waited
abbrev pub is_drowsy : Rest → ℕ → Bool
is_drowsy r height = nat_lt 0 r.longest && nat_le r.awake_until (plus height (r.heights / 2))

-- it doesn't stay awake for so many heights
abbrev pub is_far : Rest → ℕ → Bool
is_far r count = nat_le r.heights count

abbrev pub timeout_in : Option HeldTimeout → Option Timeout
timeout_in None = None
timeout_in (Some h) = Some h.timeout

abbrev pub due_in : Option HeldTimeout → Option ℕ
due_in None = None
due_in (Some h) = Some h.due

abbrev pub is_due : ℕ → Option HeldTimeout → Bool
is_due now None = false
is_due now (Some h) = nat_le h.due now

abbrev pub is_below : ℕ → Option HeldTimeout → Bool
is_below height None = false
is_below height (Some h) = nat_lt h.timeout.height height

-- what waits is of this height or a lower one, or of one in which it doesn't rest
abbrev pub ends_in : Rest → ℕ → Option HeldTimeout → Bool
ends_in r height None = true
ends_in r height (Some h) = nat_le h.timeout.height height || not (rests r h.timeout.height)

abbrev pub ends_by : Rest → ℕ → Bool
ends_by r height = ends_in r height r.held

abbrev pub without : Rest → Rest
without r = record r { held = None }

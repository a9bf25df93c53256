-- What was handed to a node since its opening, and the node that it leaves.
use Rattle.std.specs.Prelude.{◌≡◌, ◌⊎◌, ℕ, ◌-◌, ◌^◌, min, List, [], ◌∷◌, Result, Err}
use Rattle.protocol.specs.State.{Node}
use Rattle.protocol.specs.History.{Input, Settle, Given, Due, replay}
use Rattle.protocol.specs.declared.refusal.Refusal.{Refusal}
use Rattle.protocol.specs.declared.refusal.Refusal.TheVariants.{Halted, OutOfMemory, JournalFailed}
use Rattle.node_core.specs.Core.{Core, Stands, IsSame, setting_of}
use Rattle.locked_node.specs.declared.event.Event.{Event}
use Rattle.locked_node.specs.declared.event.Event.TheVariants as events
use Rattle.locked_node.specs.declared.event.Request.{Request}
use Rattle.locked_node.specs.declared.event.Request.TheVariants as requests
use Rattle.locked_node.specs.declared.event.Told.{Told}

-- what a node is asked: to take an input in, or to release an ask, or its own messages once more
pub data Heard : Type 0 where
  Took : Input → Heard
  Asked : Heard
  Resent : Heard

abbrev pub heard : Event → Heard
heard (events.Frame bytes) = Took (Given bytes.now)
heard (events.Timeout t) = Took (Due t)
heard events.Settle = Took Settle
heard events.Ask = Asked
heard events.Resend = Resent

abbrev pub heard_by : Request → Heard
heard_by (requests.Event event) = heard event
heard_by (requests.Frame bytes) = Took (Given bytes)

-- what was handed in, what was answered, and how often a rule fired by itself
pub record Call : Type 0 where
  pub input : Input
  pub answer : Result (Unit {0}) Refusal
  pub fired : ℕ

-- The calls after one event more, the newest first. An ask and a resend hand nothing in.
abbrev pub calls_after : Heard → Result (Unit {0}) Refusal → ℕ → List Call → List Call
calls_after (Took input) answer fired calls = record { input = input; answer = answer; fired = fired } ∷ calls
calls_after Asked answer fired calls = calls
calls_after Resent answer fired calls = calls

abbrev pub noted : Told → List Call → List Call
noted told calls = calls_after (heard told.event) told.answer told.fired calls

-- An answer by which the input may not have been taken in.
abbrev pub MayLeaveOut : Result (Unit {0}) Refusal → Type 0
MayLeaveOut (Err Halted) = Unit {0}
MayLeaveOut (Err OutOfMemory) = Unit {0}
MayLeaveOut (Err JournalFailed) = Unit {0}
MayLeaveOut result = ⊥

-- Each call, the newest first, is its input and this many firings, counted up to the greatest u64; or nothing, where its answer allows that and no rule fired.
abbrev pub AreOf : List (Input × ℕ) → List Call → Type 0
AreOf events [] = events ≡ []
AreOf events (call ∷ earlier) =
    ((rest : List (Input × ℕ)) × (times : ℕ) × (events ≡ (call.input, times) ∷ rest) × (call.fired ≡ min times (2 ^ 64 - 1)) × AreOf rest earlier)
    ⊎ (MayLeaveOut call.answer × (call.fired ≡ 0) × AreOf events earlier)

-- a core that was opened for this node stands for what these calls leave of it
pub record Replayed (n : Node) (base : Core) (calls : List Call) (core : Core) : Type 0 where
  pub events : List (Input × ℕ)
  pub told : AreOf events calls
  pub stands : Stands (replay (setting_of base) base.machine.me n events) core

-- The core is the replay of the calls, from whatever node it was opened for; and it was opened for one.
pub record IsReplay (base : Core) (calls : List Call) (core : Core) : Type 0 where
  pub opened : (n : Node) × Stands n base
  pub same : IsSame base core
  pub replayed : (n : Node) → Stands n base → Replayed n base calls core

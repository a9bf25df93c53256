-- What stands under a node's lock.
use Rattle.std.specs.Prelude.{ℕ, ◌≤◌, ◌-◌, ◌^◌, min, List, length, Result}
use Rattle.status_words.specs.declared.rule.Seen.{Seen}
use Rattle.protocol.specs.declared.refusal.Refusal.{Refusal}
use Rattle.node_core.specs.Core.{Core, delivered_in}
use Rattle.locked_node.specs.History.{Heard, Call, IsReplay}
use Rattle.locked_node.specs.Feeding.{AreFed}
use Rattle.locked_node.specs.declared.feeding.Fed.{Fed}

pub record Locked : Type 0 where
  pub core : Core
  pub base : Core  -- the core at the opening
  pub calls : List Call  -- what was handed to it since, the newest first
  pub feeders : List Fed
  pub published : Seen

-- how many items are delivered, counted up to the greatest u64
abbrev pub count_of : Core → ℕ
count_of core = min (length (delivered_in core.decisions)) (2 ^ 64 - 1)

-- The core is the replay of its calls, each ring was offered a segment of what it delivered, and what is published is in neither part above it.
pub record IsLocked (l : Locked) : Type 0 where
  pub replay : IsReplay l.base l.calls l.core
  pub fed : AreFed l.core.decisions l.feeders
  pub height : l.published.height ≤ l.core.machine.state.height
  pub delivered : l.published.delivered ≤ count_of l.core

-- what was asked, and the answer
pub record Answered : Type 0 where
  pub event : Heard
  pub answer : Result (Unit {0}) Refusal

-- what was asked, the answer, and the status that was then published
pub record Finished : Type 0 where
  pub event : Heard
  pub answer : Result (Unit {0}) Refusal
  pub height : ℕ
  pub delivered : ℕ

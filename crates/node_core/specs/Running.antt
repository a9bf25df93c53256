-- Rules fired since a call began.
use Rattle.std.specs.Prelude.{◌≡◌, ℕ, ◌-◌, ◌^◌, min}
use Rattle.protocol.specs.State.{Node}
use Rattle.protocol.specs.History.{firsts}
use Rattle.node_core.specs.Core.{Core, Stands, setting_of}
use Rattle.node_core.specs.Calls.{HasFired, LeavesBy, next_cut}

-- so many, as counted up to the greatest u64
pub record HasRun (old new : Core) : Type 0 where
  pub times : ℕ
  pub count : new.fired ≡ min times (2 ^ 64 - 1)
  pub ran : (n : Node) → Stands n old → HasFired n times old new

-- and then the device failed, as the next rule was to fire
pub record IsCutOff (old new : Core) : Type 0 where
  pub run : HasRun old new
  pub left : (n : Node) → Stands n old → LeavesBy (setting_of old) old.machine.me (firsts (setting_of old) old.machine.me run.times n) (next_cut (setting_of old) (firsts (setting_of old) old.machine.me run.times n)) new.journal

-- Whether a validator serves, and what may stand in its store beside its journal.
use Rattle.std.specs.Prelude.{◌≡◌, ◌⊎◌, ℕ, Bool, true, false, Option, None}
use Rattle.protocol.specs.Tags.{Setting}
use Rattle.protocol.specs.State.{Node}
use Rattle.protocol.specs.World.{Cut}
use Rattle.protocol.specs.History.{Input, Settle, after}
use Rattle.node_core.specs.Core.{JournalSeen}
use Rattle.node_core.specs.Calls.{LeavesBy, input_cut, next_cut}
use Rattle.world_schedule.specs.Calls.{Call, Handed}

pub data Health : Type 0 where
  Serving : Health
  Broken : Option Cut → Health  -- the device failed as this was being saved: until it is opened again, no call does anything
  Closed : Option Cut → Health  -- its last opening failed: there is no node

-- what may stand in the store beside the journal
abbrev pub doubt : Health → Option Cut
doubt Serving = None
doubt (Broken cut) = cut
doubt (Closed cut) = cut

abbrev pub has_node : Health → Bool
has_node Serving = true
has_node (Broken cut) = true
has_node (Closed cut) = false

-- The call was cut off by the device: as the input was taken in, which was left undone, or as the next rule was to fire.
abbrev pub IsCut : Setting → ℕ → Node → Input → Call → Option Cut → Type 0
IsCut c p n input call cut = ((call ≡ Handed p Settle 0) × (cut ≡ input_cut input)) ⊎ ((times : ℕ) × (call ≡ Handed p input times) × (cut ≡ next_cut c (after c p n input times)))

-- the journal of a core of this node is in this health
abbrev pub HasHealth : Setting → ℕ → Node → Health → JournalSeen → Type 0
HasHealth c p n Serving journal = journal.failed ≡ false
HasHealth c p n (Broken cut) journal = (journal.failed ≡ true) × LeavesBy c p n cut journal
HasHealth c p n (Closed cut) journal = ⊥

-- A node that comes back over its own journal.
use Rattle.std.specs.Prelude.{ℕ, false, None, List, []}
use Rattle.authenticators.specs.Ring.{Ring}
use Rattle.protocol.specs.Messages.{Body, Bundle, Record}
use Rattle.protocol.specs.declared.records.OwnMessage.{OwnMessage}
use Rattle.round_states.specs.Machine.{Machine}
use Rattle.vote_journal.specs.Layout.{IsWhole}
use Rattle.vote_journal.specs.Kept.{Keeps}
use Rattle.node_core.specs.Core.{Core, JournalSeen}

-- The bytes are those of records, whole, of which an opening kept these decisions and these own messages.
pub record IsRead (powers : List ℕ) (me : ℕ) (bytes : List ℕ) (decisions : List Bundle) (own : List OwnMessage) : Type 0 where
  pub records : List Record  -- the oldest first
  pub whole : IsWhole powers me bytes records
  pub keeps : Keeps records decisions own

-- the journal that stands over these bytes
abbrev pub running : ℕ → List ℕ → ℕ → JournalSeen
running me bytes failures = record { bytes = bytes; me = me; failed = false; broken = None; failures = failures }

-- a core of which no rule has fired: nothing waits, and nothing was released or scheduled
abbrev pub unfired : Machine → Ring → List Bundle → List Body → JournalSeen → Core
unfired machine ring decisions said journal = record {
  machine = machine;
  ring = ring;
  queues = [];
  decisions = decisions;
  said = said;
  journal = journal;
  outgoing = [];
  scheduled = [];
  fired = 0;
}

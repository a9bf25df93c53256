-- The certificates of what a shared node decided, and how many items it delivered.
use Rattle.std.specs.Prelude.{◌≡◌, ◌⊎◌, ℕ, ◌+◌, true, false, List, [], ◌∷◌, length}
use Rattle.powers.specs.Power.{IsQuorum}
use Rattle.protocol.specs.Values.{id}
use Rattle.protocol.specs.Messages.{Bundle, Record}
use Rattle.protocol.specs.Refusals.{named_senders}
use Rattle.protocol.specs.Restart.{opened}
use Rattle.vote_journal.specs.Grammar.{is_rising}
use Rattle.node_core.specs.Core.{Core, Stands, delivered_in}
use Rattle.locked_node.specs.Locked.{Locked, IsLocked, count_of}

-- The decision is of this height and of its value's id, and its precommits for that id, of its height and round, name distinct senders, who are a quorum.
pub record IsCertified (powers : List ℕ) (at : ℕ) (b : Bundle) : Type 0 where
  pub height : b.height ≡ at
  pub name : b.id ≡ id b.value
  pub distinct : is_rising b.precommits ≡ true
  pub quorum : IsQuorum powers (named_senders b)

-- They are the decisions of the heights from this one on, each with its certificate.
abbrev pub AreCertified : List ℕ → ℕ → List Bundle → Type 0
AreCertified powers at [] = Unit {0}
AreCertified powers at (b ∷ rest) = IsCertified powers at b × AreCertified powers (at + 1) rest

-- The core was opened over a journal: it stood for the definitions' restart over its records.
pub record WasOpened (base : Core) : Type 0 where
  pub records : List Record  -- the newest first
  pub stands : Stands (opened base.machine.me records) base
  pub running : base.journal.failed ≡ false

-- The node has not halted, or its core was opened over a journal.
abbrev pub IsKnown : Locked → Type 0
IsKnown l = (l.core.journal.failed ≡ false) ⊎ WasOpened l.base

-- the decisions of a shared node are those of its heights from 0 on, each with its certificate
abbrev pub CertificatesLaw : Type 0
CertificatesLaw = (l : Locked) → IsLocked l → IsKnown l → AreCertified l.core.machine.powers 0 l.core.decisions

-- what is told to be delivered is all of it
abbrev pub CountLaw : Type 0
CountLaw = (l : Locked) → IsLocked l → IsKnown l → count_of l.core ≡ length (delivered_in l.core.decisions)

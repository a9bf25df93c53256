-- What callers see of a node's core, and which node of the definitions it stands for.
use Rattle.std.specs.Prelude.{◌≡◌, ℕ, ◌<◌, ◌≤◌, true, false, cond, List, [], All, flat_map, length, reverse, Option, Some, None, is_some}
use Rattle.transactions.specs.Grammar.{IsTx, AreTags}
use Rattle.messages.specs.Grammar.{IsBody, IsBundle}
use Rattle.messages.specs.Framing.{frame_spelling}
use Rattle.authenticators.specs.Ring.{Ring, incoming, outgoing, IsWhole}
use Rattle.authenticators.specs.Keys.{same_party}
use Rattle.protocol.specs.Values.{Tx, Item, items}
use Rattle.protocol.specs.Tags.{Setting, Validator, Client, tx_is_right}
use Rattle.protocol.specs.Messages.{◌∈◌, Body, Bundle, Record, tagged, sender_of}
use Rattle.protocol.specs.declared.types.Stamp.{Stamp}
use Rattle.protocol.specs.declared.types.Timeout.{Timeout}
use Rattle.protocol.specs.State.{Context, Queue, Node}
use Rattle.protocol.specs.Queues.{all_waiting}
use Rattle.protocol.specs.Refusals.{context}
use Rattle.protocol.specs.Restart.{own_since}
use Rattle.protocol.specs.Effects.{bundles_in}
use Rattle.round_states.specs.Machine.{Machine, Agrees}
use Rattle.vote_journal.specs.Layout.{IsWhole as IsWholeJournal}
use Rattle.vote_journal.specs.Laws.{IsLawful}
pub use Rattle.state_journal.specs.Seen.{Saving, JournalSeen, LeftOf, where_failed, MayLeave, TellsLeft}

pub record Core : Type 0 where
  pub machine : Machine  -- the variables of the algorithm, the powers, and the own number
  pub ring : Ring
  pub queues : List Queue
  pub decisions : List Bundle  -- in order of height, each with its certificate
  pub said : List Body  -- the own messages of the height, in the order in which they were saved
  pub journal : JournalSeen
  pub outgoing : List (List ℕ)  -- the frames released and not yet taken
  pub scheduled : List Timeout  -- the timeouts scheduled and not yet taken
  pub fired : ℕ  -- how often the last call fired a rule that the order names

-- ---- the setting that a validator's own keys tell of

abbrev pub or_empty : Option (List ℕ) → List ℕ
or_empty None = []
or_empty (Some key) = key

-- the keys of others towards this validator, and its own towards others
unfoldable pub setting : List ℕ → ℕ → Ring → Setting
setting powers me ring = record {
  powers = powers;
  clients = λ i. is_some (incoming ring (Client i));
  key = λ from to. cond (same_party from (Validator me)) (or_empty (outgoing ring to)) (or_empty (incoming ring from));
}

abbrev pub setting_of : Core → Setting
setting_of core = setting core.machine.powers core.machine.me core.ring

-- what its rules know
abbrev pub context_of : Core → Context
context_of core = context (setting_of core) core.machine.me

-- the frame of an own body, with a tag for each validator
abbrev pub frame_by : Core → Body → List ℕ
frame_by core body = frame_spelling (tagged (setting_of core) body)

-- ---- the node of the definitions

-- The core has this node's variables and queues, its journal's decisions and own messages of the height; and while it has
-- not failed, its store holds this node's journal, whole.
pub record Stands (n : Node) (core : Core) : Type 0 where
  pub state : core.machine.state ≡ n.state
  pub queues : core.queues ≡ n.queues
  pub decisions : core.decisions ≡ bundles_in n.journal
  pub said : core.said ≡ own_since core.machine.me n.journal
  pub journal : core.journal.failed ≡ false → IsWholeJournal core.machine.powers core.machine.me core.journal.bytes (reverse n.journal)

-- powers, number and keys are as they were
pub record IsSame (old new : Core) : Type 0 where
  pub powers : new.machine.powers ≡ old.machine.powers
  pub me : new.machine.me ≡ old.machine.me
  pub ring : new.ring ≡ old.ring

-- the items of the decided values, in order of height
abbrev pub delivered_in : List Bundle → List Item
delivered_in decisions = flat_map (λ (b : Bundle). items b.value) decisions

-- ---- what holds between calls

-- the transaction has a spelling, and its own tag is right
abbrev pub IsGood : Setting → ℕ → Tx → Type 0
IsGood c p t = IsTx t × (tx_is_right c p t ≡ true)

abbrev pub IsStamp : Stamp → Type 0
IsStamp stamp = AreTags stamp.signed.tags

-- the bundle is the own number's
abbrev pub IsOf : ℕ → Bundle → Type 0
IsOf me b = b.sender ≡ me

-- the body can be spelled, and is the own number's
pub record IsSaid (me : ℕ) (b : Body) : Type 0 where
  pub spelled : IsBody b
  pub own : sender_of b ≡ Validator me

-- The store holds records, whole, of which the variables, the decisions and the own messages of the height are as they tell, and
-- which the next record may follow: so the core stands for a node of the definitions.
pub record IsKept (core : Core) : Type 0 where
  pub records : List Record  -- the newest first
  pub decisions : core.decisions ≡ bundles_in records
  pub said : core.said ≡ own_since core.machine.me records
  pub whole : IsWholeJournal core.machine.powers core.machine.me core.journal.bytes (reverse records)
  pub lawful : IsLawful (setting_of core) core.machine.me (record { state = core.machine.state; queues = core.queues; journal = records })

pub record IsSound (core : Core) : Type 0 where
  pub owner : core.ring.me ≡ Validator core.machine.me
  pub count : core.ring.count ≡ length core.machine.powers
  pub me : core.machine.me < length core.machine.powers
  pub whole : IsWhole core.ring
  pub few : length core.machine.powers ≤ 128
  pub agrees : Agrees (context_of core) core.machine
  pub room : core.machine.room ≡ None
  pub waiting : (t : Tx) → t ∈ all_waiting core.queues → IsGood (setting_of core) core.machine.me t
  pub stamps : All IsStamp core.machine.state.stamps
  pub decided : length core.decisions ≡ core.machine.state.height
  pub joined : core.machine.state.delivered ≡ delivered_in core.decisions
  pub spelled : All IsBundle core.decisions
  pub own : All (IsOf core.machine.me) core.decisions
  pub said : All (IsSaid core.machine.me) core.said
  pub journal : core.journal.me ≡ core.machine.me
  pub kept : core.journal.failed ≡ false → IsKept core

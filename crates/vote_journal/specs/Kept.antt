-- What opening keeps of a journal's records, and that a restart needs no more.
use Rattle.std.specs.Prelude.{◌≡◌, ℕ, ◌<◌, ◌≤◌, ◌^◌, true, List, [], ◌∷◌, ◌++◌, length, map, flat_map, reverse, take, slice_index_or, All}
use Rattle.protocol.specs.Values.{items, valid}
use Rattle.protocol.specs.Messages.{◌∈◌, Bundle, Record, Own, Decided, body_of, below}
use Rattle.protocol.specs.Records.{act_of}
use Rattle.protocol.specs.Restart.{delivered_of, height_of, last_place, lock_of, own_since, restart}
use Rattle.protocol.specs.Arrivals.{bundles_of}
use Rattle.protocol.specs.Effects.{bundles_in}
use Rattle.protocol.specs.declared.records.OwnMessage.{OwnMessage}
use Rattle.vote_journal.specs.Grammar.{IsDecision, IsRecord}
use Rattle.vote_journal.specs.Order.{AreLawful}
use Rattle.vote_journal.specs.Layout.{IsWhole}
use Rattle.vote_journal.specs.Saving.{IsFoundIn}

-- the record of an own message
abbrev pub said : OwnMessage → Record
said m = Own m.height m.round (act_of m.act)

-- of records, the newest first: the own messages since the last decision, the oldest first
abbrev pub own_in : List Record → List Record
own_in (Own height round act ∷ rest) = own_in rest ++ Own height round act ∷ []
own_in _ = []

-- Of records, the oldest first, these are the decisions and the own messages since the last one, in order.
pub record Keeps (rs : List Record) (decisions : List Bundle) (own : List OwnMessage) : Type 0 where
  pub decided : decisions ≡ bundles_in (reverse rs)
  pub since : map said own ≡ own_in (reverse rs)

-- The store's bytes were the journal of some records, cut short or not; they are whole now, and this is kept of them.
pub record IsOpened (powers : List ℕ) (me : ℕ) (outcomes : List ℕ → Type 0) (now : List ℕ) (decisions : List Bundle) (own : List OwnMessage) : Type 0 where
  pub rs : List Record
  pub found : IsFoundIn powers me outcomes rs
  pub whole : IsWhole powers me now rs
  pub keeps : Keeps rs decisions own

-- ---- what is kept tells the restart

-- the journal of what is kept alone, the newest record first
abbrev pub journal_of : List Bundle → List OwnMessage → List Record
journal_of decisions own = reverse (map said own) ++ reverse (map Decided decisions)

-- The restart of this journal, the newest record first, and the answers to asks are told by its decisions and its own messages since the last one.
pub record IsToldBy (me : ℕ) (journal : List Record) (decisions : List Bundle) (own : List OwnMessage) : Type 0 where
  pub delivered : delivered_of journal ≡ flat_map (λ (b : Bundle). items b.value) decisions
  pub height : height_of journal ≡ length decisions
  pub place : last_place journal ≡ last_place (reverse (map said own))
  pub lock : lock_of journal ≡ lock_of (reverse (map said own))
  pub messages : own_since me journal ≡ map (λ (m : OwnMessage). body_of me m.height m.round (act_of m.act)) own
  pub state : restart me journal ≡ restart me (journal_of decisions own)
  pub asks : (height : ℕ) → bundles_of height journal ≡ bundles_of height (reverse (map Decided decisions))

-- A restart can be made of them: the decisions have a spelling, stand at their heights, are no more than the algorithm makes,
-- and each is of a value that may be delivered behind those before it; the own messages have one, and are of the height
-- after the last.
pub record AreReplayable (me : ℕ) (decisions : List Bundle) (own : List OwnMessage) : Type 0 where
  pub heights : map (λ (b : Bundle). b.height) decisions ≡ below (length decisions)
  pub few : length decisions ≤ 2 ^ 48
  pub spelled : All (IsDecision me) decisions
  pub follow : (i : ℕ) (d : Bundle) → i < length decisions → valid (flat_map (λ (b : Bundle). items b.value) (take i decisions)) (slice_index_or decisions i d).value ≡ true
  pub present : (m : OwnMessage) → m ∈ own → m.height ≡ length decisions
  pub own_spelled : All (λ (m : OwnMessage). IsRecord me (said m)) own

abbrev pub KeptLaw : Type 0
KeptLaw = (me : ℕ) (rs : List Record) (decisions : List Bundle) (own : List OwnMessage) → Keeps rs decisions own →
    IsToldBy me (reverse rs) decisions own
    × ((powers : List ℕ) → AreLawful powers me [] rs → AreReplayable me decisions own)

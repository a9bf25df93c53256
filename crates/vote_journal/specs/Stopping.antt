-- Runs in which each validator keeps its journal on a store, and stops come anywhere.
use Rattle.std.specs.Prelude.{◌≡◌, ◌⊎◌, ℕ, true, cond, Option, Some, None, List, [], ◌∷◌, ◌++◌, length, ◌==◌, reverse, option_map}
use Rattle.powers.specs.Power.{FewLie}
use Rattle.messages.specs.Grammar.{IsBody, IsBundle}
use Rattle.protocol.specs.Values.{of, fresh, in_turn}
use Rattle.protocol.specs.Messages.{Record, Own, Decided, body_of}
use Rattle.protocol.specs.Tags.{Setting}
use Rattle.protocol.specs.State.{Node}
use Rattle.protocol.specs.Restart.{opened}
use Rattle.protocol.specs.Arrivals.{arrival}
use Rattle.protocol.specs.World.{World, Cut, InArrival, InFiring, Event, Comes, Fires, Restarts, happens, run, beginning, tried, cut_record, with_node, delivered}
use Rattle.protocol.specs.Premises.{Honesty, Unforged, Distinct, IsCorrect, Begins, at_validator}
use Rattle.protocol.specs.Laws.{Comparable}
use Rattle.vote_journal.specs.declared.fault.JournalFault.{JournalFault}
use Rattle.vote_journal.specs.declared.fault.JournalFault.TheVariants.{BadRecord}
use Rattle.vote_journal.specs.Grammar.{HasLock}
use Rattle.vote_journal.specs.History.{Call, Opened, NotOpened, Saved, NotSaved, Broken, Left, is_open, HasOpened, Does}

-- What happens: to a validator's node, to its store, or to both.
pub data Deed : Type 0 where
  Goes : Event → Deed  -- an event of the world, but no restart; what it saves is saved
  Starves : ℕ → Cut → Deed  -- at this validator there is no memory to save what an event would: nothing is done
  Breaks : ℕ → Cut → Deed  -- its device fails, or it stops, as that is being saved
  Stops : ℕ → Deed  -- it stops between two calls of its store, or closes it
  Fails : ℕ → JournalFault → Deed  -- its store isn't opened, or it stops within that
  Opens : ℕ → List Record → Deed  -- its store is opened, these records are found, and its node begins anew

-- A world; and for each validator its store, the calls of it since its first opening, the newest first, and what was being saved as it broke since the last one that
-- found it.
pub record Stored (S : Type 0) : Type 0 where
  pub world : World
  pub store : ℕ → S
  pub calls : ℕ → List Call
  pub broken : ℕ → Option Cut

-- ---- what a deed calls of which store

-- what a node saves as bytes come to it or a rule fires
abbrev pub wrote : Setting → ℕ → Node → Cut → Option Record
wrote c p n (InArrival bytes) = (arrival c p n bytes).wrote
wrote c p n (InFiring k) = (tried c p n k).wrote

abbrev pub saving : Setting → World → ℕ → Cut → (Record → Call) → Option (ℕ × Call)
saving c w p cut ends = option_map (λ r. (p, ends r)) (wrote c p (w.nodes p) cut)

abbrev pub call_of : Setting → World → Deed → Option (ℕ × Call)
call_of c w (Goes (Comes p bytes)) = saving c w p (InArrival bytes) Saved
call_of c w (Goes (Fires p k)) = saving c w p (InFiring k) Saved
call_of c w (Goes e) = None
call_of c w (Starves p cut) = saving c w p cut NotSaved
call_of c w (Breaks p cut) = saving c w p cut Broken
call_of c w (Stops p) = Some (p, Left)
call_of c w (Fails p fault) = Some (p, NotOpened fault)
call_of c w (Opens p rs) = Some (p, Opened rs)

-- ---- what a deed leaves, with the store after its call

-- An opened node is the definitions' restart over the records that its store was found to have.
abbrev pub world_after : Setting → World → Deed → World
world_after c w (Goes e) = happens c w e
world_after c w (Opens p rs) = with_node w p (opened p (reverse rs)) []
world_after c w deed = w

abbrev pub at_call : {X : Type 0} → (ℕ → X) → Option (ℕ × Call) → (ℕ → Call → X) → ℕ → X
at_call before None now q = before q
at_call before (Some call) now q = cond (q == call.0) (now call.0 call.1) (before q)

abbrev pub broken_after : (ℕ → Option Cut) → Deed → ℕ → Option Cut
broken_after before (Breaks p cut) q = cond (q == p) (Some cut) (before q)
broken_after before (Opens p rs) q = cond (q == p) None (before q)
broken_after before deed q = before q

abbrev pub after : {S : Type 0} → Setting → Stored S → Deed → S → Stored S
after c d deed new = record {
  world = world_after c d.world deed;
  store = at_call d.store (call_of c d.world deed) (λ p call. new);
  calls = at_call d.calls (call_of c d.world deed) (λ p call. call ∷ d.calls p);
  broken = broken_after d.broken deed;
}

abbrev pub ends : {S : Type 0} → Setting → Stored S → List (Deed × S) → Stored S
ends c d [] = d
ends c d (deed ∷ deeds) = ends c (after c d deed.0 deed.1) deeds

-- every validator's node new, over a store that was just opened
abbrev pub begun : {S : Type 0} → Setting → (ℕ → S) → Stored S
begun c start = record { world = beginning c; store = start; calls = λ p. []; broken = λ p. None }

-- ---- the events of the world that deeds are

-- A validator that found more than it had saved found what was being saved as it broke.
abbrev pub found_cut : List Record → List Record → Option Cut → Option Cut
found_cut rs journal cut = cond (length rs == length journal) None cut

abbrev pub events_by : {S : Type 0} → Stored S → Deed → List Event
events_by d (Goes e) = e ∷ []
events_by d (Opens p rs) = Restarts p (found_cut rs (d.world.nodes p).journal (d.broken p)) ∷ []
events_by d deed = []

abbrev pub events_of : {S : Type 0} → Setting → Stored S → List (Deed × S) → List Event
events_of c d [] = []
events_of c d (deed ∷ deeds) = events_by d deed.0 ++ events_of c (after c d deed.0 deed.1) deeds

-- What a node saved, or that with the one record that it was saving as it broke.
abbrev pub IsJournalOf : Setting → ℕ → Node → Option Cut → List Record → Type 0
IsJournalOf c p n broken rs = (reverse rs ≡ n.journal) ⊎ ((cut : Cut) × (broken ≡ Some cut) × (reverse rs ≡ cut_record c p n (Some cut) ++ n.journal))

-- ---- which deeds may happen

-- The fields of a record are within their ranges: all that it needs beside its making to have a spelling.
abbrev pub Fits : ℕ → Record → Type 0
Fits p (Own height round act) = IsBody (body_of p height round act) × HasLock act
Fits p (Decided b) = IsBundle b

abbrev pub FitsIn : ℕ → Call → Type 0
FitsIn p (Saved r) = Fits p r
FitsIn p (Broken r) = Fits p r
FitsIn p call = Unit {0}

-- this validator, if any, has an open journal
abbrev pub IsUp : {S : Type 0} → Stored S → Option ℕ → Type 0
IsUp d None = Unit {0}
IsUp d (Some p) = is_open (d.calls p) ≡ true

-- A node takes part while its journal is open; a restart is an opening's.
abbrev pub MayHappen : {S : Type 0} → Stored S → Deed → Type 0
MayHappen d (Goes (Restarts p cut)) = ⊥
MayHappen d (Goes e) = IsUp d (at_validator e)
MayHappen d (Starves p cut) = IsUp d (Some p)
MayHappen d (Breaks p cut) = IsUp d (Some p)
MayHappen d deed = Unit {0}

module _ {S : Type 0} (seen : S → List ℕ) (may_leave : S → List ℕ → Type 0) (c : Setting) where
  -- the call does to its store what its contract says
  abbrev pub IsCalled : Stored S → Option (ℕ × Call) → S → Type 0
  IsCalled d None new = Unit {0}
  IsCalled d (Some call) new = FitsIn call.0 call.1 × Does seen may_leave c.powers call.0 call.1 (d.store call.0) new

  abbrev pub Happen : Stored S → List (Deed × S) → Type 0
  Happen d [] = Unit {0}
  Happen d (deed ∷ deeds) = MayHappen d deed.0 × IsCalled d (call_of c d.world deed.0) deed.1 × Happen (after c d deed.0 deed.1) deeds

  -- each validator's store was opened, and had no records
  abbrev pub BeginsEmpty : (ℕ → S) → (ℕ → S) → Type 0
  BeginsEmpty unopened start = (p : ℕ) → HasOpened seen may_leave c.powers p (unopened p) (start p) []

-- Wherever stops came, the world is one that the definitions' events leave, where each opening is a restart; the next opening of a store finds what its validator saved, and at most the
-- record that it was saving; and no opening calls the bytes no journal.
abbrev pub StoppedLaw : {S : Type 0} → (S → List ℕ) → (S → List ℕ → Type 0) → Type 0
StoppedLaw {S} seen may_leave = (c : Setting) (unopened start : ℕ → S) (deeds : List (Deed × S)) → BeginsEmpty seen may_leave c unopened start → Happen seen may_leave c (begun c start) deeds →
    let d : Stored S = ends c (begun c start) deeds in
    (d.world ≡ run c (beginning c) (events_of c (begun c start) deeds))
    × ((p : ℕ) (new : S) (rs : List Record) → HasOpened seen may_leave c.powers p (d.store p) new rs → IsJournalOf c p (d.world.nodes p) (d.broken p) rs)
    × ((p : ℕ) (new : S) → Does seen may_leave c.powers p (NotOpened BadRecord) (d.store p) new → ⊥)

-- The headline, of delivered lists at two moments of a run over stores.
abbrev pub StoppedHeadlineLaw : {S : Type 0} → (S → List ℕ) → (S → List ℕ → Type 0) → Type 0
StoppedHeadlineLaw {S} seen may_leave = (c : Setting) (h : Honesty) (unopened start : ℕ → S) (early late : List (Deed × S)) → BeginsEmpty seen may_leave c unopened start → Happen seen may_leave c (begun c start) (early ++ late) →
    let events : List Event = events_of c (begun c start) (early ++ late) in
    let old : World = (ends c (begun c start) early).world in
    let new : World = (ends c (begun c start) (early ++ late)).world in
    FewLie c.powers h.liars → Unforged c h (beginning c) events → Distinct c h events → (p : ℕ) → IsCorrect c h p →
    Begins (delivered old p) (delivered new p)
    × ((q : ℕ) → IsCorrect c h q → Comparable (delivered old p) (delivered new q))
    × ((client : ℕ) → in_turn fresh (of client (delivered new p)) ≡ true)
    × ((client : ℕ) → h.clients client ≡ true → Begins (of client (delivered new p)) (new.sent client))

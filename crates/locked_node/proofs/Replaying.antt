-- What a core was asked since its opening replays to it, whatever it is asked next.
use Rattle.std.proofs.Common.{◌≡◌, ℕ, inl, inr, true, List, ◌∷◌, ◌++◌, Result, Ok, Err, refl, sym, ap, ◌∙◌, subst, subst₂}
use Rattle.std.proofs.lemmas.Bool.{false≢true}
use Rattle.protocol.specs.State.{Node}
use Rattle.protocol.specs.History.{Input, replay, after}
use Rattle.protocol.specs.declared.refusal.Refusal.{Refusal}
use Rattle.protocol.specs.declared.refusal.Refusal.TheVariants as answers
use Rattle.node_core.specs.Core.{Core, Stands, IsSame, setting, setting_of}
use Rattle.node_core.specs.Calls.{IsDone, IsNotTaken, TellsJournal}
use Rattle.locked_node.specs.History.{Heard, Took, Asked, Resent, Call, MayLeaveOut, Replayed, IsReplay, calls_after}
use Rattle.locked_node.specs.Calls.{IsHanded, IsAsked, IsResent, Does}
use Rattle.locked_node.proofs.Growing.{GoesOn, goes_nowhere, decisions_go_on}

-- what is left of a core that took nothing in
record Beside (old new : Core) : Type 0 where
  same : IsSame old new
  decisions : new.decisions ≡ old.decisions
  stands : (n : Node) → Stands n old → Stands n new

-- the core is as it was, but for what waits to be taken
beside : (old new : Core) (out : List (List ℕ)) → new ≡ record old { outgoing = out; fired = 0 } → Beside old new
beside old new out e = record {
  same = record { powers = ap (λ (k : Core). k.machine.powers) e; me = ap (λ (k : Core). k.machine.me) e; ring = ap (λ (k : Core). k.ring) e };
  decisions = ap (λ (k : Core). k.decisions) e;
  stands = λ n s. subst (Stands n) (sym e) (record { state = s.state; queues = s.queues; decisions = s.decisions; said = s.said; journal = s.journal });
}

-- its journal failed
broken : (old new : Core) → new ≡ record old { journal = new.journal; fired = 0 } → new.journal.failed ≡ true → Beside old new
broken old new e f = record {
  same = record { powers = ap (λ (k : Core). k.machine.powers) e; me = ap (λ (k : Core). k.machine.me) e; ring = ap (λ (k : Core). k.ring) e };
  decisions = ap (λ (k : Core). k.decisions) e;
  stands = λ n s. subst (Stands n) (sym e) (record { state = s.state; queues = s.queues; decisions = s.decisions; said = s.said; journal = λ runs. absurd (false≢true (sym runs ∙ f)) });
}

-- what was handed in was not taken in
record LeftOut (result : Result (Unit {0}) Refusal) (old new : Core) : Type 0 where
  may : MayLeaveOut result
  fired : new.fired ≡ 0
  beside : Beside old new

left_out : (result : Result (Unit {0}) Refusal) (old new : Core) → TellsJournal result old.journal new.journal → IsNotTaken result old new → LeftOut result old new
left_out (Err answers.Halted) old new t a = record { may = tt; fired = ap (λ (k : Core). k.fired) a.1; beside = beside old new old.outgoing a.1 }
left_out (Err answers.OutOfMemory) old new t a = record { may = tt; fired = ap (λ (k : Core). k.fired) a; beside = beside old new old.outgoing a }
left_out (Err answers.JournalFailed) old new t a = record { may = tt; fired = ap (λ (k : Core). k.fired) a; beside = broken old new a t.now }
left_out (Ok done) old new t a = absurd a
left_out (Err answers.Truncated) old new t a = absurd a
left_out (Err answers.TooLong) old new t a = absurd a
left_out (Err answers.BadKind) old new t a = absurd a
left_out (Err answers.BadSpelling) old new t a = absurd a
left_out (Err answers.UnknownSender) old new t a = absurd a
left_out (Err answers.BadTag) old new t a = absurd a
left_out (Err answers.OtherHeight) old new t a = absurd a
left_out (Err answers.VoterFull) old new t a = absurd a
left_out (Err answers.Repeat) old new t a = absurd a
left_out (Err answers.RoundLimit) old new t a = absurd a
left_out (Err answers.RoundAhead) old new t a = absurd a
left_out (Err answers.WrongProposer) old new t a = absurd a
left_out (Err (answers.Submit fault)) old new t a = absurd a
left_out (Err (answers.Bundle fault)) old new t a = absurd a

same_on : (i j k : Core) → IsSame i j → IsSame j k → IsSame i k
same_on i j k a b = record { powers = b.powers ∙ a.powers; me = b.me ∙ a.me; ring = b.ring ∙ a.ring }

-- The core still is the replay of its calls, and decisions were added at most.
pub record Moved (base : Core) (calls : List Call) (old new : Core) : Type 0 where
  pub replay : IsReplay base calls new
  pub grown : GoesOn old.decisions new.decisions

-- an event that hands nothing in
moved_beside : (base old new : Core) (calls : List Call) → IsReplay base calls old → Beside old new → Moved base calls old new
moved_beside base old new calls r b = record {
  replay = record {
    opened = r.opened;
    same = same_on base old new r.same b.same;
    replayed = λ n s. let q = r.replayed n s in record { events = q.events; told = q.told; stands = b.stands _ q.stands };
  };
  grown = goes_nowhere old.decisions new.decisions b.decisions;
}

module _ (base old new : Core) (calls : List Call) (input : Input) (result : Result (Unit {0}) Refusal) (r : IsReplay base calls old) (h : IsHanded input result old new) where
  abbrev here : List Call
  here = calls_after (Took input) result new.fired calls

  setting_same : setting_of old ≡ setting_of base
  setting_same = λ i. setting (r.same.powers i) (r.same.me i) (r.same.ring i)

  module _ (n : Node) (q : Replayed n base calls old) where
    abbrev m : Node
    m = replay (setting_of base) base.machine.me n q.events

    replayed_by : IsDone m input result old new → Replayed n base here new
    replayed_by (inl k) = record {
      events = (input, k.0) ∷ q.events;
      told = inl (q.events, k.0, refl, k.1.fired, q.told);
      stands = subst₂ (λ c p. Stands (after c p m input k.0) new) setting_same r.same.me k.1.stands;
    }
    replayed_by (inr a) = let o = left_out result old new h.journal a in record { events = q.events; told = inr (o.may, o.fired, q.told); stands = o.beside.stands m q.stands }

    moved_to : ((l : Node) → Stands l base → Replayed l base here new) → IsDone m input result old new → Moved base here old new
    moved_to on (inl k) =
        let g = decisions_go_on (setting_of old) old.machine.me m input k.0 in record {
          replay = record { opened = r.opened; same = same_on base old new r.same k.1.same; replayed = on };
          grown = (g.0, k.1.stands.decisions ∙ g.1 ∙ ap (λ l. l ++ g.0) (sym q.stands.decisions));
        }
    moved_to on (inr a) = let o = left_out result old new h.journal a in record {
      replay = record { opened = r.opened; same = same_on base old new r.same o.beside.same; replayed = on };
      grown = goes_nowhere old.decisions new.decisions o.beside.decisions;
    }

  handed : Moved base here old new
  handed =
      let q = r.replayed r.opened.0 r.opened.1 in
      moved_to r.opened.0 q (λ n s. let p = r.replayed n s in replayed_by n p (h.done _ p.stands)) (h.done _ q.stands)

asked : (result : Result (Unit {0}) Refusal) (old new : Core) → IsAsked result old new → Beside old new
asked (Ok u) old new h = beside old new _ h.ok
asked (Err e) old new h = beside old new old.outgoing h.err

resent : (n : Node) (result : Result (Unit {0}) Refusal) (old new : Core) → Stands n old → IsResent result old new → Beside old new
resent n (Ok u) old new s h = beside old new _ (h.ok n s)
resent n (Err e) old new s h = beside old new old.outgoing h.err

pub moved_by : (base old new : Core) (calls : List Call) (event : Heard) (result : Result (Unit {0}) Refusal) → IsReplay base calls old → Does event result old new → Moved base (calls_after event result new.fired calls) old new
moved_by base old new calls (Took input) result r d = handed base old new calls input result r d
moved_by base old new calls Asked result r d = moved_beside base old new calls r (asked result old new d)
moved_by base old new calls Resent result r d = moved_beside base old new calls r (resent _ result old new (r.replayed r.opened.0 r.opened.1).stands d)

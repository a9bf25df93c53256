-- Calls step by step: a firing and those after it, and what is handed in and the firings after it.
use Rattle.std.proofs.Common.{◌≡◌, ℕ, zero, suc, true, false, List, [], ◌∷◌, ◌++◌, map, Option, Some, is_some, min, ◌-◌, ◌^◌, refl, sym, ap, subst, ◌∙◌, arith, below_more}
use Rattle.std.proofs.lemmas.List.{append-nil, append_assoc}
use Rattle.protocol.specs.Messages.{Body}
use Rattle.protocol.specs.Tags.{Setting}
use Rattle.protocol.specs.declared.types.Timeout.{Timeout}
use Rattle.protocol.specs.State.{State, Node, Rule}
use Rattle.protocol.specs.Order.{enabled}
use Rattle.protocol.specs.Arrivals.{firing}
use Rattle.protocol.specs.History.{Input, Settle, first, firsts, taken}
use Rattle.protocol.specs.Effects.{bodies_of, timeouts_of, along, bodies_taken, timeouts_taken}
use Rattle.protocol.proofs.Replays.{by_rule}
use Rattle.node_core.specs.Core.{Core, JournalSeen, Stands, IsSame, setting, setting_of, frame_by}
use Rattle.node_core.specs.Calls.{EachIsNamed, HasFired, HasFiredOnce, IsTaken, IsCalled}
use Rattle.node_core.specs.Running.{HasRun}

pub same_setting : (old new : Core) → IsSame old new → setting_of new ≡ setting_of old
same_setting old new s = rw (s.powers, s.me, s.ring) refl

pub same_then : (a b c : Core) → IsSame a b → IsSame b c → IsSame a c
same_then a b c x y = record { powers = y.powers ∙ x.powers; me = y.me ∙ x.me; ring = y.ring ∙ x.ring }

pub same_itself : (a : Core) → IsSame a a
same_itself a = record { powers = refl; me = refl; ring = refl }

pub map_append : {X Y : Type 0} (f : X → Y) (xs ys : List X) → map f (xs ++ ys) ≡ map f xs ++ map f ys
map_append f [] ys = refl
map_append f (x ∷ xs) ys = ap (λ l. f x ∷ l) (map_append f xs ys)

-- no rule fired
pub none_fired : (n : Node) (core : Core) → Stands n core → HasFired n 0 core core
none_fired n core s = record { named = λ k lt. absurd (omega (arith, lt)); stands = s; outgoing = sym (append-nil core.outgoing); scheduled = sym (append-nil core.scheduled); same = same_itself core }

-- what a later part of a call leaves, told of the core before it
moved_frames : (old mid : Core) → IsSame old mid → (give : Setting → ℕ → List Body) → map (frame_by mid) (give (setting_of mid) mid.machine.me) ≡ map (frame_by old) (give (setting_of old) old.machine.me)
moved_frames old mid s give = rw (s.powers, s.me, s.ring) refl

moved_timeouts : (old mid : Core) → IsSame old mid → (give : Setting → ℕ → List Timeout) → give (setting_of mid) mid.machine.me ≡ give (setting_of old) old.machine.me
moved_timeouts old mid s give = rw (s.powers, s.me, s.ring) refl

moved_stands : (old mid new : Core) → IsSame old mid → (node : Setting → ℕ → Node) → Stands (node (setting_of mid) mid.machine.me) new → Stands (node (setting_of old) old.machine.me) new
moved_stands old mid new s node x = rw (s.powers, s.me, s.ring) at x

moved_named : (old mid : Core) → IsSame old mid → (times : ℕ) (node : Setting → ℕ → Node) → EachIsNamed (setting_of mid) mid.machine.me times (node (setting_of mid) mid.machine.me) → EachIsNamed (setting_of old) old.machine.me times (node (setting_of old) old.machine.me)
moved_named old mid s times node x = rw (s.powers, s.me, s.ring) at x

-- the order named a rule each time, and names one now
named_more : (c : Setting) (p times : ℕ) (n : Node) (k : Rule) → EachIsNamed c p times n → enabled c.powers (firsts c p times n).state ≡ Some k → EachIsNamed c p (suc times) n
named_more c p times n k before now i lt = below_more (λ j. is_some (enabled c.powers (firsts c p j n).state) ≡ true) times before (ap (λ (o : Option Rule). is_some o) now) i (omega (arith, lt))

firsts_last : (c : Setting) (p times : ℕ) (n : Node) → firsts c p (suc times) n ≡ first c p (firsts c p times n)
firsts_last c p zero n = refl
firsts_last c p (suc times) n = firsts_last c p times (first c p n)

along_last : {X : Type 0} (give : Node → Rule → List X) (c : Setting) (p times : ℕ) (n : Node) → along give c p (suc times) n ≡ along give c p times n ++ by_rule give (firsts c p times n) (enabled c.powers (firsts c p times n).state)
along_last give c p zero n = append-nil _
along_last give c p (suc times) n = ap (λ l. by_rule give n (enabled c.powers n.state) ++ l) (along_last give c p times (first c p n)) ∙ sym (append_assoc (by_rule give n (enabled c.powers n.state)) (along give c p times (first c p n)) _)

-- those that the order named, and then one more
pub fired_more : (n : Node) (k : Rule) (times : ℕ) (old mid new : Core) → enabled mid.machine.powers mid.machine.state ≡ Some k → HasFired n times old mid → HasFiredOnce (firsts (setting_of old) old.machine.me times n) k mid new → HasFired n (suc times) old new
unfolding setting
fired_more n k times old mid new e before once =
    let c : Setting = setting_of old in
    let p : ℕ = old.machine.me in
    let m : Node = firsts c p times n in
    let named : enabled c.powers m.state ≡ Some k = ap (λ (s : State). enabled c.powers s) (sym before.stands.state) ∙ ap (λ ps. enabled ps mid.machine.state) (sym before.same.powers) ∙ e in
    let at : first c p m ≡ (firing c p m k).node = rw named refl in
    let bodies : by_rule (bodies_of c p) m (enabled c.powers m.state) ≡ bodies_of c p m k = rw named refl in
    let timeouts : by_rule (timeouts_of c p) m (enabled c.powers m.state) ≡ timeouts_of c p m k = rw named refl in
    record {
      named = named_more c p times n k before.named named;
      stands = subst (λ o. Stands o new) (sym at ∙ sym (firsts_last c p times n)) (moved_stands old mid new before.same (λ d q. (firing d q m k).node) once.stands);
      outgoing = once.outgoing ∙ ap (λ l. mid.outgoing ++ l) (moved_frames old mid before.same (λ d q. bodies_of d q m k)) ∙ ap (λ l. l ++ map (frame_by old) (bodies_of c p m k)) before.outgoing
          ∙ append_assoc old.outgoing (map (frame_by old) (along (bodies_of c p) c p times n)) _ ∙ ap (λ l. old.outgoing ++ l) (sym (map_append (frame_by old) (along (bodies_of c p) c p times n) (bodies_of c p m k)))
          ∙ ap (λ l. old.outgoing ++ map (frame_by old) (along (bodies_of c p) c p times n ++ l)) (sym bodies) ∙ ap (λ l. old.outgoing ++ map (frame_by old) l) (sym (along_last (bodies_of c p) c p times n));
      scheduled = once.scheduled ∙ ap (λ l. mid.scheduled ++ l) (moved_timeouts old mid before.same (λ d q. timeouts_of d q m k)) ∙ ap (λ l. l ++ timeouts_of c p m k) before.scheduled
          ∙ append_assoc old.scheduled (along (timeouts_of c p) c p times n) _ ∙ ap (λ l. old.scheduled ++ (along (timeouts_of c p) c p times n ++ l)) (sym timeouts) ∙ ap (λ l. old.scheduled ++ l) (sym (along_last (timeouts_of c p) c p times n));
      same = same_then old mid new before.same once.same;
    }

-- what is handed in, and then the firings
pub called : (n : Node) (input : Input) (times : ℕ) (old mid new : Core) → IsTaken n input old mid → HasFired (taken (setting_of old) old.machine.me n input) times mid new → new.fired ≡ min times (2 ^ 64 - 1) → IsCalled n input times old new
called n input times old mid new first rest count =
    let c : Setting = setting_of old in
    let p : ℕ = old.machine.me in
    let m : Node = taken c p n input in
    record {
      named = moved_named old mid first.same times (λ d q. m) rest.named;
      stands = moved_stands old mid new first.same (λ d q. firsts d q times m) rest.stands;
      outgoing = rest.outgoing ∙ ap (λ l. mid.outgoing ++ l) (moved_frames old mid first.same (λ d q. along (bodies_of d q) d q times m)) ∙ ap (λ l. l ++ map (frame_by old) (along (bodies_of c p) c p times m)) first.outgoing
          ∙ append_assoc old.outgoing (map (frame_by old) (bodies_taken c p n input)) _ ∙ ap (λ l. old.outgoing ++ l) (sym (map_append (frame_by old) (bodies_taken c p n input) (along (bodies_of c p) c p times m)));
      scheduled = rest.scheduled ∙ ap (λ l. mid.scheduled ++ l) (moved_timeouts old mid first.same (λ d q. along (timeouts_of d q) d q times m)) ∙ ap (λ l. l ++ along (timeouts_of c p) c p times m) first.scheduled ∙ append_assoc old.scheduled (timeouts_taken c p n input) _;
      same = same_then old mid new first.same rest.same;
      fired = count;
    }

-- nothing is handed in
pub settled : (n : Node) (core : Core) → Stands n core → IsTaken n Settle core core
settled n core s = record { stands = s; outgoing = sym (append-nil core.outgoing); scheduled = sym (append-nil core.scheduled); same = same_itself core }

-- a core whose journal failed stands for the same node
pub stands_failed : (n : Node) (core : Core) (journal : JournalSeen) → journal.failed ≡ true → Stands n core → Stands n (record core { journal = journal })
stands_failed n core journal failed s = record { state = s.state; queues = s.queues; decisions = s.decisions; said = s.said; journal = λ still. absurd (let e : true ≡ false = sym failed ∙ still in cc) }

same_failed : (old new : Core) (journal : JournalSeen) → IsSame old new → IsSame old (record new { journal = journal })
same_failed old new journal s = record { powers = s.powers; me = s.me; ring = s.ring }

-- and so does one that fired rules before
pub fired_failed : (n : Node) (times : ℕ) (old mid : Core) (journal : JournalSeen) → journal.failed ≡ true → HasFired n times old mid → HasFired n times old (record mid { journal = journal })
fired_failed n times old mid journal failed h = record { named = h.named; stands = stands_failed _ mid journal failed h.stands; outgoing = h.outgoing; scheduled = h.scheduled; same = same_failed old mid journal h.same }

pub run_failed : (old mid : Core) (journal : JournalSeen) → journal.failed ≡ true → HasRun old mid → HasRun old (record mid { journal = journal })
run_failed old mid journal failed r = record { times = r.times; count = r.count; ran = λ n s. fired_failed n r.times old mid journal failed (r.ran n s) }

-- ---- the count of firings stands apart

pub stands_counted : (n : Node) (core : Core) (count : ℕ) → Stands n core → Stands n (record core { fired = count })
stands_counted n core count s = record { state = s.state; queues = s.queues; decisions = s.decisions; said = s.said; journal = s.journal }

same_counted : (old new : Core) (count : ℕ) → IsSame old new → IsSame old (record new { fired = count })
same_counted old new count s = record { powers = s.powers; me = s.me; ring = s.ring }

pub once_counted : (n : Node) (k : Rule) (old new : Core) (count : ℕ) → HasFiredOnce n k old new → HasFiredOnce n k old (record new { fired = count })
once_counted n k old new count h = record { stands = stands_counted _ new count h.stands; outgoing = h.outgoing; scheduled = h.scheduled; same = same_counted old new count h.same }

pub run_counted : (old new : Core) (count : ℕ) → HasRun (record old { fired = count }) new → HasRun old new
run_counted old new count r = record {
  times = r.times;
  count = r.count;
  ran = λ n s. let h = r.ran n (stands_counted n old count s) in record { named = h.named; stands = h.stands; outgoing = h.outgoing; scheduled = h.scheduled; same = record { powers = h.same.powers; me = h.same.me; ring = h.same.ring } };
}

-- what is handed in, and then a run
pub called_run : (n : Node) (input : Input) (old mid new : Core) → IsTaken n input old mid → HasRun mid new → (times : ℕ) × IsCalled n input times old new
called_run n input old mid new first r = (r.times, called n input r.times old mid new first (r.ran _ first.stands) r.count)

-- a refusal left the node as it was
pub taken_counted : (n : Node) (input : Input) (old : Core) (count : ℕ) → IsTaken n input old old → IsTaken n input old (record old { fired = count })
taken_counted n input old count h = record { stands = stands_counted _ old count h.stands; outgoing = h.outgoing; scheduled = h.scheduled; same = same_counted old old count h.same }

pub taken_from : (n : Node) (input : Input) (old new : Core) (count : ℕ) → IsTaken n input (record old { fired = count }) new → IsTaken n input old new
taken_from n input old new count h = record { stands = h.stands; outgoing = h.outgoing; scheduled = h.scheduled; same = record { powers = h.same.powers; me = h.same.me; ring = h.same.ring } }

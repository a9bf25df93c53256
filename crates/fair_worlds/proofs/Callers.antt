-- Each turn of a world is a correct validator's.
use Rattle.std.proofs.Common.{◌≡◌, ℕ, suc, inl, inr, Bool, true, false, cond, List, [], ◌∷◌, ◌++◌, map, filter, refl, sym, ◌∙◌, ap, subst, Option, Some, None, option_to_list}
use Rattle.std.specs.Prelude.{slice_get}
use Rattle.protocol.specs.Tags.{Setting}
use Rattle.protocol.specs.Messages.{◌∈◌, Body, below}
use Rattle.protocol.specs.History.{Settle, Given}
use Rattle.protocol.proofs.Membership.{in_append, in_map, in_filter}
use Rattle.world_parties.specs.Cast.{Cast, setting_of, is_correct, correct}
use Rattle.world_parties.specs.declared.fault.FaultNumber.{FaultNumber}
use Rattle.world_parties.specs.declared.fault.FaultNumber.TheVariants.{NoSuchMessage, NoSuchParty}
use Rattle.world_schedule.specs.Health.{Health, Serving, Broken, Closed}
use Rattle.world_schedule.specs.Cores.{frame_in}
use Rattle.world_schedule.specs.Reports.{Made, validator_of}
use Rattle.world_schedule.specs.Standings.{sayer}
use Rattle.world_schedule.specs.Making.{Request, Hands, Asks, Resends, Scene, IsInsisted, IsTurn, AreTurns, IsReopened, IsSettled, IsRestart, scene_next, scene_after}
use Rattle.world_schedule.specs.Events.{Course, Happens, HaveHappened, asked_of, is_wanting, passes, turns, unless, cause_of, course_after}
use Rattle.world_schedule.specs.declared.event.Event.{Event}
use Rattle.world_schedule.specs.declared.event.Event.TheVariants as events
use Rattle.fair_worlds.specs.Laws.{AreByCorrect, CorrectCallsLaw}

passed : {X : Type 0} (test : X → Bool) (x : X) (xs : List X) → x ∈ filter test xs → test x ≡ true
passed test x [] k = absurd k
passed test x (y ∷ ys) k = at_test (test y) refl (passed test x ys) k
  where
    at_test : (b : Bool) → test y ≡ b → (x ∈ filter test ys → test x ≡ true) → x ∈ cond b (y ∷ filter test ys) (filter test ys) → test x ≡ true
    at_test true e rest (inl i) = ap test i ∙ e
    at_test true e rest (inr i) = rest i
    at_test false e rest i = rest i

the_same : (p q : ℕ) (test : ℕ → Bool) → Some p ≡ Some q → test p ≡ true → test q ≡ true
the_same p q test e h = let f : p ≡ q = cc in subst (λ (i : ℕ). test i ≡ true) f h

module _ (cast : Cast) where
  of_one : (p : ℕ) → is_correct cast p ≡ true → (m : Made) → validator_of m.call ≡ Some p → (q : ℕ) → validator_of m.call ≡ Some q → is_correct cast q ≡ true
  of_one p ok m by q e = the_same p q (is_correct cast) (sym by ∙ e) ok

  none_by : AreByCorrect cast []
  none_by m i = absurd i

  more_by : (m : Made) (ms : List Made) → ((q : ℕ) → validator_of m.call ≡ Some q → is_correct cast q ≡ true) → AreByCorrect cast ms → AreByCorrect cast (m ∷ ms)
  more_by m ms one rest n (inl e) p by = one p (subst (λ (k : Made). validator_of k.call ≡ Some p) e by)
  more_by m ms one rest n (inr i) p by = rest n i p by

  pub both_by : (ms ns : List Made) → AreByCorrect cast ms → AreByCorrect cast ns → AreByCorrect cast (ms ++ ns)
  both_by ms ns a b m i = elim (in_append m ms ns i) [ inl k ↦ a m k | inr k ↦ b m k ]

  of_insisted : (c : Setting) (s : Scene) (k p : ℕ) (request : Request) (ms : List Made) → is_correct cast p ≡ true → IsInsisted c s k p request ms → AreByCorrect cast ms
  of_insisted c s k p request [] ok i = absurd i
  of_insisted c s k p request (m ∷ []) ok i = more_by m [] (of_one p ok m i.0.by) none_by
  of_insisted c s k p request (m ∷ settling ∷ []) ok i = absurd i
  of_insisted c s k p request (m ∷ settling ∷ again ∷ []) ok i =
      more_by m (settling ∷ again ∷ []) (of_one p ok m i.0.by) (more_by settling (again ∷ []) (of_one p ok settling i.2.by) (more_by again [] (of_one p ok again i.3.by) none_by))
  of_insisted c s k p request (m ∷ settling ∷ again ∷ more ∷ rest) ok i = absurd i

  of_turn : (c : Setting) (s : Scene) (k p : ℕ) (request : Request) (ms : List Made) → is_correct cast p ≡ true → IsTurn c s k p request ms → AreByCorrect cast ms
  of_turn c s k p request ms ok (inl t) = of_insisted c s k p request ms ok t.1
  of_turn c s k p request ms ok (inr t) =
      subst (λ (l : List Made). AreByCorrect cast l) (sym t.1.2)
      (more_by t.1.0 t.1.1 (of_one p ok t.1.0 t.1.3.by) (of_insisted c (scene_next c s t.1.0) k p request t.1.1 ok t.1.4))

  -- each of these requests is a correct validator's
  abbrev pub AskTheCorrect : List (ℕ × Request) → Type 0
  AskTheCorrect rs = (r : ℕ × Request) → r ∈ rs → is_correct cast r.0 ≡ true

  pub of_turns : (c : Setting) (s : Scene) (k : ℕ) (rs : List (ℕ × Request)) (ms : List Made) → AskTheCorrect rs → AreTurns c s k rs ms → AreByCorrect cast ms
  of_turns c s k [] ms ask t = subst (λ (l : List Made). AreByCorrect cast l) (sym t) none_by
  of_turns c s k (r ∷ rs) ms ask t = subst (λ (l : List Made). AreByCorrect cast l) (sym t.2)
      (both_by t.0 t.1 (of_turn c s k r.0 r.1 t.0 (ask r (inl refl)) t.3) (of_turns c (scene_after c s t.0) k rs t.1 (λ q i. ask q (inr i)) t.4))

  of_reopened : (c : Setting) (s : Scene) (k p : ℕ) (ms : List Made) → is_correct cast p ≡ true → IsReopened c s k p ms → AreByCorrect cast ms
  of_reopened c s k p [] ok i = absurd i
  of_reopened c s k p (m ∷ []) ok i = more_by m [] (of_one p ok m i.0.by) none_by
  of_reopened c s k p (m ∷ again ∷ []) ok i = more_by m (again ∷ []) (of_one p ok m i.0.by) (more_by again [] (of_one p ok again i.2.by) none_by)
  of_reopened c s k p (m ∷ again ∷ more ∷ rest) ok i = absurd i

  of_settled : (c : Setting) (s : Scene) (k p : ℕ) (health : Health) (ms : List Made) → is_correct cast p ≡ true → IsSettled c s k p health ms → AreByCorrect cast ms
  of_settled c s k p Serving ms ok t = of_turn c s k p (Hands Settle) ms ok t
  of_settled c s k p (Broken cut) ms ok t = of_turn c s k p (Hands Settle) ms ok t
  of_settled c s k p (Closed cut) ms ok t = subst (λ (l : List Made). AreByCorrect cast l) (sym t) none_by

  of_restart : (c : Setting) (s : Scene) (k p : ℕ) (ms : List Made) → is_correct cast p ≡ true → IsRestart c s k p ms → AreByCorrect cast ms
  of_restart c s k p ms ok r = subst (λ (l : List Made). AreByCorrect cast l) (sym r.2)
      (both_by r.0 r.1 (of_reopened c s k p r.0 ok r.3) (of_settled c (scene_after c s r.0) k p ((scene_after c s r.0).health p) r.1 ok r.4))

  -- ---- whom an event asks

  ask_one : (p : ℕ) (request : Request) → is_correct cast p ≡ true → AskTheCorrect ((p, request) ∷ [])
  ask_one p request ok r (inl e) = subst (λ (q : ℕ × Request). is_correct cast q.0 ≡ true) (sym e) ok
  ask_one p request ok r (inr i) = absurd i

  ask_both : (rs qs : List (ℕ × Request)) → AskTheCorrect rs → AskTheCorrect qs → AskTheCorrect (rs ++ qs)
  ask_both rs qs a b r i = elim (in_append r rs qs i) [ inl k ↦ a r k | inr k ↦ b r k ]

  ask_all : (request : Request) (ps : List ℕ) → ((p : ℕ) → p ∈ ps → is_correct cast p ≡ true) → AskTheCorrect (map (asked_of request) ps)
  ask_all request ps all r i = let k = in_map (asked_of request) r ps i in subst (λ (q : ℕ × Request). is_correct cast q.0 ≡ true) k.2 (all k.0 k.1)

  pub in_correct : (p : ℕ) → p ∈ correct cast → is_correct cast p ≡ true
  in_correct p i = passed (is_correct cast) p (below _) i

  ask_passes : (c : Setting) (brought : ℕ → ℕ → Bool) (ps : List ℕ) (number : ℕ) (bs : List Body) → ((p : ℕ) → p ∈ ps → is_correct cast p ≡ true) → AskTheCorrect (passes c brought ps number bs)
  ask_passes c brought ps number [] all = λ r i. absurd i
  ask_passes c brought ps number (b ∷ bs) all = ask_both (map (asked_of (Hands (Given (frame_in c b)))) (filter (is_wanting brought number (sayer b)) ps)) (passes c brought ps (suc number) bs)
      (ask_all (Hands (Given (frame_in c b))) (filter (is_wanting brought number (sayer b)) ps) (λ p i. all p (in_filter (is_wanting brought number (sayer b)) p ps i)))
      (ask_passes c brought ps (suc number) bs all)

  holds_first : (holds : Bool) (fault : FaultNumber) (more : Option FaultNumber) → unless holds fault more ≡ None → holds ≡ true
  holds_first true fault more e = refl
  holds_first false fault more e = absurd (let f : Some fault ≡ None = e in cc)

  holds_then : (holds : Bool) (fault : FaultNumber) (more : Option FaultNumber) → unless holds fault more ≡ None → more ≡ None
  holds_then true fault more e = e
  holds_then false fault more e = absurd (let f : Some fault ≡ None = e in cc)

  ask_of_event : (w : Course) (event : Event) → cause_of cast w.scene.standing event ≡ None → AskTheCorrect (turns cast w event)
  ask_of_event w (events.Send client op) e = λ r i. absurd i
  ask_of_event w (events.Open client) e = λ r i. absurd i
  ask_of_event w (events.Deliver number p) e = ask_found (slice_get w.scene.standing.numbered number)
    where
      ask_found : (found : Option Body) → AskTheCorrect (map (λ b. (p, Hands (Given (frame_in (setting_of cast) b)))) (option_to_list found))
      ask_found None = λ r i. absurd i
      ask_found (Some b) = ask_one p (Hands (Given (frame_in (setting_of cast) b))) (holds_first (is_correct cast p) NoSuchParty None (holds_then _ NoSuchMessage _ e))
  ask_of_event w events.Pass e = ask_passes (setting_of cast) w.brought (correct cast) 0 w.scene.standing.numbered in_correct
  ask_of_event w (events.Timeout p t) e = ask_one p _ (holds_first (is_correct cast p) NoSuchParty None e)
  ask_of_event w (events.Ask p) e = ask_one p Asks (holds_first (is_correct cast p) NoSuchParty None e)
  ask_of_event w (events.Resend p) e = ask_one p Resends (holds_first (is_correct cast p) NoSuchParty None e)
  ask_of_event w (events.Restart p) e = λ r i. absurd i
  ask_of_event w (events.Fail p failing) e = λ r i. absurd i
  ask_of_event w (events.Submit p line) e = ask_one p _ (holds_first (is_correct cast p) NoSuchParty None e)
  ask_of_event w (events.Propose p line) e = ask_one p _ (holds_first (is_correct cast p) NoSuchParty _ e)
  ask_of_event w (events.Vote p line) e = ask_one p _ (holds_first (is_correct cast p) NoSuchParty _ e)
  ask_of_event w (events.Bundle p line) e = ask_one p _ (holds_first (is_correct cast p) NoSuchParty _ e)
  ask_of_event w (events.Frame p bytes) e = ask_one p _ (holds_first (is_correct cast p) NoSuchParty None e)

  -- ---- the calls of events

  of_nobody : (m : Made) (ms : List Made) → ms ≡ m ∷ [] → validator_of m.call ≡ None → AreByCorrect cast ms
  of_nobody m ms e none = subst (λ (l : List Made). AreByCorrect cast l) (sym e) (more_by m [] (λ q by. absurd (let f : None ≡ Some q = sym none ∙ by in cc)) none_by)

  of_event : (w : Course) (k : ℕ) (event : Event) (made : List Made) → cause_of cast w.scene.standing event ≡ None → Happens cast w k event made → AreByCorrect cast made
  of_event w k (events.Send client op) made e h = of_nobody _ made h refl
  of_event w k (events.Open client) made e h = of_nobody _ made h refl
  of_event w k (events.Restart p) made e h = of_restart (setting_of cast) w.scene k p made (holds_first (is_correct cast p) NoSuchParty None e) h
  of_event w k (events.Deliver number p) made e h = of_turns (setting_of cast) w.scene k (turns cast w (events.Deliver number p)) made (ask_of_event w (events.Deliver number p) e) h
  of_event w k events.Pass made e h = of_turns (setting_of cast) w.scene k (turns cast w events.Pass) made (ask_of_event w events.Pass e) h
  of_event w k (events.Timeout p t) made e h = of_turns (setting_of cast) w.scene k (turns cast w (events.Timeout p t)) made (ask_of_event w (events.Timeout p t) e) h
  of_event w k (events.Ask p) made e h = of_turns (setting_of cast) w.scene k (turns cast w (events.Ask p)) made (ask_of_event w (events.Ask p) e) h
  of_event w k (events.Resend p) made e h = of_turns (setting_of cast) w.scene k (turns cast w (events.Resend p)) made (ask_of_event w (events.Resend p) e) h
  of_event w k (events.Fail p failing) made e h = of_turns (setting_of cast) w.scene k (turns cast w (events.Fail p failing)) made (ask_of_event w (events.Fail p failing) e) h
  of_event w k (events.Submit p line) made e h = of_turns (setting_of cast) w.scene k (turns cast w (events.Submit p line)) made (ask_of_event w (events.Submit p line) e) h
  of_event w k (events.Propose p line) made e h = of_turns (setting_of cast) w.scene k (turns cast w (events.Propose p line)) made (ask_of_event w (events.Propose p line) e) h
  of_event w k (events.Vote p line) made e h = of_turns (setting_of cast) w.scene k (turns cast w (events.Vote p line)) made (ask_of_event w (events.Vote p line) e) h
  of_event w k (events.Bundle p line) made e h = of_turns (setting_of cast) w.scene k (turns cast w (events.Bundle p line)) made (ask_of_event w (events.Bundle p line) e) h
  of_event w k (events.Frame p bytes) made e h = of_turns (setting_of cast) w.scene k (turns cast w (events.Frame p bytes)) made (ask_of_event w (events.Frame p bytes) e) h

  of_events : (w : Course) (k : ℕ) (events : List Event) (made : List Made) (last : Course) → HaveHappened cast w k events made last → AreByCorrect cast made
  of_events w k [] made last h = subst (λ (l : List Made). AreByCorrect cast l) (sym h.0) none_by
  of_events w k (event ∷ more) made last h = subst (λ (l : List Made). AreByCorrect cast l) (sym h.2)
      (both_by h.0 h.1 (of_event w (suc k) event h.0 h.3.no_cause h.4) (of_events (course_after cast w event h.0) (suc k) more h.1 last h.5))

pub correct_calls_law : CorrectCallsLaw
correct_calls_law cast = record {
  opening = λ made t. of_turns cast (setting_of cast) _ 0 _ made (ask_all cast (Hands Settle) (correct cast) (in_correct cast)) t;
  run = λ ms brought events before report k by. both_by cast ms k.more by (of_events cast _ 0 events k.more _ k.happened);
}

-- The calls that events come to are of these events.
use Rattle.std.proofs.Common.{◌≡◌, ℕ, suc, inl, inr, List, [], ◌∷◌, ◌++◌, refl, sym, subst}
use Rattle.protocol.specs.Tags.{Setting}
use Rattle.protocol.specs.Messages.{◌∈◌}
use Rattle.protocol.specs.State.{Node}
use Rattle.protocol.specs.History.{Input, Settle}
use Rattle.protocol.proofs.Membership.{in_append}
use Rattle.world_parties.specs.Cast.{Cast, setting_of}
use Rattle.world_schedule.specs.Calls.{Call, Asked, Resent}
use Rattle.world_schedule.specs.Health.{Health, Serving, Broken, Closed}
use Rattle.world_schedule.specs.Answered.{IsAnswered}
use Rattle.world_schedule.specs.Reports.{Made}
use Rattle.world_schedule.specs.Making.{Request, Hands, Asks, Resends, Reopens, IsLet, IsMet, Scene, IsOne, IsInsisted, IsTurn, AreTurns, IsReopened, IsSettled, IsRestart, scene_next, scene_after}
use Rattle.world_schedule.specs.Events.{Course, Happens, HaveHappened, turns, course_after}
use Rattle.world_schedule.specs.Outcome.{IsFor, IsOfEvent, AreOfEvents, ComingLaw}
use Rattle.world_schedule.specs.declared.event.Event.{Event}
use Rattle.world_schedule.specs.declared.event.Event.TheVariants as events

-- ---- one call

by_answer : (c : Setting) (p : ℕ) (n : Node) (input : Input) (numbers : ℕ × ℕ) (call : Call) → IsAnswered c p n input numbers call → IsFor p (Hands input) call
by_answer c p n input numbers call (inl went) = inl (went.times, went.call_is)
by_answer c p n input numbers call (inr (inl refused)) = inl (0, refused.call_is)
by_answer c p n input numbers call (inr (inr (inl ended))) = elim ended.call_is [ inl e ↦ inl (ended.times, e) | inr e ↦ inr (0, e) ]
by_answer c p n input numbers call (inr (inr (inr halted))) = inr (0, halted.call_is)

by_let : (p : ℕ) (request : Request) (wanted : Call) (numbers : ℕ × ℕ) (call : Call) → (call ≡ wanted → IsFor p request call) → IsLet p wanted numbers call → IsFor p request call
by_let p request wanted numbers call meets (inl k) = meets k.1
by_let p request wanted numbers call meets (inr k) = inr (0, k.1)

by_request : (c : Setting) (p : ℕ) (n : Node) (old : Health) (request : Request) (numbers : ℕ × ℕ) (call : Call) (new : Health) → IsMet c p n old request numbers call new → IsFor p request call
by_request c p n Serving (Hands input) numbers call new k = by_answer c p n input numbers call k.answered
by_request c p n (Broken cut) (Hands input) numbers call new k = inr (0, k.call_is)
by_request c p n (Closed cut) (Hands input) numbers call new k = inr (0, k.call_is)
by_request c p n Serving Asks numbers call new k = by_let p Asks (Asked p) numbers call (λ e. inl e) k.0
by_request c p n (Broken cut) Asks numbers call new k = inr (0, k.call_is)
by_request c p n (Closed cut) Asks numbers call new k = inr (0, k.call_is)
by_request c p n Serving Resends numbers call new k = by_let p Resends (Resent p) numbers call (λ e. inl e) k.0
by_request c p n (Broken cut) Resends numbers call new k = inr (0, k.call_is)
by_request c p n (Closed cut) Resends numbers call new k = inr (0, k.call_is)
by_request c p n old Reopens numbers call Serving k = inl (k.1.0, k.1.2)
by_request c p n old Reopens numbers call (Broken cut) k = absurd k
by_request c p n old Reopens numbers call (Closed cut) k = inr (0, k.1)

of_one : (c : Setting) (s : Scene) (k p : ℕ) (request : Request) (m : Made) → IsOne c s k p request m → IsFor p request m.call
of_one c s k p request m one = by_request c p (s.standing.nodes p) (s.health p) request m.answer m.call m.health one.met

settled_for : (p : ℕ) (request : Request) (call : Call) → IsFor p (Hands Settle) call → IsFor p request call
settled_for p request call (inl k) = inr k
settled_for p request call (inr k) = inr k

-- ---- the calls of a turn

abbrev AreFor : ℕ → Request → List Made → Type 0
AreFor p request ms = (m : Made) → m ∈ ms → IsFor p request m.call

none_for : (p : ℕ) (request : Request) → AreFor p request []
none_for p request m i = absurd i

more_for : (p : ℕ) (request : Request) (m : Made) (ms : List Made) → IsFor p request m.call → AreFor p request ms → AreFor p request (m ∷ ms)
more_for p request m ms one rest n (inl e) = subst (λ (k : Made). IsFor p request k.call) (sym e) one
more_for p request m ms one rest n (inr i) = rest n i

both_for : (p : ℕ) (request : Request) (ms ns : List Made) → AreFor p request ms → AreFor p request ns → AreFor p request (ms ++ ns)
both_for p request ms ns a b m i = elim (in_append m ms ns i) [ inl k ↦ a m k | inr k ↦ b m k ]

all_settled_for : (p : ℕ) (request : Request) (ms : List Made) → AreFor p (Hands Settle) ms → AreFor p request ms
all_settled_for p request ms a m i = settled_for p request m.call (a m i)

of_insisted : (c : Setting) (s : Scene) (k p : ℕ) (request : Request) (ms : List Made) → IsInsisted c s k p request ms → AreFor p request ms
of_insisted c s k p request [] i = absurd i
of_insisted c s k p request (m ∷ []) i = more_for p request m [] (of_one c s k p request m i.0) (none_for p request)
of_insisted c s k p request (m ∷ settling ∷ []) i = absurd i
of_insisted c s k p request (m ∷ settling ∷ again ∷ []) i =
    let settles : IsFor p request settling.call = settled_for p request settling.call (of_one c (scene_next c s m) k p (Hands Settle) settling i.2) in
    let later : IsFor p request again.call = of_one c (scene_next c (scene_next c s m) settling) k p request again i.3 in
    more_for p request m (settling ∷ again ∷ []) (of_one c s k p request m i.0) (more_for p request settling (again ∷ []) settles (more_for p request again [] later (none_for p request)))
of_insisted c s k p request (m ∷ settling ∷ again ∷ more ∷ rest) i = absurd i

of_turn : (c : Setting) (s : Scene) (k p : ℕ) (request : Request) (ms : List Made) → IsTurn c s k p request ms → AreFor p request ms
of_turn c s k p request ms (inl t) = of_insisted c s k p request ms t.1
of_turn c s k p request ms (inr t) =
    subst (λ (l : List Made). AreFor p request l) (sym t.1.2)
    (more_for p request t.1.0 t.1.1 (settled_for p request t.1.0.call (of_one c s k p (Hands Settle) t.1.0 t.1.3)) (of_insisted c (scene_next c s t.1.0) k p request t.1.1 t.1.4))

-- ---- the calls of an event

of_turns : (c : Setting) (s : Scene) (k : ℕ) (rs : List (ℕ × Request)) (ms : List Made) → AreTurns c s k rs ms → (m : Made) → m ∈ ms → (r : ℕ × Request) × (r ∈ rs) × IsFor r.0 r.1 m.call
of_turns c s k [] ms t m i = absurd (subst (λ (l : List Made). m ∈ l) t i)
of_turns c s k (r ∷ rs) ms t m i = elim (in_append m t.0 t.1 (subst (λ (l : List Made). m ∈ l) t.2 i)) [
  | inl a ↦ (r, inl refl, of_turn c s k r.0 r.1 t.0 t.3 m a)
  | inr a ↦ (let q = of_turns c (scene_after c s t.0) k rs t.1 t.4 m a in (q.0, inr q.1, q.2))
]

of_reopened : (c : Setting) (s : Scene) (k p : ℕ) (ms : List Made) → IsReopened c s k p ms → AreFor p Reopens ms
of_reopened c s k p [] i = absurd i
of_reopened c s k p (m ∷ []) i = more_for p Reopens m [] (of_one c s k p Reopens m i.0) (none_for p Reopens)
of_reopened c s k p (m ∷ again ∷ []) i =
    more_for p Reopens m (again ∷ []) (of_one c s k p Reopens m i.0) (more_for p Reopens again [] (of_one c (scene_next c s m) k p Reopens again i.2) (none_for p Reopens))
of_reopened c s k p (m ∷ again ∷ more ∷ rest) i = absurd i

of_settled : (c : Setting) (s : Scene) (k p : ℕ) (health : Health) (ms : List Made) → IsSettled c s k p health ms → AreFor p (Hands Settle) ms
of_settled c s k p Serving ms t = of_turn c s k p (Hands Settle) ms t
of_settled c s k p (Broken cut) ms t = of_turn c s k p (Hands Settle) ms t
of_settled c s k p (Closed cut) ms t = subst (λ (l : List Made). AreFor p (Hands Settle) l) (sym t) (none_for p (Hands Settle))

of_restart : (c : Setting) (s : Scene) (k p : ℕ) (ms : List Made) → IsRestart c s k p ms → AreFor p Reopens ms
of_restart c s k p ms r =
    let settles : AreFor p Reopens r.1 = all_settled_for p Reopens r.1 (of_settled c (scene_after c s r.0) k p ((scene_after c s r.0).health p) r.1 r.4) in
    subst (λ (l : List Made). AreFor p Reopens l) (sym r.2) (both_for p Reopens r.0 r.1 (of_reopened c s k p r.0 r.3) settles)

of_client : (call : Call) (m one : Made) (ms : List Made) → one.call ≡ call → ms ≡ one ∷ [] → m ∈ ms → m.call ≡ call
of_client call m one ms made e i = elim (subst (λ (l : List Made). m ∈ l) e i) [ inl k ↦ subst (λ (it : Made). it.call ≡ call) (sym k) made | inr k ↦ absurd k ]

of_event : (cast : Cast) (w : Course) (k : ℕ) (event : Event) (made : List Made) → Happens cast w k event made → (m : Made) → m ∈ made → IsOfEvent cast w event m.call
of_event cast w k (events.Send client op) made h m i = of_client _ m _ made refl h i
of_event cast w k (events.Open client) made h m i = of_client _ m _ made refl h i
of_event cast w k (events.Restart p) made h m i = of_restart (setting_of cast) w.scene k p made h m i
of_event cast w k (events.Deliver number p) made h m i = of_turns (setting_of cast) w.scene k (turns cast w (events.Deliver number p)) made h m i
of_event cast w k events.Pass made h m i = of_turns (setting_of cast) w.scene k (turns cast w events.Pass) made h m i
of_event cast w k (events.Timeout p t) made h m i = of_turns (setting_of cast) w.scene k (turns cast w (events.Timeout p t)) made h m i
of_event cast w k (events.Ask p) made h m i = of_turns (setting_of cast) w.scene k (turns cast w (events.Ask p)) made h m i
of_event cast w k (events.Resend p) made h m i = of_turns (setting_of cast) w.scene k (turns cast w (events.Resend p)) made h m i
of_event cast w k (events.Fail p failing) made h m i = of_turns (setting_of cast) w.scene k (turns cast w (events.Fail p failing)) made h m i
of_event cast w k (events.Submit p line) made h m i = of_turns (setting_of cast) w.scene k (turns cast w (events.Submit p line)) made h m i
of_event cast w k (events.Propose p line) made h m i = of_turns (setting_of cast) w.scene k (turns cast w (events.Propose p line)) made h m i
of_event cast w k (events.Vote p line) made h m i = of_turns (setting_of cast) w.scene k (turns cast w (events.Vote p line)) made h m i
of_event cast w k (events.Bundle p line) made h m i = of_turns (setting_of cast) w.scene k (turns cast w (events.Bundle p line)) made h m i
of_event cast w k (events.Frame p bytes) made h m i = of_turns (setting_of cast) w.scene k (turns cast w (events.Frame p bytes)) made h m i

of_events : (cast : Cast) (w : Course) (k : ℕ) (es : List Event) (made : List Made) (last : Course) → HaveHappened cast w k es made last → AreOfEvents cast w es made
of_events cast w k [] made last h = h.0
of_events cast w k (event ∷ more) made last h = (h.0, h.1, h.2, of_event cast w (suc k) event h.0 h.4, of_events cast (course_after cast w event h.0) (suc k) more h.1 last h.5)

pub coming_law : ComingLaw
coming_law cast ms brought es before report k = of_events cast _ 0 es k.more _ k.happened

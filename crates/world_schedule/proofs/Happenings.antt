-- What an event leaves of a world.
use Rattle.std.proofs.Common.{◌≡◌, ◌≢◌, ℕ, ◌<◌, ◌^◌, inl, inr, Bool, true, false, cond, Option, Some, None, Result, Ok, Err, OnOk, List, [], ◌∷◌, ◌++◌, map, set, length, eq-eqb, ne_eqb, refl, sym, ap, ap₂, ◌∙◌, subst, append-nil, arith}
use Rattle.std.specs.Prelude.{slice_get, nat_lt, option_to_list, ◌==◌, ◌&&◌, ◌||◌, not}
use Rattle.std.proofs.Math.ListN.{length-set}
use Rattle.std.proofs.lemmas.Bool.{cases_eq, cases_Bool}
use Rattle.protocol.specs.Values.{Op, Item, fresh, left_by, left_after, session_wanted, number_wanted}
use Rattle.protocol.specs.declared.standing.Standing.{Standing as Reached}
use Rattle.protocol.specs.Tags.{Setting}
use Rattle.messages.specs.Framing.{IsMessage}
use Rattle.protocol.specs.Messages.{Body, tagged}
use Rattle.protocol.specs.World.{next_item}
use Rattle.protocol.specs.History.{Settle, Given}
use Rattle.world_parties.specs.Cast.{Cast, setting_of, is_correct, is_client, correct}
use Rattle.world_parties.specs.declared.fault.FaultNumber.{FaultNumber}
use Rattle.world_parties.specs.declared.fault.FaultNumber.TheVariants.{NoSuchMessage, NoSuchParty, ClientClosed, NotClosed}
use Rattle.world_schedule.specs.Health.{Health, Serving, Broken, Closed}
use Rattle.world_schedule.specs.Cores.{frame_in}
use Rattle.world_schedule.specs.Calls.{Call, Sent, Began, Handed, Asked, Resent, Reopened}
use Rattle.world_schedule.specs.Reports.{Made, Standing, begun_after, stands_in, is_shut, next, validator_of, said_as, noted, told_of_call}
use Rattle.world_schedule.specs.Making.{Request, Hands, Scene, IsInsisted, IsTurn, AreTurns, IsReopened, IsSettled, IsRestart, scene_next, scene_after}
use Rattle.world_schedule.specs.Standings.{Holds, Says}
use Rattle.world_schedule.specs.Validators.{HaveTurned}
use Rattle.world_schedule.specs.Restarting.{HaveRestarted}
use Rattle.world_schedule.specs.Events.{Course, Happens, asked_of, comes, passes, unless, brought_by, CanHappen}
use Rattle.world_schedule.specs.Worlds.{LeadOn, HaveMet, HaveSent, has_come, IsAt, IsMet, HasActed}
use Rattle.world_schedule.specs.declared.event.Event.{Event}
use Rattle.world_schedule.specs.declared.event.Event.TheVariants as events
use Rattle.world_schedule.specs.declared.event.Failing.{Failing}
use Rattle.world_schedule.specs.declared.clients.Clients.{Clients}
use Rattle.world_schedule.specs.declared.seat.Seat.{Seat}
use Rattle.world_schedule.specs.declared.validators.Validators.{Validators}
use Rattle.world_schedule.specs.declared.chronicle.Chronicle.{Chronicle}
use Rattle.world_schedule.specs.declared.brought.Brought.{Brought}
use Rattle.world_schedule.specs.declared.stage.Stage.{Stage}
use Rattle.world_schedule.proofs.Turning.{scene_append}
use Rattle.world_schedule.proofs.InTurn.{turned_leads, passes_same}
use Rattle.world_schedule.proofs.Others.{seat_later, get_set_same, get_set_other}

-- ---- validators' calls send nothing

unsent_once : (c : Setting) (s : Scene) (m : Made) (p client : ℕ) → validator_of m.call ≡ Some p → stands_in (scene_next c s m).standing client ≡ stands_in s.standing client
unsent_once c s m p client by = of_call m.call by
  where
    of_call : (call : Call) → validator_of call ≡ Some p → stands_in (next c s.standing call) client ≡ stands_in s.standing client
    of_call (Sent sender op) e = absurd (let f : None ≡ Some p = e in cc)
    of_call (Began beginner) e = absurd (let f : None ≡ Some p = e in cc)
    of_call (Handed q input times) e = refl
    of_call (Asked q) e = refl
    of_call (Resent q) e = refl
    of_call (Reopened q cut) e = refl

unsent_insisted : (c : Setting) (s : Scene) (k p : ℕ) (request : Request) (ms : List Made) (client : ℕ) → IsInsisted c s k p request ms → stands_in (scene_after c s ms).standing client ≡ stands_in s.standing client
unsent_insisted c s k p request [] client i = absurd i
unsent_insisted c s k p request (m ∷ []) client i = unsent_once c s m p client i.0.by
unsent_insisted c s k p request (m ∷ settling ∷ []) client i = absurd i
unsent_insisted c s k p request (m ∷ settling ∷ again ∷ []) client i =
    unsent_once c (scene_next c (scene_next c s m) settling) again p client i.3.by ∙ unsent_once c (scene_next c s m) settling p client i.2.by ∙ unsent_once c s m p client i.0.by
unsent_insisted c s k p request (m ∷ settling ∷ again ∷ more ∷ rest) client i = absurd i

pub unsent_turn : (c : Setting) (s : Scene) (k p : ℕ) (request : Request) (ms : List Made) (client : ℕ) → IsTurn c s k p request ms → stands_in (scene_after c s ms).standing client ≡ stands_in s.standing client
unsent_turn c s k p request ms client (inl t) = unsent_insisted c s k p request ms client t.1
unsent_turn c s k p request ms client (inr t) =
    subst (λ l. stands_in (scene_after c s l).standing client ≡ stands_in s.standing client) (sym t.1.2) (unsent_insisted c (scene_next c s t.1.0) k p request t.1.1 client t.1.4 ∙ unsent_once c s t.1.0 p client t.1.3.by)

pub unsent_turns : (c : Setting) (s : Scene) (k : ℕ) (rs : List (ℕ × Request)) (ms : List Made) (client : ℕ) → AreTurns c s k rs ms → stands_in (scene_after c s ms).standing client ≡ stands_in s.standing client
unsent_turns c s k [] ms client t = subst (λ l. stands_in (scene_after c s l).standing client ≡ stands_in s.standing client) (sym t) refl
unsent_turns c s k (r ∷ rs) ms client t =
    subst (λ l. stands_in (scene_after c s l).standing client ≡ stands_in s.standing client) (sym t.2)
    (ap (λ (x : Scene). stands_in x.standing client) (scene_append c s t.0 t.1) ∙ unsent_turns c (scene_after c s t.0) k rs t.1 client t.4 ∙ unsent_turn c s k r.0 r.1 t.0 client t.3)

pub sent_same : (clients : ℕ) (reached later : ℕ → Reached) (each : List Reached) → ((client : ℕ) → later client ≡ reached client) → HaveSent clients reached each → HaveSent clients later each
sent_same clients reached later each e h = (h.0, λ client l. h.1 client l ∙ ap Some (sym (e client)))

-- ---- validators' turns

-- after these calls of validators
after_calls : (cast : Cast) (w : Course) (made : List Made) (old : Stage) (vs : Validators) (chronicle : Chronicle) → IsAt cast w old → LeadOn (setting_of cast) w.scene made old.validators.each.items vs.each.items old.chronicle chronicle
    → ((client : ℕ) → stands_in (scene_after (setting_of cast) w.scene made).standing client ≡ stands_in w.scene.standing client) → IsAt cast (record { scene = scene_after (setting_of cast) w.scene made; brought = w.brought }) (record old { validators = vs; chronicle = chronicle })
after_calls cast w made old vs chronicle at k unsent = record {
  parties = at.parties;
  correct_are = at.correct_are;
  up = k.up;
  places_are = k.places_are ∙ at.places_are;
  holds = k.holds;
  sent = sent_same cast.clients (stands_in w.scene.standing) (stands_in (scene_after (setting_of cast) w.scene made).standing) old.clients.each.items unsent at.sent;
  brought = at.brought;
}

pub met_at : (cast : Cast) (w : Course) (p : ℕ) (request : Request) (old : Stage) (vs : Validators) (chronicle : Chronicle) → IsAt cast w old
    → HaveTurned (setting_of cast) w.scene p request old.validators.each.items vs.each.items old.chronicle chronicle → IsMet cast w p request old (record old { validators = vs; chronicle = chronicle })
met_at cast w p request old vs chronicle at k = record {
  made = k.made;
  turn = k.turn;
  at = after_calls cast w k.made old vs chronicle at (turned_leads (setting_of cast) w.scene p request old.validators.each.items vs.each.items old.chronicle chronicle k) (λ client. unsent_turn (setting_of cast) w.scene old.chronicle.event p request k.made client k.turn);
  told_is = k.told;
}

-- ---- a restart

unsent_reopened : (c : Setting) (s : Scene) (k p : ℕ) (ms : List Made) (client : ℕ) → IsReopened c s k p ms → stands_in (scene_after c s ms).standing client ≡ stands_in s.standing client
unsent_reopened c s k p [] client i = absurd i
unsent_reopened c s k p (m ∷ []) client i = unsent_once c s m p client i.0.by
unsent_reopened c s k p (m ∷ again ∷ []) client i = unsent_once c (scene_next c s m) again p client i.2.by ∙ unsent_once c s m p client i.0.by
unsent_reopened c s k p (m ∷ again ∷ more ∷ rest) client i = absurd i

unsent_settled : (c : Setting) (s : Scene) (k p : ℕ) (h : Health) (ms : List Made) (client : ℕ) → IsSettled c s k p h ms → stands_in (scene_after c s ms).standing client ≡ stands_in s.standing client
unsent_settled c s k p Serving ms client t = unsent_turn c s k p (Hands Settle) ms client t
unsent_settled c s k p (Broken cut) ms client t = unsent_turn c s k p (Hands Settle) ms client t
unsent_settled c s k p (Closed cut) ms client t = subst (λ l. stands_in (scene_after c s l).standing client ≡ stands_in s.standing client) (sym t) refl

unsent_restart : (c : Setting) (s : Scene) (k p : ℕ) (ms : List Made) (client : ℕ) → IsRestart c s k p ms → stands_in (scene_after c s ms).standing client ≡ stands_in s.standing client
unsent_restart c s k p ms client t =
    subst (λ l. stands_in (scene_after c s l).standing client ≡ stands_in s.standing client) (sym t.2)
    (ap (λ (x : Scene). stands_in x.standing client) (scene_append c s t.0 t.1) ∙ unsent_settled c (scene_after c s t.0) k p ((scene_after c s t.0).health p) t.1 client t.4 ∙ unsent_reopened c s k p t.0 client t.3)

restarted_leads : (c : Setting) (s : Scene) (p : ℕ) (old new : List Seat) (before after : Chronicle) → (k : HaveRestarted c s p old new before after) → LeadOn c s k.made old new before after
restarted_leads c s p old new before after k = record { up = k.up; places_are = k.places_are; holds = k.holds; told = k.told; event = k.event }

-- a cause that isn't
pub passed_by : (holds : Bool) (fault : FaultNumber) (more : Option FaultNumber) → holds ≡ true → unless holds fault more ≡ more
passed_by holds fault more e = rw e refl

-- one validator had its turn, and nothing is noted of what was brought
pub acted : (cast : Cast) (w : Course) (event : Event) (p : ℕ) (request : Request) (old new : Stage) → CanHappen cast w.scene.standing event
    → ((k : ℕ) (made : List Made) → AreTurns (setting_of cast) w.scene k (asked_of request p ∷ []) made → Happens cast w k event made) → ((i q : ℕ) → brought_by w event i q ≡ w.brought i q) → IsMet cast w p request old new → HasActed cast w event old new
acted cast w event p request old new possible happens same k = record {
  made = k.made;
  happens = happens old.chronicle.event k.made (k.made, [], sym (append-nil k.made), k.turn, refl);
  possible = possible;
  at = record {
    parties = k.at.parties;
    correct_are = k.at.correct_are;
    up = k.at.up;
    places_are = k.at.places_are;
    holds = k.at.holds;
    sent = k.at.sent;
    brought = λ i q. k.at.brought i q ∙ sym (same i q);
  };
  told_is = k.told_is;
}

-- bytes came to a validator
pub heard : (cast : Cast) (w : Course) (event : Event) (p q : ℕ) (wanted given : List ℕ) (old new : Stage) → q ≡ p → given ≡ wanted → CanHappen cast w.scene.standing event
    → ((k : ℕ) (made : List Made) → AreTurns (setting_of cast) w.scene k (comes p wanted) made → Happens cast w k event made) → ((i r : ℕ) → brought_by w event i r ≡ w.brought i r) → IsMet cast w q (Hands (Given given)) old new → HasActed cast w event old new
heard cast w event p q wanted given old new e f possible happens same k =
    acted cast w event p (Hands (Given wanted)) old new possible happens same (subst (λ r. IsMet cast w r (Hands (Given wanted)) old new) e (subst (λ b. IsMet cast w q (Hands (Given b)) old new) f k))

pub restarts : (cast : Cast) (w : Course) (p q : ℕ) (old : Stage) (vs : Validators) (chronicle : Chronicle) → q ≡ p → is_correct cast p ≡ true → IsAt cast w old
    → HaveRestarted (setting_of cast) w.scene q old.validators.each.items vs.each.items old.chronicle chronicle → HasActed cast w (events.Restart p) old (record old { validators = vs; chronicle = chronicle })
restarts cast w p q old vs chronicle e known at k =
    let c = setting_of cast in
    let after = after_calls cast w k.made old vs chronicle at (restarted_leads c w.scene q old.validators.each.items vs.each.items old.chronicle chronicle k) (λ client. unsent_restart c w.scene old.chronicle.event q k.made client k.restart) in record {
      made = k.made;
      happens = subst (λ r. IsRestart c w.scene old.chronicle.event r k.made) e k.restart;
      possible = record { no_cause = passed_by (is_correct cast p) NoSuchParty None known; encodable = tt };
      at = record {
        parties = after.parties;
        correct_are = after.correct_are;
        up = after.up;
        places_are = after.places_are;
        holds = after.holds;
        sent = after.sent;
        brought = λ i r. after.brought i r;
      };
      told_is = k.told;
    }

-- a store is to fail: nothing is told
pub struck : (cast : Cast) (w : Course) (p : ℕ) (failing : Failing) (old : Stage) → is_correct cast p ≡ true → IsAt cast w old → HasActed cast w (events.Fail p failing) old old
struck cast w p failing old known at = record {
  made = [];
  happens = refl;
  possible = record { no_cause = passed_by (is_correct cast p) NoSuchParty None known; encodable = tt };
  at = record { parties = at.parties; correct_are = at.correct_are; up = at.up; places_are = at.places_are; holds = at.holds; sent = at.sent; brought = at.brought };
  told_is = sym (append-nil old.chronicle.told.items);
}

pub on_ok_two : {T E : Type 0} {P Q R : Type 0} (result : Result T E) → OnOk result P → OnOk result Q → (P → Q → R) → OnOk result R
on_ok_two (Ok x) p q f = f p q
on_ok_two (Err e) p q f = tt

pub on_ok_always : {T E : Type 0} {P : Type 0} (result : Result T E) → P → OnOk result P
on_ok_always (Ok x) p = p
on_ok_always (Err e) p = tt

-- ---- a message is brought

pub delivered : (cast : Cast) (w : Course) (number p q : ℕ) (b : Body) (given : List ℕ) (old mid : Stage) (brought : Brought) → IsMet cast w q (Hands (Given given)) old mid → q ≡ p → given ≡ frame_in (setting_of cast) b → slice_get w.scene.standing.numbered number ≡ Some b
    → nat_lt number (length w.scene.standing.numbered) ≡ true → is_correct cast p ≡ true → ((i r : ℕ) → has_come brought i r ≡ (has_come mid.brought i r || ((i == number) && (r == q)))) → HasActed cast w (events.Deliver number p) old (record mid { brought = brought })
delivered cast w number p q b given old mid brought k e f at known correct noted =
    let t : IsTurn (setting_of cast) w.scene old.chronicle.event p (Hands (Given (frame_in (setting_of cast) b))) k.made = subst (λ r. IsTurn (setting_of cast) w.scene old.chronicle.event r (Hands (Given (frame_in (setting_of cast) b))) k.made) e (subst (λ x. IsTurn (setting_of cast) w.scene old.chronicle.event q (Hands (Given x)) k.made) f k.turn) in
    let asked : map (λ x. (p, Hands (Given (frame_in (setting_of cast) x)))) (option_to_list (slice_get w.scene.standing.numbered number)) ≡ asked_of (Hands (Given (frame_in (setting_of cast) b))) p ∷ [] = ap (λ o. map (λ x. (p, Hands (Given (frame_in (setting_of cast) x)))) (option_to_list o)) at in record {
      made = k.made;
      happens = subst (λ rs. AreTurns (setting_of cast) w.scene old.chronicle.event rs k.made) (sym asked) (k.made, [], sym (append-nil k.made), t, refl);
      possible = record { no_cause = passed_by _ NoSuchMessage _ known ∙ passed_by _ NoSuchParty _ correct; encodable = tt };
      at = record {
        parties = k.at.parties;
        correct_are = k.at.correct_are;
        up = k.at.up;
        places_are = k.at.places_are;
        holds = k.at.holds;
        sent = k.at.sent;
        brought = λ i r. noted i r ∙ ap₂ (λ x y. x || ((i == number) && (r == y))) (k.at.brought i r) e;
      };
      told_is = k.told_is;
    }

-- ---- a pass

pub passed : (cast : Cast) (w : Course) (old : Stage) (vs : Validators) (chronicle : Chronicle) (brought : Brought) (count : ℕ) → IsAt cast w old
    → HaveMet (setting_of cast) w.scene (passes (setting_of cast) (has_come old.brought) old.correct.items 0 w.scene.standing.numbered) old.validators.each.items vs.each.items old.chronicle chronicle
    → count ≡ length w.scene.standing.numbered → ((i p : ℕ) → has_come brought i p ≡ nat_lt i count) → HasActed cast w events.Pass old (record old { validators = vs; chronicle = chronicle; brought = brought })
passed cast w old vs chronicle brought count at k size noted =
    let same : passes (setting_of cast) (has_come old.brought) old.correct.items 0 w.scene.standing.numbered ≡ passes (setting_of cast) w.brought (correct cast) 0 w.scene.standing.numbered
    = passes_same (setting_of cast) (has_come old.brought) w.brought old.correct.items 0 w.scene.standing.numbered at.brought ∙ ap (λ ps. passes (setting_of cast) w.brought ps 0 w.scene.standing.numbered) at.correct_are in
    let after = after_calls cast w k.made old vs chronicle at k.leads (λ client. unsent_turns (setting_of cast) w.scene old.chronicle.event _ k.made client k.turn) in record {
      made = k.made;
      happens = subst (λ rs. AreTurns (setting_of cast) w.scene old.chronicle.event rs k.made) same k.turn;
      possible = record { no_cause = refl; encodable = tt };
      at = record {
        parties = at.parties;
        correct_are = at.correct_are;
        up = k.leads.up;
        places_are = after.places_are;
        holds = k.leads.holds;
        sent = after.sent;
        brought = λ i p. noted i p ∙ ap (λ n. nat_lt i n) size;
      };
      told_is = k.leads.told;
    }

-- ---- a client sends

left_push : (s : Reached) (l : List Item) (t : Item) → left_after s (l ++ t ∷ []) ≡ left_by t
left_push s [] t = refl
left_push s (x ∷ l) t = left_push (left_by x) l t

-- beginning a session changes nothing of what is sent next
pub wanted_same : (s : Standing) (client : ℕ) → (session_wanted (stands_in s client) ≡ session_wanted (left_after fresh (s.sent client))) × (number_wanted (stands_in s client) ≡ number_wanted (left_after fresh (s.sent client)))
wanted_same s client = by_case (left_after fresh (s.sent client)) (s.begun client)
  where
    by_case : (r : Reached) (b : Bool) → (session_wanted (cond (b && r.closed) (begun_after r) r) ≡ session_wanted r) × (number_wanted (cond (b && r.closed) (begun_after r) r) ≡ number_wanted r)
    by_case r false = (refl, refl)
    by_case r true = elim (cases_Bool r.closed) [ inl e ↦ rw e (refl, refl) | inr e ↦ rw e (refl, refl) ]

-- what a client that began a session stands at
begun_own : (r : Reached) (b : Bool) → (cond (b && r.closed) (begun_after r) r).closed ≡ true → cond (true && r.closed) (begun_after r) r ≡ begun_after (cond (b && r.closed) (begun_after r) r)
begun_own r false e = rw e refl
begun_own r true e = elim (cases_Bool r.closed) [
  | inl t ↦ absurd (let f : false ≡ true = subst (λ x. (cond x (begun_after r) r).closed ≡ true) t e in cc)
  | inr n ↦ absurd (let f : r.closed ≡ true = subst (λ x. (cond x (begun_after r) r).closed ≡ true) n e in let g : true ≡ false = sym f ∙ n in cc)
]

-- one client stands elsewhere after a call, and the others where they did
moved_one : (c : Setting) (clients client : ℕ) (s : Standing) (call : Call) (each : List Reached) (last : Reached) → HaveSent clients (stands_in s) each → client < clients → stands_in (next c s call) client ≡ last
    → ((i : ℕ) → i ≢ client → stands_in (next c s call) i ≡ stands_in s i) → HaveSent clients (stands_in (next c s call)) (set each client last)
moved_one c clients client s call each last h known own others = (
  length-set each client last ∙ h.0,
  λ i l. elim (cases_eq i client) [
    | inl e ↦ subst (λ x. slice_get (set each client last) x ≡ Some (stands_in (next c s call) x)) (sym e) (get_set_same each client last (omega (arith, known, h.0)) ∙ ap Some (sym own))
    | inr n ↦ get_set_other each client i last n ∙ h.1 i l ∙ ap Some (sym (others i n))
  ],
)

pub sends : (cast : Cast) (w : Course) (client : ℕ) (op : Op) (old : Stage) (chronicle : Chronicle) (clients : Clients) → IsAt cast w old → is_client cast client ≡ true → client < cast.clients → is_shut w.scene.standing client ≡ false → IsMessage (tagged (setting_of cast) (said_as (next_item client op (w.scene.standing.sent client))))
    → Says (setting_of cast) w.scene.standing.numbered None (said_as (next_item client op (w.scene.standing.sent client)) ∷ []) old.chronicle chronicle → clients.each.items ≡ set old.clients.each.items client (left_by (next_item client op (w.scene.standing.sent client)))
    → HasActed cast w (events.Send client op) old (record old { chronicle = chronicle; clients = clients })
sends cast w client op old chronicle clients at known within unshut fits says counted =
    let m : Made = record { event = old.chronicle.event; call = Sent client op; answer = (0, 0); health = Serving } in
    let s : Scene = w.scene in
    let c : Setting = setting_of cast in
    let own : stands_in (next c s.standing (Sent client op)) client ≡ left_by (next_item client op (s.standing.sent client)) = rw (eq-eqb client client refl) (left_push fresh (s.standing.sent client) (next_item client op (s.standing.sent client))) in record {
      made = m ∷ [];
      happens = refl;
      possible = record { no_cause = passed_by _ NoSuchParty _ known ∙ passed_by _ ClientClosed None (ap not unshut); encodable = fits };
      at = record {
        parties = at.parties;
        correct_are = at.correct_are;
        up = λ i seat here. seat_later c s m i seat refl (at.up i seat here);
        places_are = at.places_are;
        holds = says.holds;
        sent = subst (HaveSent cast.clients (stands_in (next c s.standing (Sent client op)))) (sym counted) (moved_one c cast.clients client s.standing (Sent client op) old.clients.each.items (left_by (next_item client op (s.standing.sent client))) at.sent within own (λ i n. rw (ne_eqb i client n) refl));
        brought = at.brought;
      };
      told_is = says.tells.told ∙ ap (λ l. old.chronicle.told.items ++ l) (sym (append-nil (noted m (told_of_call c s.standing m))));
    }

-- ---- a client begins a session

pub begins : (cast : Cast) (w : Course) (client : ℕ) (old : Stage) (clients : Clients) → IsAt cast w old → is_client cast client ≡ true → client < cast.clients → is_shut w.scene.standing client ≡ true → (begun_after (stands_in w.scene.standing client)).session < 2 ^ 32
    → clients.each.items ≡ set old.clients.each.items client (begun_after (stands_in w.scene.standing client)) → HasActed cast w (events.Open client) old (record old { clients = clients })
begins cast w client old clients at known within shut session counted =
    let m : Made = record { event = old.chronicle.event; call = Began client; answer = (0, 0); health = Serving } in
    let s : Scene = w.scene in
    let c : Setting = setting_of cast in
    let own : stands_in (next c s.standing (Began client)) client ≡ begun_after (stands_in s.standing client) = rw (eq-eqb client client refl) (begun_own (left_after fresh (s.standing.sent client)) (s.standing.begun client) shut) in record {
      made = m ∷ [];
      happens = refl;
      possible = record { no_cause = passed_by _ NoSuchParty _ known ∙ passed_by _ NotClosed None shut; encodable = session };
      at = record {
        parties = at.parties;
        correct_are = at.correct_are;
        up = λ i seat here. seat_later c s m i seat refl (at.up i seat here);
        places_are = at.places_are;
        holds = subst (λ l. Holds c l old.chronicle.messages) (sym (append-nil s.standing.numbered)) at.holds;
        sent = subst (HaveSent cast.clients (stands_in (next c s.standing (Began client)))) (sym counted) (moved_one c cast.clients client s.standing (Began client) old.clients.each.items (begun_after (stands_in s.standing client)) at.sent within own (λ i n. rw (ne_eqb i client n) refl));
        brought = at.brought;
      };
      told_is = sym (append-nil old.chronicle.told.items);
    }

-- What comes in the run that a report of a schedule tells of is unforged, where the schedule speaks for nobody.
use Rattle.std.proofs.Common.{◌≡◌, ℕ, zero, suc, inl, inr, true, false, List, [], ◌∷◌, ◌++◌, map, length, refl, sym, subst, Some}
use Rattle.std.specs.Prelude.{slice_get, not, slice_index_or}
use Rattle.std.proofs.lemmas.Bool.{and_parts, ltb-true}
use Rattle.protocol.specs.Tags.{Setting}
use Rattle.protocol.specs.Messages.{◌∈◌, below}
use Rattle.protocol.specs.World.{beginning}
use Rattle.protocol.specs.History.{Settle}
use Rattle.protocol.specs.Premises.{Honesty}
use Rattle.protocol.proofs.Membership.{in_map, map_in, in_below}
use Rattle.world_parties.specs.Cast.{Cast, setting_of, is_correct, is_validator, correct}
use Rattle.world_schedule.specs.Reports.{Made}
use Rattle.world_schedule.specs.Making.{Request, Hands, Scene, beginning as at_first}
use Rattle.world_schedule.specs.Events.{asked_of}
use Rattle.world_schedule.specs.Validators.{AreUp, IsSeated, is_correct_seat, places}
use Rattle.world_schedule.specs.declared.seat.Seat.{Seat}
use Rattle.world_schedule.specs.declared.seat.Seat.TheVariants as seats
use Rattle.fair_worlds.specs.Laws.{honesty}
use Rattle.fair_worlds.proofs.Fair.{report_law}
use Rattle.unforged_worlds.specs.Laws.{nothing_sent, UnforgedLaw, ScheduleLaw}
use Rattle.unforged_worlds.proofs.Worlds.{beginning_clean}
use Rattle.unforged_worlds.proofs.Leading.{IsAnyCall, SendsNothing, Fits, leads_both, leads_any, leads_sent, leads_unforged}
use Rattle.unforged_worlds.proofs.Turns.{LeadOn, RequestTheirs, RequestsTheirs, of_turns}
use Rattle.unforged_worlds.proofs.Events.{AreFew}
use Rattle.unforged_worlds.proofs.Schedules.{of_events}

-- ---- how many validators there are

placed : {X : Type 0} (x : X) (xs : List X) → x ∈ xs → (i : ℕ) × (slice_get xs i ≡ Some x)
placed x [] k = absurd k
placed x (y ∷ ys) (inl e) = (zero, λ j. Some (sym e j))
placed x (y ∷ ys) (inr k) = let f = placed x ys k in (suc f.0, f.1)

seat_few : (cast : Cast) (s : Scene) (i : ℕ) (seat : Seat) → IsSeated (setting_of cast) s i seat → is_correct_seat seat ≡ true → AreFew cast
seat_few cast s i seats.Liar k e = absurd (let f : false ≡ true = e in cc)
seat_few cast s i (seats.Up v) k e = (k.1.number.some, k.1.number.few)
seat_few cast s i (seats.Closed v) k e = (k.1.stopped.number.some, k.1.stopped.number.few)

-- as the place of a correct validator tells
known_few : (cast : Cast) (s : Scene) (vs : List Seat) → AreUp (setting_of cast) s vs → places vs ≡ map (is_correct cast) (below (length cast.powers)) → (p : ℕ) → is_correct cast p ≡ true → AreFew cast
known_few cast s vs up e p ok =
    let within = ltb-true p (length cast.powers) (and_parts (is_validator cast p) (not (slice_index_or cast.lies p false)) ok).0 in
    let there : is_correct cast p ∈ map (is_correct cast) (below (length cast.powers)) = map_in (is_correct cast) p (below (length cast.powers)) (in_below p (length cast.powers) within) in
    let seat = in_map is_correct_seat true vs (subst (λ l. true ∈ l) (sym e) (subst (λ b. b ∈ map (is_correct cast) (below (length cast.powers))) ok there)) in
    let at = placed seat.0 vs seat.1 in
    seat_few cast s at.0 seat.0 (up at.0 seat.0 at.1) seat.2

-- ---- the first run

module _ (c : Setting) (h : Honesty) where
  first_fits : Fits c h at_first (beginning c)
  first_fits = record { nodes = refl; sent = λ client. refl; clean = beginning_clean c h; numbered = λ b i. absurd i; doubts = λ p. tt }

  settle_asked : (ps : List ℕ) → RequestsTheirs c h (beginning c) (map (asked_of (Hands Settle)) ps)
  settle_asked ps r i = let f = in_map (asked_of (Hands Settle)) r ps i in subst (λ (q : ℕ × Request). RequestTheirs c h (beginning c) q.1) f.2 tt

pub unforged_law : UnforgedLaw
unforged_law powers count liars events report k correct_clients s =
    let cast = k.opened.cast in
    let c = setting_of cast in
    let h = honesty cast correct_clients in
    let first : List Made = k.opened.begun.made in
    let few : (p : ℕ) → is_correct cast p ≡ true → AreFew cast = known_few cast _ _ k.opened.begun.is_world.0.0.up k.opened.begun.is_world.0.0.places_are in
    let opening : LeadOn c h at_first (beginning c) first = of_turns c h at_first (beginning c) (first_fits c h) 0 (map (asked_of (Hands Settle)) (correct cast)) (settle_asked c h (correct cast)) first k.opened.begun.settled in
    leads_unforged c h IsAnyCall at_first (beginning c) (first ++ k.reported.tells.more)
    (leads_both c h IsAnyCall at_first (beginning c) first k.reported.tells.more (leads_any c h SendsNothing at_first (beginning c) first opening)
    (λ v l f. of_events cast correct_clients few _ v f nothing_sent (leads_sent c h at_first (beginning c) first opening) 0 events s k.reported.tells.more _ k.reported.tells.happened))

pub schedule_law : ScheduleLaw
schedule_law powers count liars events report k correct_clients s few_lie distinct one other i j =
    report_law powers count liars events report k correct_clients (record { few = few_lie; unforged = unforged_law powers count liars events report k correct_clients s; distinct = distinct }) one other i j

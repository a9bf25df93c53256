-- A validator's turn leaves the others as they are.
use Rattle.std.proofs.Common.{◌≡◌, ◌≢◌, ℕ, zero, suc, ◌<◌, inl, inr, true, false, Option, Some, None, List, [], ◌∷◌, ◌++◌, length, set, append-nil, refl, sym, ap, ◌∙◌, subst, ne_eqb, arith}
use Rattle.std.specs.Prelude.{slice_get}
use Rattle.std.proofs.Math.ListN.{length-set}
use Rattle.std.proofs.lemmas.Bool.{cases_eq}
use Rattle.protocol.specs.Tags.{Setting}
use Rattle.protocol.specs.Messages.{◌∈◌}
use Rattle.protocol.specs.State.{Node}
use Rattle.protocol.specs.World.{Cut}
use Rattle.protocol.specs.Calls.{Halted, call_number}
use Rattle.world_schedule.specs.Health.{Health, Closed}
use Rattle.world_schedule.specs.Calls.{Call}
use Rattle.world_schedule.specs.Reports.{Made, validator_of, is_by, noted, told_of_call}
use Rattle.world_schedule.specs.Making.{Request, Scene, IsIdle, IsMet, scene_next, scene_after}
use Rattle.world_schedule.specs.Standings.{Holds, Tells}
use Rattle.world_schedule.specs.Validators.{request_of, IsStopped, Sits, IsSeated, AreUp, is_correct_seat, HasTurned, HaveTurned, places}
use Rattle.world_schedule.specs.declared.validator.Request.{Request as Asked}
use Rattle.world_schedule.specs.declared.validator.Request.TheVariants as asked
use Rattle.world_schedule.specs.declared.report.What.TheVariants.{Answered}
use Rattle.world_schedule.specs.Restarting.{HasLeft, HasRestarted, HaveRestarted}
use Rattle.world_schedule.specs.declared.restarting.Stopped.{Stopped}
use Rattle.world_schedule.specs.declared.seat.Seat.{Seat}
use Rattle.world_schedule.specs.declared.seat.Seat.TheVariants as seats
use Rattle.world_schedule.specs.declared.chronicle.Chronicle.{Chronicle}
use Rattle.world_schedule.proofs.Called.{idle, told_idly, holds_idly, node_idly, health_idly, owing_idly}
use Rattle.world_schedule.proofs.Staying.{seated, sits_at, sits_correct, seat_elsewhere}
use Rattle.world_schedule.proofs.Reopening.{has_stopped}

-- calls of another
other_seat : (c : Setting) (s : Scene) (made : List Made) (p j : ℕ) (seat : Seat) → ((m : Made) → m ∈ made → validator_of m.call ≡ Some p) → j ≢ p → IsSeated c s j seat → IsSeated c (scene_after c s made) j seat
other_seat c s [] p j seat by n was = was
other_seat c s (m ∷ ms) p j seat by n was =
    other_seat c (scene_next c s m) ms p j seat (λ x i. by x (inr i)) n (seat_elsewhere c s m j seat (ap (is_by j) (by m (inl refl)) ∙ ne_eqb j p n) was)

-- a client sends
pub seat_later : (c : Setting) (s : Scene) (m : Made) (i : ℕ) (seat : Seat) → validator_of m.call ≡ None → IsSeated c s i seat → IsSeated c (scene_next c s m) i seat
seat_later c s m i seat by was = seat_elsewhere c s m i seat (ap (is_by i) by) was

-- ---- one place of a list

pub get_set_same : {X : Type 0} (xs : List X) (i : ℕ) (x : X) → i < length xs → slice_get (set xs i x) i ≡ Some x
get_set_same [] i x l = absurd (omega arith)
get_set_same (y ∷ ys) zero x l = refl
get_set_same (y ∷ ys) (suc i) x l = get_set_same ys i x (omega arith)

pub get_set_other : {X : Type 0} (xs : List X) (i j : ℕ) (x : X) → j ≢ i → slice_get (set xs i x) j ≡ slice_get xs j
get_set_other [] i j x n = refl
get_set_other (y ∷ ys) zero zero x n = absurd (n refl)
get_set_other (y ∷ ys) zero (suc j) x n = refl
get_set_other (y ∷ ys) (suc i) zero x n = refl
get_set_other (y ∷ ys) (suc i) (suc j) x n = get_set_other ys i j x (λ e. n (ap suc e))

-- one of a correct validator in place of one
same_places : (validators : List Seat) (i : ℕ) (old new : Seat) → slice_get validators i ≡ Some old → is_correct_seat old ≡ true → is_correct_seat new ≡ true → places (set validators i new) ≡ places validators
same_places [] i old new at e f = refl
same_places (v ∷ vs) zero old new at e f = let same : v ≡ old = cc in ap (λ b. b ∷ places vs) (f ∙ sym e ∙ ap is_correct_seat (sym same))
same_places (v ∷ vs) (suc i) old new at e f = ap (λ l. is_correct_seat v ∷ l) (same_places vs i old new at e f)

-- one validator of all moved on by its own calls
moved_on : (c : Setting) (s : Scene) (i : ℕ) (made : List Made) (validators : List Seat) (new : Seat) → AreUp c s validators → i < length validators → ((m : Made) → m ∈ made → validator_of m.call ≡ Some i) → Sits c (scene_after c s made) i new
    → AreUp c (scene_after c s made) (set validators i new)
moved_on c s i made validators new up within by sits j seat here = elim (cases_eq j i) [
  | inl e ↦ (
      let placed : slice_get (set validators i new) i ≡ Some seat = subst (λ x. slice_get (set validators i new) x ≡ Some seat) e here in
      let same : Some new ≡ Some seat = sym (get_set_same validators i new within) ∙ placed in
      let is : new ≡ seat = cc in
      subst (λ x. IsSeated c (scene_after c s made) x seat) (sym e) (subst (IsSeated c (scene_after c s made) i) is (seated c (scene_after c s made) i new sits)))
  | inr n ↦ (
      let before_it : slice_get validators j ≡ Some seat = sym (get_set_other validators i j new n) ∙ here in
      other_seat c s made i j seat by n (up j seat before_it))
]

pub turned : (c : Setting) (s : Scene) (i : ℕ) (request : Request) (validators : List Seat) (old new : Seat) (before after : Chronicle) → AreUp c s validators → slice_get validators i ≡ Some old → is_correct_seat old ≡ true → i < length validators
    → HasTurned c s request i new before after → HaveTurned c s i request validators (set validators i new) before after
turned c s i request validators old new before after up at e within k = record {
  made = k.0;
  turn = k.1;
  up = moved_on c s i k.0 validators new up within k.2.by k.2.up;
  holds = k.2.holds;
  told = k.2.told;
  event = k.2.event;
  count = length-set validators i new;
  places_are = same_places validators i old new at e (sits_correct c (scene_after c s k.0) i new k.2.up);
}

-- ---- a validator that has no node

idle_met : (p : ℕ) (c : Setting) (n : Node) (cut : Option Cut) (request : Asked) (call : Call) (new : Health) → IsIdle p (Closed cut) (call_number Halted) call new → IsMet c p n (Closed cut) (request_of request) (call_number Halted) call new
idle_met p c n cut asked.Settle call new k = k
idle_met p c n cut (asked.Take frame) call new k = k
idle_met p c n cut (asked.Expire timeout) call new k = k
idle_met p c n cut asked.Ask call new k = k
idle_met p c n cut asked.Resend call new k = k

-- it answers that it has halted
pub turned_idly : (c : Setting) (s : Scene) (p : ℕ) (request : Asked) (stopped : Stopped) (before after : Chronicle) → Sits c s p (seats.Closed stopped) → Holds c s.standing.numbered before.messages
    → Tells (Some p) (Answered (record { number = 15; inner = 0 }) ∷ []) before after → after.messages ≡ before.messages → HasTurned c s (request_of request) p (seats.Closed stopped) before after
turned_idly c s p request stopped before after sits holds tells same =
    let k = sits.1 in
    let own : stopped.number ≡ p = sits.0 in
    let health : s.health p ≡ Closed k.cut = subst (λ i. s.health i ≡ Closed k.cut) own k.health in
    let owes : s.owing p ≡ false = subst (λ i. s.owing i ≡ false) own k.owes in
    let made : Made = idle c s p (call_number Halted) (Closed k.cut) before after tells same holds in
    let next : Scene = scene_next c s made in
    let met : IsMet c p (s.standing.nodes p) (s.health p) (request_of request) (call_number Halted) made.call (Closed k.cut) =
    subst (λ h. IsMet c p (s.standing.nodes p) h (request_of request) (call_number Halted) made.call (Closed k.cut)) (sym health) (idle_met p c (s.standing.nodes p) k.cut request made.call (Closed k.cut) (record { numbers_are = refl; call_is = refl; stays = refl })) in (
      made ∷ [],
      inl (owes, (record { event = refl; by = refl; met = met; spelled = λ b i. absurd i }, refl)),
      record {
        by = λ m i. elim i [ inl e ↦ ap (λ (x : Made). validator_of x.call) e | inr none ↦ absurd none ];
        up = sits_at c s next p (seats.Closed stopped) (node_idly c s p (call_number Halted) (Closed k.cut) before after tells same holds p refl) (health_idly c s p (call_number Halted) (Closed k.cut) before after tells same holds p refl ∙ sym health)
            (owing_idly c s p (call_number Halted) (Closed k.cut) before after tells same holds p refl ∙ sym owes) sits;
        holds = holds_idly c s p (call_number Halted) (Closed k.cut) before after tells same holds;
        told = told_idly c s p (call_number Halted) (Closed k.cut) before after tells same holds ∙ ap (λ l. before.told.items ++ l) (sym (append-nil (noted made (told_of_call c s.standing made))));
        event = tells.event;
      },
    )

set_twice : {X : Type 0} (xs : List X) (i : ℕ) (x y : X) → set (set xs i x) i y ≡ set xs i y
set_twice [] i x y = refl
set_twice (z ∷ zs) zero x y = refl
set_twice (z ∷ zs) (suc i) x y = ap (λ l. z ∷ l) (set_twice zs i x y)

-- a validator that was taken from its place and set there again
restarted : (c : Setting) (s : Scene) (i : ℕ) (validators : List Seat) (between old new : Seat) (before after : Chronicle) → AreUp c s validators → slice_get validators i ≡ Some old → is_correct_seat old ≡ true → i < length validators
    → HasRestarted c s i new before after → HaveRestarted c s i validators (set (set validators i between) i new) before after
restarted c s i validators between old new before after up at e within k =
    let same : set validators i new ≡ set (set validators i between) i new = sym (set_twice validators i between new) in record {
      made = k.0;
      restart = k.1;
      up = subst (AreUp c (scene_after c s k.0)) same (moved_on c s i k.0 validators new up within k.2.by k.2.up);
      holds = k.2.holds;
      told = k.2.told;
      event = k.2.event;
      places_are = ap places (sym same) ∙ same_places validators i old new at e (sits_correct c (scene_after c s k.0) i new k.2.up);
    }

-- what stood there has ended
pub has_left : (c : Setting) (s : Scene) (i : ℕ) (seat : Seat) (stopped : Stopped) → IsSeated c s i seat → HasLeft c.powers seat stopped → IsStopped c s stopped × (stopped.number ≡ i) × (is_correct_seat seat ≡ true)
has_left c s i seats.Liar stopped k left = absurd left
has_left c s i (seats.Up v) stopped k left = (has_stopped c s v stopped k.1 left, left.number ∙ k.0, refl)
has_left c s i (seats.Closed v) stopped k left = (subst (IsStopped c s) (sym left) k.1.stopped, ap (λ (x : Stopped). x.number) left ∙ k.0, refl)

-- whatever stood there, where all are up
pub came_back : (c : Setting) (s : Scene) (i : ℕ) (validators : List Seat) (between old : Seat) (stopped : Stopped) (new : Seat) (before after : Chronicle) → AreUp c s validators → slice_get validators i ≡ Some old → i < length validators → HasLeft c.powers old stopped
    → (IsStopped c s stopped → HasRestarted c s stopped.number new before after) → HaveRestarted c s i validators (set (set validators i between) i new) before after
came_back c s i validators between old stopped new before after up at within left back =
    let k = has_left c s i old stopped (up i old at) left in
    restarted c s i validators between old new before after up at k.2 within (subst (λ p. HasRestarted c s p new before after) k.1 (back k.0))

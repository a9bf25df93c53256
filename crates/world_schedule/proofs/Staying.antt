-- What stands at the number of a validator stands there at each scene where that validator's node is the same.
use Rattle.std.proofs.Common.{◌≡◌, ℕ, true, false, cond, length, refl, sym, ap, ◌∙◌, subst, subst₂}
use Rattle.protocol.specs.Tags.{Setting}
use Rattle.protocol.specs.State.{Node}
use Rattle.protocol.specs.Effects.{bundles_in}
use Rattle.node_core.specs.Calls.{IsLeftBy}
use Rattle.world_schedule.specs.Health.{doubt, HasHealth}
use Rattle.world_schedule.specs.Cores.{AreOwn, StandsIn}
use Rattle.world_schedule.specs.Reports.{Made, validator_of, is_by}
use Rattle.world_schedule.specs.Making.{Scene, scene_next, is_refused_memory}
use Rattle.world_schedule.specs.Validators.{IsUp, IsStopped, IsClosed, Sits, IsSeated, is_correct_seat}
use Rattle.world_schedule.specs.declared.validator.Validator.{Validator}
use Rattle.world_schedule.specs.declared.restarting.Stopped.{Stopped}
use Rattle.world_schedule.specs.declared.seat.Seat.{Seat}
use Rattle.world_schedule.specs.declared.seat.Seat.TheVariants as seats
use Rattle.world_schedule.proofs.Reports.{stays}

up_at : (c : Setting) (s t : Scene) (v : Validator) → t.standing.nodes v.number ≡ s.standing.nodes v.number → t.health v.number ≡ s.health v.number → t.owing v.number ≡ s.owing v.number → IsUp c s v → IsUp c t v
up_at c s t v e f g up = record {
  number = up.number;
  stands = subst (λ (n : Node). StandsIn c v.number n v.core) (sym e) up.stands;
  health = subst₂ (λ n h. HasHealth c v.number n h v.core.journal) (sym e) (sym f) up.health;
  released = up.released;
  told = up.told;
  owes = up.owes ∙ sym g;
}

pub stopped_at : (c : Setting) (s t : Scene) (v : Stopped) → t.standing.nodes v.number ≡ s.standing.nodes v.number → doubt (t.health v.number) ≡ doubt (s.health v.number) → IsStopped c s v → IsStopped c t v
stopped_at c s t v e f k = record {
  number = k.number;
  left = subst₂ (λ n cut. IsLeftBy c v.number n cut v.store.store.bytes.items) (sym e) (sym f) k.left;
  own = subst (λ (n : Node). AreOwn v.number n.journal) (sym e) k.own;
  told = k.told ∙ ap (λ (n : Node). length (bundles_in n.journal)) (sym e);
  height = k.height ∙ ap (λ (n : Node). n.state.height) (sym e);
  round = k.round ∙ ap (λ (n : Node). n.state.round) (sym e);
  delivered = k.delivered ∙ ap (λ (n : Node). n.state.delivered) (sym e);
}

closed_at : (c : Setting) (s t : Scene) (v : Stopped) → t.standing.nodes v.number ≡ s.standing.nodes v.number → t.health v.number ≡ s.health v.number → t.owing v.number ≡ s.owing v.number → IsClosed c s v → IsClosed c t v
closed_at c s t v e f g k = record { stopped = stopped_at c s t v e (ap doubt f) k.stopped; cut = k.cut; health = f ∙ k.health; owes = g ∙ k.owes }

pub sits_at : (c : Setting) (s t : Scene) (i : ℕ) (seat : Seat) → t.standing.nodes i ≡ s.standing.nodes i → t.health i ≡ s.health i → t.owing i ≡ s.owing i → Sits c s i seat → Sits c t i seat
sits_at c s t i seats.Liar e f g k = k
sits_at c s t i (seats.Up v) e f g k =
    let own : i ≡ v.number = sym k.0 in
    (k.0, up_at c s t v (subst (λ j. t.standing.nodes j ≡ s.standing.nodes j) own e) (subst (λ j. t.health j ≡ s.health j) own f) (subst (λ j. t.owing j ≡ s.owing j) own g) k.1)
sits_at c s t i (seats.Closed v) e f g k =
    let own : i ≡ v.number = sym k.0 in
    (k.0, closed_at c s t v (subst (λ j. t.standing.nodes j ≡ s.standing.nodes j) own e) (subst (λ j. t.health j ≡ s.health j) own f) (subst (λ j. t.owing j ≡ s.owing j) own g) k.1)

pub seated : (c : Setting) (s : Scene) (i : ℕ) (seat : Seat) → Sits c s i seat → IsSeated c s i seat
seated c s i seats.Liar k = tt
seated c s i (seats.Up v) k = k
seated c s i (seats.Closed v) k = k

pub sits_correct : (c : Setting) (s : Scene) (i : ℕ) (seat : Seat) → Sits c s i seat → is_correct_seat seat ≡ true
sits_correct c s i seats.Liar k = absurd k
sits_correct c s i (seats.Up v) k = refl
sits_correct c s i (seats.Closed v) k = refl

-- a call of another
pub seat_elsewhere : (c : Setting) (s : Scene) (m : Made) (i : ℕ) (seat : Seat) → is_by i (validator_of m.call) ≡ false → IsSeated c s i seat → IsSeated c (scene_next c s m) i seat
seat_elsewhere c s m i seats.Liar e k = tt
seat_elsewhere c s m i (seats.Up v) e k = sits_at c s (scene_next c s m) i (seats.Up v) (stays c i (s.standing.nodes i) m.call e) (ap (λ b. cond b m.health (s.health i)) e) (ap (λ b. cond b (is_refused_memory m.answer) (s.owing i)) e) k
seat_elsewhere c s m i (seats.Closed v) e k = sits_at c s (scene_next c s m) i (seats.Closed v) (stays c i (s.standing.nodes i) m.call e) (ap (λ b. cond b m.health (s.health i)) e) (ap (λ b. cond b (is_refused_memory m.answer) (s.owing i)) e) k

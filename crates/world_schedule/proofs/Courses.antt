-- Events, one after the other.
use Rattle.std.proofs.Common.{◌≡◌, ℕ, suc, ◌+◌, ◌<◌, List, [], ◌∷◌, ◌++◌, length, take, get_or, refl, sym, ap, ap₂, ◌∙◌, subst, append_assoc, append-nil, arith}
use Rattle.std.proofs.lemmas.List.{take_more}
use Rattle.world_parties.specs.Cast.{Cast, setting_of}
use Rattle.world_schedule.specs.Reports.{Made, told}
use Rattle.world_schedule.specs.Making.{Scene, scene_after}
use Rattle.world_schedule.specs.Events.{Course, Happens, HaveHappened, course_after, CanHappen}
use Rattle.world_schedule.specs.Worlds.{Rests, HasHappened, HaveAll}
use Rattle.world_schedule.specs.declared.event.Event.{Event}
use Rattle.world_schedule.specs.declared.stage.Stage.{Stage}
use Rattle.world_schedule.specs.declared.world.World.{World}
use Rattle.world_schedule.proofs.Turning.{scene_append, told_append}
use Rattle.world_schedule.proofs.InTurn.{length_take}

-- one event more
pub happened_more : (cast : Cast) (w : Course) (k : ℕ) (es : List Event) (made : List Made) (mid : Course) (event : Event) (first : List Made) → HaveHappened cast w k es made mid → CanHappen cast mid.scene.standing event
    → Happens cast mid (suc (k + length es)) event first → HaveHappened cast w k (es ++ event ∷ []) (made ++ first) (course_after cast mid event first)
happened_more cast w k [] made mid event first h possible happens =
    let at : suc (k + 0) ≡ suc k = omega arith in (
      first,
      [],
      ap (λ l. l ++ first) h.0 ∙ sym (append-nil first),
      subst (λ (x : Course). CanHappen cast x.scene.standing event) h.1 possible,
      subst (λ x. Happens cast x (suc k) event first) h.1 (subst (λ n. Happens cast mid n event first) at happens),
      (refl, ap (λ x. course_after cast x event first) h.1),
    )
happened_more cast w k (e ∷ es) made mid event first h possible happens =
    let at : suc (k + suc (length es)) ≡ suc (suc k + length es) = omega arith in (
      h.0,
      h.1 ++ first,
      ap (λ l. l ++ first) h.2 ∙ append_assoc h.0 h.1 first,
      h.3,
      h.4,
      happened_more cast (course_after cast w e h.0) (suc k) es h.1 mid event first h.5 possible (subst (λ n. Happens cast mid n event first) at happens),
    )

-- none happened yet
pub have_none : (cast : Cast) (w : Course) (k : ℕ) (world : World) → Rests cast w world.stage → HaveAll cast w k [] world world
have_none cast w k world at = record { made = []; last = w; happened = (refl, refl); leads = refl; at = at; told_is = sym (append-nil world.told.items) }

-- the number of the present event is no part of how a stage stands
pub at_event : (cast : Cast) (w : Course) (stage : Stage) (event : ℕ) → Rests cast w stage → Rests cast w (record stage { chronicle = record stage.chronicle { event = event } })
at_event cast w stage event r = (
  record { parties = r.0.parties; correct_are = r.0.correct_are; up = r.0.up; places_are = r.0.places_are; holds = r.0.holds; sent = r.0.sent; brought = r.0.brought },
  r.1,
)

pub have_more : (cast : Cast) (w : Course) (es : List Event) (i : ℕ) (event : Event) (old mid begun new : World) → i < length es → event ≡ get_or es i event → (k : HaveAll cast w 0 (take i es) old mid)
    → begun.told ≡ mid.told → HasHappened cast k.last (i + 1) event begun new → HaveAll cast w 0 (take (i + 1) es) old new
have_more cast w es i event old mid begun new l e k same h =
    let c = setting_of cast in
    let size : i + 1 ≡ suc (0 + length (take i es)) = let t = length_take i es (omega (arith, l)) in omega (arith, t) in
    let whole : take (i + 1) es ≡ take i es ++ event ∷ [] = take_more es i event l ∙ ap (λ x. take i es ++ x ∷ []) (sym e) in record {
      made = k.made ++ h.made;
      last = course_after cast k.last event h.made;
      happened = subst (λ xs. HaveHappened cast w 0 xs (k.made ++ h.made) (course_after cast k.last event h.made)) (sym whole) (happened_more cast w 0 (take i es) k.made k.last event h.made k.happened h.possible (subst (λ n. Happens cast k.last n event h.made) size h.happens));
      leads = ap (λ s. scene_after c s h.made) k.leads ∙ sym (scene_append c w.scene k.made h.made);
      at = h.at;
      told_is = h.told_is ∙ ap₂ (λ x s. x ++ told c s h.made) (ap (λ v. v.items) same ∙ k.told_is) (ap (λ (s : Scene). s.standing) k.leads) ∙ append_assoc old.told.items (told c w.scene.standing k.made) _ ∙ ap (λ x. old.told.items ++ x) (sym (told_append c w.scene k.made h.made));
    }

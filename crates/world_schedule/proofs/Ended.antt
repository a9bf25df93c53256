-- How a run ends.
use Rattle.std.proofs.Common.{◌≡◌, ℕ, suc, ◌+◌, ◌≤◌, Bool, false, Result, Ok, Err, List, [], ◌++◌, inl, inr, flat_map, take, length, sym, ap, subst, ◌∙◌, arith}
use Rattle.std.specs.Prelude.{IfOk, IfErr}
use Rattle.std.proofs.lemmas.List.{take_all}
use Rattle.world_parties.specs.Cast.{Cast, setting_of}
use Rattle.world_parties.specs.declared.fault.FaultNumber.{FaultNumber}
use Rattle.world_parties.specs.declared.fault.FaultNumber.TheVariants.{OutOfMemory}
use Rattle.world_schedule.specs.Reports.{Made, told}
use Rattle.world_schedule.specs.Making.{Scene, beginning}
use Rattle.world_schedule.specs.Events.{Course, HaveHappened, CannotHappen}
use Rattle.world_schedule.specs.Worlds.{Rests, scene_of, ends_in, HaveAll, HaveSome, IsReport, IsStop}
use Rattle.world_schedule.specs.declared.event.Event.{Event}
use Rattle.world_schedule.specs.declared.fault.RunFault.{RunFault}
use Rattle.world_schedule.specs.declared.report.Report.{Report}
use Rattle.world_schedule.specs.declared.world.World.{World}
use Rattle.world_schedule.proofs.Turning.{scene_append}
use Rattle.world_schedule.proofs.Places.{ends_are}

pub if_ok : {T E : Type 0} (P Q : T → Type 0) (result : Result T E) → IfOk result P → ((x : T) → P x → Q x) → IfOk result Q
if_ok P Q (Ok x) p f = f x p
if_ok P Q (Err e) p f = tt

pub if_err : {T E : Type 0} (P Q : E → Type 0) (result : Result T E) → IfErr result P → ((e : E) → P e → Q e) → IfErr result Q
if_err P Q (Ok x) p f = tt
if_err P Q (Err e) p f = f e p

-- how the world stood before the run
abbrev pub course_of : Cast → List Made → (ℕ → ℕ → Bool) → Course
course_of cast ms brought = record { scene = scene_of cast ms; brought = brought }

-- the course after more calls is that of all the calls
lasts : (cast : Cast) (ms : List Made) (last : Course) → last.scene ≡ scene_of cast ms → last ≡ course_of cast ms last.brought
lasts cast ms last e = ap (λ (s : Scene). let x : Course = record { scene = s; brought = last.brought } in x) e

-- all events happened
pub reported : (cast : Cast) (ms : List Made) (brought : ℕ → ℕ → Bool) (events : List Event) (old begun mid new : World) (report : Report) → HaveAll cast (course_of cast ms brought) 0 events begun mid → begun.told ≡ old.told → mid.spent ≡ false
    → new ≡ record mid { told = new.told; event = new.event } → new.told.items ≡ [] → report.told ≡ mid.told.items → report.ends ≡ flat_map ends_in mid.stage.validators.each.items → IsReport cast ms brought events old new report
reported cast ms brought events old begun mid new report k same unspent rest untold tells ends =
    let c = setting_of cast in
    let all : List Made = ms ++ k.made in
    let last_is : k.last ≡ course_of cast all k.last.brought = lasts cast all k.last (k.leads ∙ sym (scene_append c beginning ms k.made)) in
    let at : Rests cast (course_of cast all k.last.brought) mid.stage = subst (λ x. Rests cast x mid.stage) last_is k.at in record {
      tells = record {
        more = k.made;
        last = k.last.brought;
        happened = subst (λ x. HaveHappened cast (course_of cast ms brought) 0 events k.made x) last_is k.happened;
        told_is = tells ∙ k.told_is ∙ ap (λ v. v.items ++ told c (scene_of cast ms).standing k.made) same;
        ends_are = ends ∙ ends_are cast all mid.stage.validators.each.items at.0.up at.0.places_are;
      };
      is_world = (subst (Rests cast (course_of cast all k.last.brought)) (sym (ap (λ (x : World). x.stage) rest)) at, ap (λ (x : World). x.spent) rest ∙ unspent);
      untold = untold;
    }

-- all events happened, and memory was refused to the report
pub unreported : (cast : Cast) (ms : List Made) (brought : ℕ → ℕ → Bool) (events : List Event) (old begun mid new : World) (fault : RunFault) → HaveAll cast (course_of cast ms brought) 0 events begun mid → begun.told ≡ old.told → mid.event ≡ length events → mid.spent ≡ false
    → fault ≡ record { event = mid.event + 1; number = OutOfMemory; told = mid.told.items } → new ≡ record mid { told = new.told; event = new.event } → new.told.items ≡ [] → IsStop cast ms brought events old new fault
unreported cast ms brought events old begun mid new fault k same count unspent is rest untold =
    let c = setting_of cast in
    let all : List Made = ms ++ k.made in
    let last_is : k.last ≡ course_of cast all k.last.brought = lasts cast all k.last (k.leads ∙ sym (scene_append c beginning ms k.made)) in
    let at : Rests cast (course_of cast all k.last.brought) mid.stage = subst (λ x. Rests cast x mid.stage) last_is k.at in
    let next : mid.event + 1 ≡ suc (length events) = omega (arith, count) in record {
      before = length events;
      event_is = ap (λ (x : RunFault). x.event) is ∙ next;
      few = omega arith;
      more = k.made;
      last = k.last.brought;
      happened = subst (λ es. HaveHappened cast (course_of cast ms brought) 0 es k.made (course_of cast all k.last.brought)) (sym (take_all (length events) events (omega arith)))
          (subst (λ x. HaveHappened cast (course_of cast ms brought) 0 events k.made x) last_is k.happened);
      told_is = ap (λ (x : RunFault). x.told) is ∙ k.told_is ∙ ap (λ v. v.items ++ told c (scene_of cast ms).standing k.made) same;
      untold = untold;
      is_world = inl (subst (Rests cast (course_of cast all k.last.brought)) (sym (ap (λ (x : World). x.stage) rest)) at, ap (λ (x : World). x.spent) rest ∙ unspent);
      cause = λ other. absurd (other (ap (λ (x : RunFault). x.number) is));
    }

-- an event couldn't happen
pub halted : (cast : Cast) (ms : List Made) (brought : ℕ → ℕ → Bool) (events : List Event) (number : FaultNumber) (old begun mid new : World) (fault : RunFault) → HaveSome cast (course_of cast ms brought) events number begun mid → begun.told ≡ old.told
    → fault ≡ record { event = mid.event; number = number; told = mid.told.items } → new ≡ record mid { told = new.told } → new.told.items ≡ [] → IsStop cast ms brought events old new fault
halted cast ms brought events number old begun mid new fault k same is rest untold =
    let c = setting_of cast in
    let all : List Made = ms ++ k.made in
    let last_is : k.last ≡ course_of cast all k.last.brought = lasts cast all k.last (k.leads ∙ sym (scene_append c beginning ms k.made)) in
    let fewer : k.before ≤ length events = let l = k.few in omega (arith, l) in record {
      before = k.before;
      event_is = ap (λ (x : RunFault). x.event) is ∙ k.event_is;
      few = fewer;
      more = k.made;
      last = k.last.brought;
      happened = subst (λ x. HaveHappened cast (course_of cast ms brought) 0 (take k.before events) k.made x) last_is k.happened;
      told_is = ap (λ (x : RunFault). x.told) is ∙ k.told_is ∙ ap (λ v. v.items ++ told c (scene_of cast ms).standing k.made) same;
      untold = untold;
      is_world = elim k.rests [
        | inl r ↦ inl (subst (Rests cast (course_of cast all k.last.brought)) (sym (ap (λ (x : World). x.stage) rest)) (subst (λ x. Rests cast x mid.stage) last_is r.0), ap (λ (x : World). x.spent) rest ∙ r.1)
        | inr s ↦ inr (record { starved = ap (λ (x : RunFault). x.number) is ∙ s.starved; spent = ap (λ (x : World). x.spent) rest ∙ s.spent })
      ];
      cause = λ other. (
        k.event,
        k.event_at,
        subst (λ f. CannotHappen f cast (scene_of cast all).standing k.event) (sym (ap (λ (x : RunFault). x.number) is)) (subst (λ (x : Course). CannotHappen number cast x.scene.standing k.event) last_is k.cause),
      );
    }

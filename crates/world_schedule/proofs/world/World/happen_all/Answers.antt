use Rattle.std.proofs.Common.{sym, ◌≡◌, ◌∙◌, ◌+◌, suc, Some, Err, inl, inr, refl, ap, subst, arith}
use Rattle.std.proofs.lemmas.List.{take_all}
use Rattle.std.proofs.lemmas.Option.{slice_get-get_or}
use Rattle.std.proofs.lemmas.Result.{err_from_is_err_and}
use Rattle.world_schedule.specs.Worlds.{HaveAll, HaveSome, HasHappened}
use Rattle.world_schedule.specs.declared.world.World.{World}
use Rattle.world_schedule.proofs.Causes.{is_starved}
use Rattle.world_schedule.proofs.Courses.{have_none, have_more}
use Rattle.world_schedule.proofs.world.World.happen_all.Goals as goal

pub loop-event-init : goal.loop-event-init
loop-event-init c = (c.requires, refl, λ cast w at. have_none cast w 0 c.args.self.now at)

pub loop-event-preserved : goal.loop-event-preserved
loop-event-preserved c =
    let inv = c.loop-event.invariant in
    let begun : World = record c.loop-event.self { event = c.loop-event.self.event + 1 } in (
      c.step.ensures.event ∙ ap (λ n. n + 1) inv.0,
      c.in_ok-step.ensures.serves ∙ inv.1,
      λ cast w at.
          let k = inv.2 cast w at in
          have_more cast w c.args.events.now c.loop-event.event-index c.event-item.result c.args.self.now c.loop-event.self begun c.step.new.self c.loop-event-test.true c.event-item.is k refl
          (subst (λ n. HasHappened cast k.last (n + 1) c.event-item.result begun c.step.new.self) inv.0 (c.in_ok-step.ensures.ok cast k.last k.at)),
    )

pub returns-in_err-step-clause-err : goal.returns-in_err-step-clause-err
returns-in_err-step-clause-err c = λ cast w at.
    let inv = c.loop-event.invariant in
    let number : c.step.new.self.event ≡ suc c.loop-event.event-index = let e = c.step.ensures.event in let f = inv.0 in omega (arith, e, f) in
    let p = err_from_is_err_and c.from_residual.result c.from_residual.ensures.1 in
    let k = inv.2 cast w at in
    let some : HaveSome cast w c.args.events.now c.in_err-step.field-0.0 c.args.self.now c.step.new.self = record {
      before = c.loop-event.event-index;
      event_is = number;
      few = c.loop-event-test.true;
      made = k.made;
      last = k.last;
      happened = k.happened;
      leads = k.leads;
      told_is = c.in_err-step.ensures.stays ∙ k.told_is;
      rests = elim (is_starved c.in_err-step.field-0.0) [
        | inl e ↦ inr (record { starved = e; spent = c.in_err-step.ensures.starves (ap Err e) })
        | inr other ↦ inl (c.in_err-step.ensures.err cast k.last k.at other, c.in_err-step.ensures.spends other)
      ];
      event = c.event-item.result;
      event_at = slice_get-get_or c.args.events.now c.loop-event.event-index c.event-item.result c.loop-event-test.true ∙ ap Some (sym c.event-item.is);
      cause = c.in_err-step.ensures.cause cast k.last k.at;
    } in rw (p.1, p.2) some

pub returns-clause-ok : goal.returns-clause-ok
returns-clause-ok c = λ cast w at.
    subst (λ es. HaveAll cast w 0 es c.args.self.now c.loop-event.self) (take_all c.loop-event.event-index c.args.events.now (omega (arith, c.loop-event-test.false))) (c.loop-event.invariant.2 cast w at)

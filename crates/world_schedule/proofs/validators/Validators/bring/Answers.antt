use Rattle.std.proofs.Common.{◌∙◌, ap, ap₂, map, filter, subst}
use Rattle.protocol.specs.History.{Given}
use Rattle.world_schedule.specs.Making.{Hands}
use Rattle.world_schedule.specs.Events.{asked_of, is_wanting}
use Rattle.world_schedule.specs.Worlds.{has_come, HaveMet}
use Rattle.world_schedule.proofs.Saying.{on_ok_both}
use Rattle.world_schedule.proofs.InTurn.{at_some}
use Rattle.world_schedule.proofs.validators.Validators.bring.Goals as goal

pub returns : goal.returns
returns c = λ s scene b up holds at.
    let came = has_come c.args.brought.now in
    let k = at_some _ c.get.result c.in-Some.posted (c.get.ensures.some s scene.standing.numbered b holds at) c.in-Some.is in
    let framed = c.deref-3.ensures.value ∙ c.in_ok-frame.ensures.items_if_clones_equal (λ x y z. z) ∙ c.deref.ensures.value ∙ k.0 in
    let wanted = c.deref-2.ensures.value ∙ c.in_ok-wanting.ensures ∙ ap (λ y. filter (is_wanting came c.args.number y) c.args.validators.now) k.1 in
    on_ok_both c.turn_all.result (c.turn_all.ensures s scene up holds)
    (λ k. subst (λ t. HaveMet s scene t c.args.self.now.each.items c.turn_all.new.self.each.items c.args.chronicle.now c.turn_all.new.chronicle) (ap₂ (λ f l. map (asked_of (Hands (Given f))) l) framed wanted) k)

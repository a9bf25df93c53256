use Rattle.std.proofs.Common.{◌≡◌, ◌∙◌, length, map, sym, ap, subst}
use Rattle.world_parties.specs.Cast.{setting_of, is_correct}
use Rattle.world_schedule.specs.Making.{beginning}
use Rattle.world_schedule.specs.Validators.{IsSeated, AreUp, places}
use Rattle.world_schedule.proofs.Places.{below_none, count_of, places_pushed, up_none, up_pushed}
use Rattle.world_schedule.proofs.validators.open_all.Goals as goal

pub loop-number-init : goal.loop-number-init
loop-number-init c = (
  up_none (setting_of c.args.parties.now) beginning c.args.each.now.items c.requires,
  ap places c.requires ∙ sym (ap (map (is_correct c.args.parties.now)) below_none),
)

pub loop-number-preserved : goal.loop-number-preserved
loop-number-preserved c =
    let old = c.loop-number.each.items in
    let test = is_correct c.args.parties.now in
    let inv = c.loop-number.invariant in
    let size : length old ≡ c.loop-number.number = count_of old test c.loop-number.number inv.1 in (
      subst (AreUp (setting_of c.args.parties.now) beginning) (sym c.in_ok-push.ensures.items) (up_pushed (setting_of c.args.parties.now) beginning old c.in_ok-place.place inv.0 (subst (λ j. IsSeated (setting_of c.args.parties.now) beginning j c.in_ok-place.place) (sym size) c.in_ok-place.ensures.up)),
      ap places c.in_ok-push.ensures.items ∙ places_pushed old c.in_ok-place.place test c.loop-number.number inv.1 c.in_ok-place.ensures.place,
    )

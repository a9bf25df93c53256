use Rattle.std.proofs.Common.{◌≡◌, ◌∙◌, ◌<◌, length, Some, set, sym, ap, subst, arith}
use Rattle.std.specs.Prelude.{slice_get}
use Rattle.std.proofs.lemmas.Option.{slice_get-get_or}
use Rattle.world_parties.specs.Cast.{setting_of}
use Rattle.protocol.specs.Tags.{Setting}
use Rattle.world_schedule.specs.Restarting.{HaveRestarted}
use Rattle.world_schedule.proofs.Others.{came_back}
use Rattle.world_schedule.proofs.validators.Validators.restart.Goals as goal

pub returns : goal.returns
returns c = λ s up holds.
    let d : Setting = setting_of c.args.parties.now in
    let each = c.args.self.now.each.items in
    let place = c.from-place.result in
    let within : place < length each = omega (arith, c.if-place-len.false, c.len.ensures, c.args.self.now.each.ok) in
    let at : slice_get each place ≡ Some c.replace.result = slice_get-get_or each place c.index_mut.result.now within ∙ ap Some (sym c.index_mut.ensures.value ∙ sym c.replace.ensures.value) in
    subst (λ i. HaveRestarted d s i each (set (set each place c.replace.new.dest) place c.in_ok-self.field-0) c.args.chronicle.now c.restart.new.chronicle) c.from-place.ensures
    (came_back d s place each c.replace.new.dest c.replace.result c.in_ok-stopped.stopped c.in_ok-self.field-0 c.args.chronicle.now c.restart.new.chronicle up at within (c.in_ok-stopped.ensures d.powers)
    (λ stopped. c.in_ok-self.ensures s stopped holds))

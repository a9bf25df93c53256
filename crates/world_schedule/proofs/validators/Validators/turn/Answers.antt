use Rattle.std.proofs.Common.{◌≡◌, ◌∙◌, ◌<◌, length, Some, set, refl, sym, ap, subst, arith}
use Rattle.std.specs.Prelude.{slice_get}
use Rattle.std.proofs.lemmas.Option.{slice_get-get_or}
use Rattle.world_schedule.specs.Validators.{request_of, Sits, HasTurned, HaveTurned}
use Rattle.world_schedule.specs.declared.seat.Seat.TheVariants as seats
use Rattle.world_schedule.proofs.Saying.{on_ok_both}
use Rattle.world_schedule.proofs.Others.{turned, turned_idly}
use Rattle.world_schedule.proofs.validators.Validators.turn.Goals as goal

pub returns-in-Up : goal.returns-in-Up
returns-in-Up c = λ s scene up holds.
    let each = c.args.self.now.each.items in
    let place = c.from-place.result in
    let old = c.in-Up.validator in
    let within : place < length each = omega (arith, c.if-place-len.false, c.len.ensures, c.args.self.now.each.ok) in
    let at : slice_get each place ≡ Some (seats.Up old) = slice_get-get_or each place c.index_mut.result.now within ∙ ap Some (sym c.index_mut.ensures.value) ∙ ap Some c.in-Up.is in
    let here = up place (seats.Up old) at in
    on_ok_both c.turn.result (c.turn.ensures s scene here.1 holds) (λ k. subst (λ i. HaveTurned s scene i (request_of c.args.request) each (set each place (seats.Up c.turn.new.self)) c.args.chronicle.now c.turn.new.chronicle) c.from-place.ensures
    (turned s scene place (request_of c.args.request) each (seats.Up old) (seats.Up c.turn.new.self) c.args.chronicle.now c.turn.new.chronicle up at refl within (subst (λ i. HasTurned s scene (request_of c.args.request) i (seats.Up c.turn.new.self) c.args.chronicle.now c.turn.new.chronicle) here.0 k)))

pub returns-in_ok-tell-in-Closed : goal.returns-in_ok-tell-in-Closed
returns-in_ok-tell-in-Closed c = λ s scene up holds.
    let each = c.args.self.now.each.items in
    let place = c.from-place.result in
    let within : place < length each = omega (arith, c.if-place-len.false, c.len.ensures, c.args.self.now.each.ok) in
    let at : slice_get each place ≡ Some (seats.Closed c.in-Closed.field-0) = slice_get-get_or each place c.index_mut.result.now within ∙ ap Some (sym c.index_mut.ensures.value) ∙ ap Some c.in-Closed.is in
    let stopped = c.in-Closed.field-0 in
    let sits = subst (λ i. Sits s scene i (seats.Closed stopped)) c.from-place.ensures (up place (seats.Closed stopped) at) in
    let k = turned_idly s scene c.args.number c.args.request stopped c.args.chronicle.now c.tell.new.self sits holds c.in_ok-tell-in-Closed.ensures.told c.tell.ensures.messages in
    let done = turned s scene c.args.number (request_of c.args.request) each (seats.Closed stopped) (seats.Closed stopped) c.args.chronicle.now c.tell.new.self up (subst (λ i. slice_get each i ≡ Some (seats.Closed stopped)) c.from-place.ensures at) refl (subst (λ i. i < length each) c.from-place.ensures within) k in
    let here = subst (λ seat. HaveTurned s scene c.args.number (request_of c.args.request) each (set each c.args.number seat) c.args.chronicle.now c.tell.new.self) (sym c.in-Closed.is) done in
    subst (λ i. HaveTurned s scene c.args.number (request_of c.args.request) each (set each i c.index_mut.result.now) c.args.chronicle.now c.tell.new.self) (sym c.from-place.ensures) here

use Rattle.std.proofs.Common.{◌≡◌, ◌<◌, Some, List, length, get_or, sym, subst, arith}
use Rattle.std.specs.Prelude.{slice_get}
use Rattle.std.proofs.lemmas.List.{take_all}
use Rattle.std.proofs.lemmas.Option.{slice_get-get_or}
use Rattle.protocol.specs.Messages.{Body}
use Rattle.world_schedule.specs.Making.{scene_after}
use Rattle.world_schedule.specs.Events.{passes}
use Rattle.world_schedule.specs.Worlds.{has_come, HaveMet}
use Rattle.world_schedule.proofs.Saying.{no_body}
use Rattle.world_schedule.proofs.InTurn.{met_none, met_both, passes_more, passes_passed, still_there}
use Rattle.world_schedule.proofs.validators.Validators.pass.Goals as goal

pub loop-number-init : goal.loop-number-init
loop-number-init c = λ s scene up holds.
    subst (λ t. HaveMet s scene t c.args.self.now.each.items c.args.self.now.each.items c.args.chronicle.now c.args.chronicle.now) (sym (passes_passed s c.args.brought.now c.args.validators.now scene.standing.numbered)) (met_none s scene c.args.self.now.each.items c.args.chronicle.now up holds)

pub loop-number-preserved : goal.loop-number-preserved
loop-number-preserved c = λ s scene up holds.
    let k = c.loop-number.invariant s scene up holds in
    let numbered : List Body = scene.standing.numbered in
    let i = c.loop-number.number in
    let size = c.count-number-end.ensures s numbered holds in
    let within : i < length numbered = omega (arith, c.loop-number-test.true, size) in
    let b : Body = get_or numbered i no_body in
    let here : slice_get numbered i ≡ Some b = slice_get-get_or numbered i no_body within in
    let one = c.in_ok-bring.ensures s (scene_after s scene k.made) b k.leads.up k.leads.holds (still_there s scene k.made i b here) in
    subst (λ t. HaveMet s scene t c.args.self.now.each.items c.bring.new.self.each.items c.args.chronicle.now c.bring.new.chronicle) (sym (passes_more s (has_come c.args.brought.now) c.args.validators.now numbered i within))
    (met_both s scene _ _ c.args.self.now.each.items c.loop-number.self.each.items c.bring.new.self.each.items c.args.chronicle.now c.loop-number.chronicle c.bring.new.chronicle k one)

pub returns : goal.returns
returns c = λ s scene up holds.
    let size = c.count-number-end.ensures s scene.standing.numbered holds in
    let all = take_all c.loop-number.number scene.standing.numbered (omega (arith, c.loop-number-test.false, size)) in
    subst (λ l. HaveMet s scene (passes s (has_come c.args.brought.now) c.args.validators.now 0 l) c.args.self.now.each.items c.loop-number.self.each.items c.args.chronicle.now c.loop-number.chronicle) all (c.loop-number.invariant s scene up holds)

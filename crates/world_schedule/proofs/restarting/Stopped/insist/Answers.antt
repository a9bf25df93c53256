use Rattle.std.proofs.Common.{◌≡◌, false, inl, inr, refl, sym, subst}
use Rattle.std.specs.Prelude.{IfOk, IfErr}
use Rattle.world_parties.specs.Cast.{setting_of}
use Rattle.protocol.specs.Tags.{Setting}
use Rattle.protocol.specs.Calls.{NoMemory, JournalFailed, call_number}
use Rattle.world_schedule.specs.Making.{Reopens, Scene, scene_next}
use Rattle.world_schedule.specs.Validators.{IsStopped, HasMet}
use Rattle.world_schedule.specs.Restarting.{IsBack}
use Rattle.world_schedule.proofs.Ended.{if_ok}
use Rattle.world_schedule.proofs.Reopening.{IsRefused, refusal, refusal_holds, refusal_stopped, has_closed, reopened_again}
use Rattle.world_schedule.proofs.restarting.Stopped.insist.Goals as goal

pub returns-in-Ok : goal.returns-in-Ok
returns-in-Ok c = λ s stopped holds.
    let d : Setting = setting_of c.args.parties.now in
    let v = c.args.self in
    let k : IsRefused d s v (call_number NoMemory) c.args.chronicle.now c.tell.new.self = record { which = inl refl; stopped_is = stopped; tells = c.in_ok-tell.ensures.told; messages = c.tell.ensures.messages; holds = holds } in
    let next : Scene = scene_next d s (refusal d s v (call_number NoMemory) c.args.chronicle.now c.tell.new.self k) in
    let back : IsBack d next v.number c.in-Ok.validator = subst (λ r. IfOk r (IsBack d next v.number)) c.in-Ok.is (c.open.ensures.back next (refusal_stopped d s v (call_number NoMemory) c.args.chronicle.now c.tell.new.self k)) in
    if_ok _ _ c.take_seat.result (c.take_seat.ensures d next v.number back (refusal_holds d s v (call_number NoMemory) c.args.chronicle.now c.tell.new.self k)) (λ seat j. reopened_again d s v seat c.args.chronicle.now c.tell.new.self c.take_seat.new.chronicle k j)

pub returns-in-Err : goal.returns-in-Err
returns-in-Err c = λ s stopped holds.
    let d : Setting = setting_of c.args.parties.now in
    let v = c.args.self in
    let k : IsRefused d s v (call_number NoMemory) c.args.chronicle.now c.tell.new.self = record { which = inl refl; stopped_is = stopped; tells = c.in_ok-tell.ensures.told; messages = c.tell.ensures.messages; holds = holds } in
    let next : Scene = scene_next d s (refusal d s v (call_number NoMemory) c.args.chronicle.now c.tell.new.self k) in
    let still : IsStopped d next c.in-Err.field-0.stopped = subst (λ r. IfErr r (λ e. IsStopped d next e.stopped)) c.in-Err.is (c.open.ensures.stopped next (refusal_stopped d s v (call_number NoMemory) c.args.chronicle.now c.tell.new.self k)) in
    let number = subst (λ r. IfErr r (λ e. e.stopped.number ≡ v.number)) c.in-Err.is c.open.ensures.number in
    let held = refusal_holds d s v (call_number NoMemory) c.args.chronicle.now c.tell.new.self k in
    if_ok _ _ c.close.result c.close.ensures.closed (λ seat j.
    let met = has_closed d next c.in-Err.field-0.stopped (call_number JournalFailed) c.tell.new.self c.close.new.chronicle (record { which = inr refl; stopped_is = still; tells = j.1; messages = c.close.ensures.messages; holds = held }) refl in
    let here = subst (λ p. HasMet d next Reopens false p seat c.tell.new.self c.close.new.chronicle) number (subst (λ x. HasMet d next Reopens false c.in-Err.field-0.stopped.number x c.tell.new.self c.close.new.chronicle) (sym j.0) met) in
    reopened_again d s v seat c.args.chronicle.now c.tell.new.self c.close.new.chronicle k here)

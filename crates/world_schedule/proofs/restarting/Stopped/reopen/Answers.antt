use Rattle.std.proofs.Common.{◌≡◌, inr, refl, sym, subst}
use Rattle.std.specs.Prelude.{IfOk, IfErr}
use Rattle.world_parties.specs.Cast.{setting_of}
use Rattle.protocol.specs.Tags.{Setting}
use Rattle.protocol.specs.Calls.{JournalFailed, call_number}
use Rattle.world_schedule.specs.Validators.{IsStopped}
use Rattle.world_schedule.specs.Restarting.{IsBack, HasReopened}
use Rattle.world_schedule.proofs.Ended.{if_ok}
use Rattle.world_schedule.proofs.Reopening.{has_closed, reopened_once}
use Rattle.world_schedule.proofs.restarting.Stopped.reopen.Goals as goal

pub returns-in-Ok : goal.returns-in-Ok
returns-in-Ok c = λ s stopped holds.
    let d : Setting = setting_of c.args.parties.now in
    let p = c.args.self.number in
    let back : IsBack d s p c.in-Ok.validator = subst (λ r. IfOk r (IsBack d s p)) c.in-Ok.is (c.open.ensures.back s stopped) in
    if_ok _ _ c.take_seat.result (c.take_seat.ensures d s p back holds) (λ seat k. reopened_once d s p seat c.args.chronicle.now c.take_seat.new.chronicle k)

pub returns-in-Err-OutOfMemory : goal.returns-in-Err-OutOfMemory
returns-in-Err-OutOfMemory c = λ s stopped holds.
    let d : Setting = setting_of c.args.parties.now in
    let still : IsStopped d s c.in-Err-OutOfMemory.field-0.stopped = subst (λ r. IfErr r (λ e. IsStopped d s e.stopped)) c.in-Err-OutOfMemory.is (c.open.ensures.stopped s stopped) in
    let number = subst (λ r. IfErr r (λ e. e.stopped.number ≡ c.args.self.number)) c.in-Err-OutOfMemory.is c.open.ensures.number in
    subst (λ p. IfOk c.insist.result (λ seat. HasReopened d s p seat c.args.chronicle.now c.insist.new.chronicle)) number (c.insist.ensures s still holds)

pub returns-in-Err : goal.returns-in-Err
returns-in-Err c = λ s stopped holds.
    let d : Setting = setting_of c.args.parties.now in
    let still : IsStopped d s c.in-Err.field-0.stopped = subst (λ r. IfErr r (λ e. IsStopped d s e.stopped)) c.in-Err.is (c.open.ensures.stopped s stopped) in
    let number = subst (λ r. IfErr r (λ e. e.stopped.number ≡ c.args.self.number)) c.in-Err.is c.open.ensures.number in
    if_ok _ _ c.close.result c.close.ensures.closed (λ seat k.
    let met = has_closed d s c.in-Err.field-0.stopped (call_number JournalFailed) c.args.chronicle.now c.close.new.chronicle (record { which = inr refl; stopped_is = still; tells = k.1; messages = c.close.ensures.messages; holds = holds }) refl in
    subst (λ p. HasReopened d s p seat c.args.chronicle.now c.close.new.chronicle) number (subst (λ x. HasReopened d s c.in-Err.field-0.stopped.number x c.args.chronicle.now c.close.new.chronicle) (sym k.0) (reopened_once d s c.in-Err.field-0.stopped.number _ c.args.chronicle.now c.close.new.chronicle met)))

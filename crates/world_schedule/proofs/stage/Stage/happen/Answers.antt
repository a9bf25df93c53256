use Rattle.std.proofs.Common.{refl, sym, subst, None}
use Rattle.protocol.specs.History.{Given, Due}
use Rattle.world_parties.specs.Cast.{is_correct}
use Rattle.world_parties.specs.declared.fault.FaultNumber.TheVariants.{NoSuchParty}
use Rattle.world_schedule.specs.Making.{Hands, Asks, Resends}
use Rattle.world_schedule.specs.Worlds.{IsMet, HasActed}
use Rattle.world_schedule.specs.declared.event.Event.TheVariants as events
use Rattle.world_schedule.proofs.Happenings.{acted, passed_by, on_ok_two}
use Rattle.world_schedule.proofs.Causes.{unknown_cause}
use Rattle.world_schedule.proofs.Ended.{if_err}
use Rattle.std.specs.Prelude.{IfErr}
use Rattle.world_schedule.specs.Events.{CannotHappen}
use Rattle.world_schedule.proofs.stage.Stage.happen.Goals as goal

pub returns-in-Timeout-clause-ok : goal.returns-in-Timeout-clause-ok
returns-in-Timeout-clause-ok c = λ cast w at.
    let p = c.in-Timeout.validator in
    let t = c.in-Timeout.timeout in
    on_ok_two c.turn.result (c.turn.ensures.met cast w at) (c.turn.ensures.known cast at.parties) (λ k e. subst (λ x. HasActed cast w x c.args.self.now c.turn.new.self) (sym c.in-Timeout.is)
    (acted cast w (events.Timeout p t) p (Hands (Due t)) c.args.self.now c.turn.new.self (record { no_cause = passed_by (is_correct cast p) NoSuchParty _ e; encodable = tt }) (λ j made x. x) (λ i r. refl) k))

pub returns-in-Ask-clause-ok : goal.returns-in-Ask-clause-ok
returns-in-Ask-clause-ok c = λ cast w at.
    let p = c.in-Ask.validator in
    on_ok_two c.turn-in-Ask.result (c.turn-in-Ask.ensures.met cast w at) (c.turn-in-Ask.ensures.known cast at.parties) (λ k e. subst (λ x. HasActed cast w x c.args.self.now c.turn-in-Ask.new.self) (sym c.in-Ask.is)
    (acted cast w (events.Ask p) p Asks c.args.self.now c.turn-in-Ask.new.self (record { no_cause = passed_by (is_correct cast p) NoSuchParty _ e; encodable = tt }) (λ j made x. x) (λ i r. refl) k))

pub returns-in-Resend-clause-ok : goal.returns-in-Resend-clause-ok
returns-in-Resend-clause-ok c = λ cast w at.
    let p = c.in-Resend.validator in
    on_ok_two c.turn-in-Resend.result (c.turn-in-Resend.ensures.met cast w at) (c.turn-in-Resend.ensures.known cast at.parties) (λ k e. subst (λ x. HasActed cast w x c.args.self.now c.turn-in-Resend.new.self) (sym c.in-Resend.is)
    (acted cast w (events.Resend p) p Resends c.args.self.now c.turn-in-Resend.new.self (record { no_cause = passed_by (is_correct cast p) NoSuchParty _ e; encodable = tt }) (λ j made x. x) (λ i r. refl) k))

pub returns-in-Frame-clause-ok : goal.returns-in-Frame-clause-ok
returns-in-Frame-clause-ok c = λ cast w at.
    let p = c.in-Frame.validator in
    let bytes = c.in-Frame.bytes in
    on_ok_two c.turn-in-Frame.result (c.turn-in-Frame.ensures.met cast w at) (c.turn-in-Frame.ensures.known cast at.parties) (λ k e. subst (λ x. HasActed cast w x c.args.self.now c.turn-in-Frame.new.self) (sym c.in-Frame.is)
    (acted cast w (events.Frame p bytes) p (Hands (Given bytes)) c.args.self.now c.turn-in-Frame.new.self (record { no_cause = passed_by (is_correct cast p) NoSuchParty _ e; encodable = tt }) (λ j made x. x) (λ i r. refl) (subst (λ b. IsMet cast w p (Hands (Given b)) c.args.self.now c.turn-in-Frame.new.self) c.as_slice.ensures k)))

pub returns-in-Timeout-clause-cause : goal.returns-in-Timeout-clause-cause
returns-in-Timeout-clause-cause c = λ cast w at.
    let p = c.in-Timeout.validator in
    let t = c.in-Timeout.timeout in
    subst (λ x. IfErr c.turn.result (λ fault. CannotHappen fault cast w.scene.standing x)) (sym c.in-Timeout.is)
    (if_err _ _ c.turn.result (c.turn.ensures.unknown cast at.parties) (λ fault k. unknown_cause cast w.scene.standing (events.Timeout p t) p None fault refl k))

pub returns-in-Ask-clause-cause : goal.returns-in-Ask-clause-cause
returns-in-Ask-clause-cause c = λ cast w at.
    let p = c.in-Ask.validator in
    subst (λ x. IfErr c.turn-in-Ask.result (λ fault. CannotHappen fault cast w.scene.standing x)) (sym c.in-Ask.is)
    (if_err _ _ c.turn-in-Ask.result (c.turn-in-Ask.ensures.unknown cast at.parties) (λ fault k. unknown_cause cast w.scene.standing (events.Ask p) p None fault refl k))

pub returns-in-Resend-clause-cause : goal.returns-in-Resend-clause-cause
returns-in-Resend-clause-cause c = λ cast w at.
    let p = c.in-Resend.validator in
    subst (λ x. IfErr c.turn-in-Resend.result (λ fault. CannotHappen fault cast w.scene.standing x)) (sym c.in-Resend.is)
    (if_err _ _ c.turn-in-Resend.result (c.turn-in-Resend.ensures.unknown cast at.parties) (λ fault k. unknown_cause cast w.scene.standing (events.Resend p) p None fault refl k))

pub returns-in-Frame-clause-cause : goal.returns-in-Frame-clause-cause
returns-in-Frame-clause-cause c = λ cast w at.
    let p = c.in-Frame.validator in
    let bytes = c.in-Frame.bytes in
    subst (λ x. IfErr c.turn-in-Frame.result (λ fault. CannotHappen fault cast w.scene.standing x)) (sym c.in-Frame.is)
    (if_err _ _ c.turn-in-Frame.result (c.turn-in-Frame.ensures.unknown cast at.parties) (λ fault k. unknown_cause cast w.scene.standing (events.Frame p bytes) p None fault refl k))

use Rattle.std.proofs.Common.{◌≡◌, ◌∙◌, true, length, refl, sym, ap, subst}
use Rattle.messages.specs.Framing.{frame_spelling}
use Rattle.world_parties.specs.Cast.{Cast, is_correct}
use Rattle.world_parties.specs.Sending.{submitted, FitsTx}
use Rattle.world_parties.specs.declared.fault.FaultNumber.TheVariants.{NoSuchParty}
use Rattle.world_schedule.specs.declared.event.Event.TheVariants as events
use Rattle.world_schedule.proofs.Saying.{on_ok_both}
use Rattle.world_schedule.proofs.Happenings.{heard, passed_by}
use Rattle.world_schedule.proofs.Causes.{cause_from, unknown_at, unencoded_cause, starved_cause}
use Rattle.world_schedule.proofs.Ended.{if_err}
use Rattle.world_schedule.proofs.stage.Stage.submit.Goals as goal

pub returns-clause-ok : goal.returns-clause-ok
returns-clause-ok c = λ cast w at.
    let known : is_correct cast c.args.validator ≡ true = subst (λ (x : Cast). is_correct x c.args.validator ≡ true) at.parties c.in_ok-to.ensures.ok.1 in
    on_ok_both c.meet.result (c.meet.ensures.met cast w at) (λ k. heard cast w (events.Submit c.args.validator c.args.line.now) c.args.validator c.in_ok-to.to (frame_spelling (submitted (length cast.powers) c.args.line.now)) c.deref.result.now c.args.self.now c.meet.new.self
    c.in_ok-to.ensures.ok.0
    (c.deref.ensures.value ∙ c.in_ok-frame.ensures.frame.same ∙ ap (λ (x : Cast). frame_spelling (submitted (length x.powers) c.args.line.now)) at.parties)
    (record { no_cause = passed_by (is_correct cast c.args.validator) NoSuchParty _ known; encodable = subst (λ (x : Cast). FitsTx (length x.powers) c.args.line.now) at.parties c.in_ok-frame.ensures.frame.lawful })
    (λ j made t. t) (λ i r. refl) k)

pub returns-in_err-to-clause-cause : goal.returns-in_err-to-clause-cause
returns-in_err-to-clause-cause c = λ cast w at.
    cause_from _ c.from_residual.result _ c.from_residual.ensures.1 (unknown_at c.args.self.now.parties cast w.scene.standing (events.Submit c.args.validator c.args.line.now) c.args.validator _ _ at.parties refl c.in_err-to.ensures.err)

pub returns-in_err-frame-clause-cause : goal.returns-in_err-frame-clause-cause
returns-in_err-frame-clause-cause c = λ cast w at.
    let known : is_correct cast c.args.validator ≡ true = subst (λ (x : Cast). is_correct x c.args.validator ≡ true) at.parties c.in_ok-to.ensures.ok.1 in
    cause_from _ c.from_residual-in_err-frame.result _ c.from_residual-in_err-frame.ensures.1 (unencoded_cause cast w.scene.standing (events.Submit c.args.validator c.args.line.now) _ c.in_err-frame.field-0.0 (passed_by (is_correct cast c.args.validator) NoSuchParty _ known)
    (subst (λ (x : Cast). FitsTx (length x.powers) c.args.line.now) (sym at.parties)) c.in_err-frame.ensures.err)

pub returns-clause-cause : goal.returns-clause-cause
returns-clause-cause c = λ cast w at. if_err _ _ c.meet.result c.meet.ensures.err (starved_cause cast w.scene.standing (events.Submit c.args.validator c.args.line.now))

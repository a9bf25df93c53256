use Rattle.std.proofs.Common.{◌≡◌, ◌∙◌, true, refl, sym, ap, subst, false, Err}
use Rattle.protocol.specs.Messages.{OfProposal}
use Rattle.world_parties.specs.Cast.{Cast, setting_of, is_correct, is_liar}
use Rattle.world_parties.specs.Sending.{proposed, FitsProposal}
use Rattle.world_parties.specs.declared.fault.FaultNumber.TheVariants.{NoSuchParty, TooLong}
use Rattle.world_schedule.specs.Cores.{frame_in}
use Rattle.world_schedule.specs.declared.event.Event.TheVariants as events
use Rattle.world_schedule.proofs.Saying.{on_ok_both}
use Rattle.world_schedule.proofs.Happenings.{heard, passed_by}
use Rattle.world_schedule.proofs.Causes.{cause_from, unknown_at, frame_cause, starved_cause}
use Rattle.world_schedule.proofs.Ended.{if_err}
use Rattle.world_schedule.proofs.stage.Stage.propose.Goals as goal

pub returns-clause-ok : goal.returns-clause-ok
returns-clause-ok c = λ cast w at.
    let known : is_correct cast c.args.validator ≡ true = subst (λ (x : Cast). is_correct x c.args.validator ≡ true) at.parties c.in_ok-to.ensures.ok.1 in
    on_ok_both c.meet.result (c.meet.ensures.met cast w at) (λ k. heard cast w (events.Propose c.args.validator c.args.line.now) c.args.validator c.in_ok-to.to (frame_in (setting_of cast) (OfProposal (proposed c.args.line.now))) c.deref.result.now c.args.self.now c.meet.new.self
    c.in_ok-to.ensures.ok.0
    (c.deref.ensures.value ∙ c.in_ok-frame.ensures.frame.same ∙ ap (λ (x : Cast). frame_in (setting_of x) (OfProposal (proposed c.args.line.now))) at.parties)
    (record { no_cause = passed_by (is_correct cast c.args.validator) NoSuchParty _ known ∙ passed_by (is_liar cast c.args.line.now.sender) NoSuchParty _ (subst (λ (x : Cast). is_liar x c.args.line.now.sender ≡ true) at.parties c.in_ok-frame.ensures.known); encodable = subst (λ (x : Cast). FitsProposal (setting_of x) c.args.line.now) at.parties c.in_ok-frame.ensures.frame.lawful })
    (λ j made t. t) (λ i r. refl) k)

pub returns-in_err-to-clause-cause : goal.returns-in_err-to-clause-cause
returns-in_err-to-clause-cause c = λ cast w at.
    cause_from _ c.from_residual.result _ c.from_residual.ensures.1 (unknown_at c.args.self.now.parties cast w.scene.standing (events.Propose c.args.validator c.args.line.now) c.args.validator _ _ at.parties refl c.in_err-to.ensures.err)

pub returns-in_err-frame-clause-cause : goal.returns-in_err-frame-clause-cause
returns-in_err-frame-clause-cause c = λ cast w at.
    let fault = c.in_err-frame.field-0.0 in
    let known : is_correct cast c.args.validator ≡ true = subst (λ (x : Cast). is_correct x c.args.validator ≡ true) at.parties c.in_ok-to.ensures.ok.1 in
    let unknown : fault ≡ NoSuchParty → is_liar cast c.args.line.now.sender ≡ false = subst (λ (x : Cast). fault ≡ NoSuchParty → is_liar x c.args.line.now.sender ≡ false) at.parties (λ e. c.in_err-frame.ensures.unknown (ap Err e)) in
    let order : fault ≡ TooLong → is_liar cast c.args.line.now.sender ≡ true = subst (λ (x : Cast). fault ≡ TooLong → is_liar x c.args.line.now.sender ≡ true) at.parties (λ e. c.in_err-frame.ensures.order (ap Err e)) in
    cause_from _ c.from_residual-in_err-frame.result _ c.from_residual-in_err-frame.ensures.1 (frame_cause cast w.scene.standing (events.Propose c.args.validator c.args.line.now) (is_liar cast c.args.line.now.sender) _ fault (passed_by (is_correct cast c.args.validator) NoSuchParty _ known) (subst (λ (x : Cast). FitsProposal (setting_of x) c.args.line.now) (sym at.parties)) unknown order c.in_err-frame.ensures.err)

pub returns-clause-cause : goal.returns-clause-cause
returns-clause-cause c = λ cast w at. if_err _ _ c.meet.result c.meet.ensures.err (starved_cause cast w.scene.standing (events.Propose c.args.validator c.args.line.now))

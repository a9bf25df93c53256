use Rattle.std.proofs.Common.{◌≡◌, ◌∙◌, ◌<◌, true, false, None, set, ap, subst, refl, inl, inr, sym, arith}
use Rattle.std.specs.Prelude.{slice_get}
use Rattle.world_parties.specs.Cast.{Cast, is_client}
use Rattle.world_parties.specs.declared.fault.FaultNumber.TheVariants.{NoSuchParty, NotClosed}
use Rattle.world_schedule.specs.Reports.{begun_after, stands_in, is_shut}
use Rattle.world_schedule.specs.Events.{CannotHappen}
use Rattle.world_schedule.specs.declared.event.Event.TheVariants as events
use Rattle.world_schedule.proofs.InTurn.{less_of}
use Rattle.world_schedule.proofs.Happenings.{begins, passed_by, on_ok_two}
use Rattle.world_schedule.proofs.Causes.{cause_from, party_cause, starved_cause, stopped_by}
use Rattle.world_schedule.proofs.Ended.{if_err}
use Rattle.world_schedule.proofs.stage.Stage.begin.Goals as goal

pub returns-clause-ok : goal.returns-clause-ok
returns-clause-ok c = λ cast w at.
    let client = c.args.client in
    let s = w.scene.standing in
    let each = c.args.self.now.clients.each.items in
    let same : c.in_ok-sender.sender ≡ client = c.in_ok-sender.ensures.ok.0 in
    let known : is_client cast client ≡ true = subst (λ (x : Cast). is_client x client ≡ true) at.parties c.in_ok-sender.ensures.ok.1 in
    let within : client < cast.clients = less_of client cast.clients known in
    let k = c.begin.ensures.ok (stands_in s client) (ap (λ i. slice_get each i) same ∙ at.sent.1 client within) in
    on_ok_two c.begin.result k k (λ both again. begins cast w client c.args.self.now c.begin.new.self at known within both.0 both.1 (both.2 ∙ ap (λ i. set each i (begun_after (stands_in s client))) same))

pub returns-in_err-sender-clause-cause : goal.returns-in_err-sender-clause-cause
returns-in_err-sender-clause-cause c = λ cast w at.
    cause_from _ c.from_residual.result _ c.from_residual.ensures.1 (party_cause cast w.scene.standing (events.Open c.args.client) (is_client cast c.args.client) _ c.in_err-sender.field-0.0 refl c.in_err-sender.ensures.err.0
    (subst (λ (x : Cast). is_client x c.args.client ≡ false) at.parties c.in_err-sender.ensures.err.1))

pub returns-clause-cause : goal.returns-clause-cause
returns-clause-cause c = λ cast w at.
    let client = c.args.client in
    let s = w.scene.standing in
    let each = c.args.self.now.clients.each.items in
    let same : c.in_ok-sender.sender ≡ client = c.in_ok-sender.ensures.ok.0 in
    let known : is_client cast client ≡ true = subst (λ (x : Cast). is_client x client ≡ true) at.parties c.in_ok-sender.ensures.ok.1 in
    let within : client < cast.clients = less_of client cast.clients known in
    if_err _ _ c.begin.result (c.begin.ensures.cause (stands_in s client) (ap (λ i. slice_get each i) same ∙ at.sent.1 client within)) (λ fault why. elim why [
      | inl n ↦ subst (λ f. CannotHappen f cast s (events.Open client)) (sym n.0) (passed_by (is_client cast client) NoSuchParty _ known ∙ stopped_by (is_shut s client) NotClosed _ n.1)
      | inr (inl l) ↦ subst (λ f. CannotHappen f cast s (events.Open client)) (sym l.0) (passed_by (is_client cast client) NoSuchParty _ known ∙ passed_by (is_shut s client) NotClosed None l.1, λ few. omega (arith, few, l.2))
      | inr (inr is) ↦ starved_cause cast s (events.Open client) fault is
    ])

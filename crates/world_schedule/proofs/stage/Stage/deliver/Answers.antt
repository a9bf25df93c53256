use Rattle.std.proofs.Common.{◌≡◌, ◌∙◌, true, Some, List, length, get_or, sym, ap, subst}
use Rattle.std.specs.Prelude.{slice_get, nat_lt, is_some}
use Rattle.std.proofs.lemmas.Option.{slice_get-get_or}
use Rattle.protocol.specs.Messages.{Body}
use Rattle.world_parties.specs.Cast.{Cast, setting_of, is_correct}
use Rattle.world_schedule.proofs.Saying.{no_body}
use Rattle.world_schedule.proofs.InTurn.{at_some, less_of}
use Rattle.world_schedule.proofs.Happenings.{delivered, passed_by}
use Rattle.world_schedule.proofs.Causes.{cause_from, unknown_at, starved_cause, stopped_by, no_some}
use Rattle.world_parties.specs.declared.fault.FaultNumber.TheVariants.{NoSuchMessage, OutOfMemory}
use Rattle.world_schedule.specs.declared.event.Event.TheVariants as events
use Rattle.world_schedule.proofs.stage.Stage.deliver.Goals as goal

pub returns-clause-ok : goal.returns-clause-ok
returns-clause-ok c = λ cast w at.
    let numbered : List Body = w.scene.standing.numbered in
    let i = c.args.number in
    let known : nat_lt i (length numbered) ≡ true = sym (c.get.ensures.known (setting_of cast) numbered at.holds) ∙ ap (λ o. is_some o) c.in-Some.is in
    let b : Body = get_or numbered i no_body in
    let here : slice_get numbered i ≡ Some b = slice_get-get_or numbered i no_body (less_of i (length numbered) known) in
    let k = at_some _ c.get.result c.in-Some.posted (c.get.ensures.some (setting_of cast) numbered b at.holds here) c.in-Some.is in
    let framed = c.deref-2.ensures.value ∙ c.in_ok-frame.ensures.items_if_clones_equal (λ x y z. z) ∙ c.deref.ensures.value ∙ k.0 in
    let correct : is_correct cast c.args.validator ≡ true = subst (λ (x : Cast). is_correct x c.args.validator ≡ true) at.parties c.in_ok-to.ensures.ok.1 in
    delivered cast w i c.args.validator c.in_ok-to.to b c.deref-2.result.now c.args.self.now c.meet.new.self c.note.new.self (c.in_ok-meet.ensures.met cast w at) c.in_ok-to.ensures.ok.0 framed here known correct c.in_ok-note.ensures

pub returns-in_default-clause-cause : goal.returns-in_default-clause-cause
returns-in_default-clause-cause c = λ cast w at.
    let numbered : List Body = w.scene.standing.numbered in
    stopped_by (nat_lt c.args.number (length numbered)) NoSuchMessage _ (sym (c.get.ensures.known (setting_of cast) numbered at.holds) ∙ no_some c.get.result c.in_default.not-Some)

pub returns-in_err-to-clause-cause : goal.returns-in_err-to-clause-cause
returns-in_err-to-clause-cause c = λ cast w at.
    let numbered : List Body = w.scene.standing.numbered in
    let known : nat_lt c.args.number (length numbered) ≡ true = sym (c.get.ensures.known (setting_of cast) numbered at.holds) ∙ ap (λ o. is_some o) c.in-Some.is in
    cause_from _ c.from_residual.result _ c.from_residual.ensures.1 (unknown_at c.args.self.now.parties cast w.scene.standing (events.Deliver c.args.number c.args.validator) c.args.validator _ _ at.parties (passed_by _ NoSuchMessage _ known) c.in_err-to.ensures.err)

pub returns-in_err-frame-clause-cause : goal.returns-in_err-frame-clause-cause
returns-in_err-frame-clause-cause c = λ cast w at. cause_from _ c.from_residual-in_err-frame.result OutOfMemory c.from_residual-in_err-frame.ensures.1 tt

pub returns-in_err-note-clause-cause : goal.returns-in_err-note-clause-cause
returns-in_err-note-clause-cause c = λ cast w at. cause_from _ c.from_residual-in_err-note.result OutOfMemory c.from_residual-in_err-note.ensures.1 tt

pub returns-in_err-meet-clause-cause : goal.returns-in_err-meet-clause-cause
returns-in_err-meet-clause-cause c = λ cast w at. cause_from _ c.from_residual-in_err-meet.result _ c.from_residual-in_err-meet.ensures.1 (starved_cause cast w.scene.standing (events.Deliver c.args.number c.args.validator) c.in_err-meet.field-0.0 c.in_err-meet.ensures.err)

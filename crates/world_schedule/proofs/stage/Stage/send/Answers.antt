use Rattle.std.proofs.Common.{◌≡◌, ◌∙◌, ◌<◌, ℕ, true, set, ap, subst, false, refl, inl, inr, sym}
use Rattle.std.specs.Prelude.{slice_get, not}
use Rattle.messages.specs.Framing.{SpellsFrame, IsMessage}
use Rattle.messages.proofs.MessageFormats.{frame_again}
use Rattle.protocol.specs.Values.{Item, Op, left_by}
use Rattle.protocol.specs.Messages.{Body, tagged}
use Rattle.protocol.specs.World.{next_item}
use Rattle.world_parties.specs.Cast.{Cast, setting_of, is_client}
use Rattle.world_schedule.specs.Reports.{said_as, stands_in, is_shut}
use Rattle.world_schedule.proofs.Clauses.{at_ok}
use Rattle.world_schedule.proofs.InTurn.{less_of}
use Rattle.world_schedule.proofs.Happenings.{sends, passed_by, wanted_same}
use Rattle.world_schedule.proofs.Causes.{cause_from, party_cause, unencoded_cause, starved_cause, stopped_by}
use Rattle.world_parties.specs.declared.fault.FaultNumber.TheVariants.{NoSuchParty, ClientClosed}
use Rattle.world_schedule.specs.Events.{CannotHappen}
use Rattle.world_schedule.specs.declared.event.Event.TheVariants as events
use Rattle.world_schedule.proofs.stage.Stage.send.Goals as goal

item_of : (a b c d e f : ℕ) (op : Op) → a ≡ b → c ≡ d → e ≡ f → (let x : Item = record { client = a; session = c; number = e; op = op } in x) ≡ record { client = b; session = d; number = f; op = op }
item_of a b c d e f op i j k = cc

pub returns-in-Ok-clause-ok : goal.returns-in-Ok-clause-ok
returns-in-Ok-clause-ok c = λ cast w at.
    let client = c.args.client in
    let op = c.args.op.now in
    let session = c.in_ok-session.session in
    let number = c.in_ok-session.number in
    let each = c.args.self.now.clients.each.items in
    let s = w.scene.standing in
    let t : Item = next_item client op (s.sent client) in
    let same : c.in_ok-sender.sender ≡ client = c.in_ok-sender.ensures.ok.0 in
    let known : is_client cast client ≡ true = subst (λ (x : Cast). is_client x client ≡ true) at.parties c.in_ok-sender.ensures.ok.1 in
    let within : client < cast.clients = less_of client cast.clients known in
    let next = c.in_ok-session.ensures.ok (stands_in s client) (ap (λ i. slice_get each i) same ∙ at.sent.1 client within) in
    let wanted = wanted_same s client in
    let is_item : record { client = c.in_ok-sender.sender; session = session; number = number; op = op } ≡ t = item_of c.in_ok-sender.sender client session t.session number t.number op same (next.0 ∙ wanted.0) (next.1 ∙ wanted.1) in
    let body : Body = said_as t in
    let spelled : SpellsFrame c.in_ok-frame.frame.items (tagged (setting_of cast) body) = subst (λ (x : Item). SpellsFrame c.in_ok-frame.frame.items (tagged (setting_of cast) (said_as x))) is_item
    (subst (λ (x : Cast). SpellsFrame c.in_ok-frame.frame.items (tagged (setting_of x) (said_as (record { client = c.in_ok-sender.sender; session = session; number = number; op = op })))) at.parties c.in_ok-frame.ensures.frame) in
    let says = at_ok _ c.tell_message.result (c.tell_message.ensures (setting_of cast) s.numbered body at.holds (c.deref.ensures.value ∙ spelled.same) (frame_again (tagged (setting_of cast) body) spelled.lawful)) c.in-Ok.is in
    sends cast w client op c.args.self.now c.tell_message.new.self c.note.new.self at known within next.2 spelled.lawful says
    (c.note.ensures ∙ ap (λ (x : Item). set each x.client (left_by x)) is_item)

pub returns-in_err-sender-clause-cause : goal.returns-in_err-sender-clause-cause
returns-in_err-sender-clause-cause c = λ cast w at.
    cause_from _ c.from_residual.result _ c.from_residual.ensures.1 (party_cause cast w.scene.standing (events.Send c.args.client c.args.op.now) (is_client cast c.args.client) _ c.in_err-sender.field-0.0 refl c.in_err-sender.ensures.err.0
    (subst (λ (x : Cast). is_client x c.args.client ≡ false) at.parties c.in_err-sender.ensures.err.1))

pub returns-in_err-session-clause-cause : goal.returns-in_err-session-clause-cause
returns-in_err-session-clause-cause c = λ cast w at.
    let client = c.args.client in
    let s = w.scene.standing in
    let fault = c.in_err-session.field-0.0 in
    let same : c.in_ok-sender.sender ≡ client = c.in_ok-sender.ensures.ok.0 in
    let known : is_client cast client ≡ true = subst (λ (x : Cast). is_client x client ≡ true) at.parties c.in_ok-sender.ensures.ok.1 in
    let why = c.in_err-session.ensures.err (stands_in s client) (ap (λ i. slice_get c.args.self.now.clients.each.items i) same ∙ at.sent.1 client (less_of client cast.clients known)) in
    let cause : CannotHappen fault cast w.scene.standing (events.Send c.args.client c.args.op.now) = elim why [
      | inl k ↦ subst (λ f. CannotHappen f cast w.scene.standing (events.Send c.args.client c.args.op.now)) (sym k.0) (passed_by (is_client cast client) NoSuchParty _ known ∙ stopped_by (not (is_shut s client)) ClientClosed _ (ap not k.1))
      | inr is ↦ starved_cause cast w.scene.standing (events.Send c.args.client c.args.op.now) fault is
    ] in
    cause_from _ c.from_residual-in_err-session.result _ c.from_residual-in_err-session.ensures.1 cause

pub returns-in_err-frame-clause-cause : goal.returns-in_err-frame-clause-cause
returns-in_err-frame-clause-cause c = λ cast w at.
    let client = c.args.client in
    let s = w.scene.standing in
    let same : c.in_ok-sender.sender ≡ client = c.in_ok-sender.ensures.ok.0 in
    let known : is_client cast client ≡ true = subst (λ (x : Cast). is_client x client ≡ true) at.parties c.in_ok-sender.ensures.ok.1 in
    let next = c.in_ok-session.ensures.ok (stands_in s client) (ap (λ i. slice_get c.args.self.now.clients.each.items i) same ∙ at.sent.1 client (less_of client cast.clients known)) in
    let session = c.in_ok-session.session in
    let number = c.in_ok-session.number in
    let op = c.args.op.now in
    let t : Item = next_item client op (s.sent client) in
    let wanted = wanted_same s client in
    let is_item : record { client = c.in_ok-sender.sender; session = session; number = number; op = op } ≡ t = item_of c.in_ok-sender.sender client session t.session number t.number op same (next.0 ∙ wanted.0) (next.1 ∙ wanted.1) in
    cause_from _ c.from_residual-in_err-frame.result _ c.from_residual-in_err-frame.ensures.1 (unencoded_cause cast w.scene.standing (events.Send c.args.client c.args.op.now) _ c.in_err-frame.field-0.0 (passed_by (is_client cast client) NoSuchParty _ known ∙ passed_by (not (is_shut s client)) ClientClosed _ (ap not next.2))
    (λ fits. subst (λ (x : Cast). IsMessage (tagged (setting_of x) (said_as (record { client = c.in_ok-sender.sender; session = session; number = number; op = op })))) (sym at.parties) (subst (λ (x : Item). IsMessage (tagged (setting_of cast) (said_as x))) (sym is_item) fits))
    c.in_err-frame.ensures.err)

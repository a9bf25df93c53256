use Rattle.std.proofs.Common.{◌<◌, ◌∙◌, sym, ap, List, [], ◌∷◌, ◌++◌, arith}
use Rattle.protocol.specs.Rules.{is_stamp}
use Rattle.std.proofs.lemmas.List.{append-nil}
use Rattle.protocol.specs.Messages.{Signed, below}
use Rattle.round_states.specs.Steps.{signed_with}
use Rattle.round_states.proofs.Certificates.{one_more, first_there}
use Rattle.round_states.proofs.state.State.certificate.Goals as goal
use Rattle.round_states.proofs.state.State.certificate.Goals.{in-None, in-Some+in_ok-push-in-Some}

pub loop-sender-init : goal.loop-sender-init
unfolding below
loop-sender-init c = c.new-precommits.ensures.items

pub loop-sender-preserved : goal.loop-sender-preserved
loop-sender-preserved c =
    let more = one_more (signed_with c.args.self.now c.args.own_tags.now c.args.round c.args.id) c.loop-sender.sender in
    elim c.match-branch-2.branch [
      | in-None w ↦ rw (w.precommits-is, more, ← rw w.in-None.is at c.in_ok-signed_by.ensures) (c.loop-sender.invariant ∙ sym (append-nil _))
      | in-Some+in_ok-push-in-Some w ↦ rw (w.precommits-is, more, ← rw w.in-Some.is at c.in_ok-signed_by.ensures) (w.in_ok-push-in-Some.ensures.items ∙ ap (λ (so_far : List Signed). so_far ++ w.in-Some.precommit ∷ []) c.loop-sender.invariant)
    ]

pub signed_by-requires : goal.signed_by-requires
signed_by-requires c =
    let sender = c.loop-sender.sender in
    let lt : sender < 128 = omega (arith, c.loop-sender-test.true, c.count-sender-end.ensures.count, c.count-sender-end.ensures.lawful.few) in
    let place = c.first_stamps-firsts.ensures sender lt in
    rw (← c.self.view_is) ((rw (c.from.ensures, place, c.deref.ensures.value, c.deref-in-loop-sender.ensures.value) at c.stamp_at-first.ensures) ∙ first_there (is_stamp c.args.round c.args.id sender) c.self.inside.stamps.items)

use Rattle.std.proofs.Common.{◌≡◌, List, Err, None, sym, ap, subst, ◌∙◌, option_map}
use Rattle.std.proofs.lemmas.Result.{err_from_is_err_and}
use Rattle.protocol.specs.State.{State, Queue}
use Rattle.protocol.specs.Refusals.{NotQueued, tx_causes, first_cause}
use Rattle.proposal_validity.specs.Standing.{IsFrontierOf}
use Rattle.mempool.specs.Answers.{IsAnswer as IsSubmitAnswer}
use Rattle.node_core.specs.Core.{Core, setting_of}
use Rattle.protocol.specs.Answers.{IsRefusal, of_submit}
use Rattle.node_core.specs.Seen.{seen}
use Rattle.node_core.proofs.Known.{known}
use Rattle.node_core.proofs.Sound.{sound_queued}
use Rattle.node_core.proofs.Answering.{first_answering, submit_refused}
use Rattle.node_core.proofs.Telling.{tells_itself, submit_other}
use Rattle.node_core.proofs.node.NodeCore.take_tx.Goals as goal

pub returns-in_err-submit_found-clause-answer : goal.returns-in_err-submit_found-clause-answer
returns-in_err-submit_found-clause-answer g c =
    let core : Core = seen c.self.inside in
    let p = err_from_is_err_and c.from_residual.result c.from_residual.ensures.1 in
    rw (← c.self.view_is, p.1, p.2) (λ n s.
    let tx = record c.args.tx { tags = c.args.tags } in
    let causes = tx_causes (setting_of core) core.machine.me n.state.delivered n.queues tx in
    let frontier = subst (λ (x : State). IsFrontierOf x.delivered c.frontier-frontier.result.now) s.state c.frontier-frontier.ensures in
    let answer = c.in_err-submit_found.ensures.answer (setting_of core) core.machine.me n.state.delivered (known core c.self.invariant) frontier in
    let there = subst (λ (qs : List Queue). IsSubmitAnswer (first_cause (tx_causes (setting_of core) core.machine.me n.state.delivered qs tx)) (Err c.in_err-submit_found.field-0.0)) s.queues answer in
    subst (λ o. IsRefusal o (of_submit c.in_err-submit_found.field-0.0)) (sym (first_answering NotQueued causes)) (submit_refused (first_cause causes) c.in_err-submit_found.field-0.0 there))

pub invariant_of-self-2 : goal.invariant_of-self-2
invariant_of-self-2 g c =
    let core : Core = seen c.self.inside in
    let none = c.in_ok-submit_found.ensures.answer (setting_of core) core.machine.me core.machine.state.delivered (known core c.self.invariant) c.frontier-frontier.ensures in
    rw c.in_ok-submit_found.ensures.ok (sound_queued core (record c.args.tx { tags = c.args.tags }) core.machine.state.delivered c.self.invariant (record { body = record { client = c.requires.body.client; session = c.requires.body.session; first = c.requires.body.first; last = c.requires.body.last; op = c.requires.body.op }; tags = c.requires.tags }) none)

pub returns-clause-answer : goal.returns-clause-answer
returns-clause-answer g c =
    let core : Core = seen c.self.inside in
    rw (← c.self.view_is) (λ n s.
    let tx = record c.args.tx { tags = c.args.tags } in
    let frontier = subst (λ (x : State). IsFrontierOf x.delivered c.frontier-frontier.result.now) s.state c.frontier-frontier.ensures in
    let none = c.in_ok-submit_found.ensures.answer (setting_of core) core.machine.me n.state.delivered (known core c.self.invariant) frontier in
    let there = subst (λ (qs : List Queue). first_cause (tx_causes (setting_of core) core.machine.me n.state.delivered qs tx) ≡ None) s.queues none in
    first_answering NotQueued (tx_causes (setting_of core) core.machine.me n.state.delivered n.queues tx) ∙ ap (option_map NotQueued) there)

pub returns-in_err-submit_found-clause-journal : goal.returns-in_err-submit_found-clause-journal
returns-in_err-submit_found-clause-journal g c =
    let p = err_from_is_err_and c.from_residual.result c.from_residual.ensures.1 in
    rw (← c.self.view_is, p.1, p.2) (tells_itself _ c.self.inside.journal (submit_other c.in_err-submit_found.field-0.0))

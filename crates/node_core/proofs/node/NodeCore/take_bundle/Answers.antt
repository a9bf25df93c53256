use Rattle.std.proofs.Common.{refl, sym, ◌∙◌, arith}
use Rattle.std.proofs.lemmas.Result.{err_from_is_err_and}
use Rattle.protocol.proofs.Judging.{judge_law}
use Rattle.node_core.specs.Core.{Core, setting_of}
use Rattle.node_core.specs.Seen.{seen}
use Rattle.node_core.proofs.Known.{known, powers_setting}
use Rattle.node_core.proofs.Judged.{judged_some, judged_none}
use Rattle.node_core.proofs.Telling.{tells_itself, judge_other, unfired_answer, unfired_result, same_refused}
use Rattle.node_core.proofs.node.NodeCore.take_bundle.Goals as goal

pub returns-in_err-judge-clause-answer : goal.returns-in_err-judge-clause-answer
returns-in_err-judge-clause-answer g c =
    let core : Core = seen c.self.inside in
    let p = err_from_is_err_and c.from_residual.result c.from_residual.ensures.1 in
    let verdict = c.in_err-judge.ensures (setting_of core) core.machine.me core.machine.state.delivered (powers_setting core ∙ sym c.powers.ensures) (known core c.self.invariant) c.frontier.ensures in
    rw (← c.self.view_is, p.1, p.2) (judged_some (setting_of core) core.machine.me core.machine.state c.args.bundle c.in_err-judge.field-0.0 (c.if-bundle-height.false ∙ c.height.ensures.height) (omega (arith, c.if-bundle-ge-MOST_HEIGHT.false, c.if-bundle-height.false, c.height.ensures.height)) verdict)

pub decide-requires : goal.decide-requires
decide-requires g c = λ κs l.
    let verdict = c.in_ok-judge.ensures (setting_of (seen c.self.inside)) c.self.inside.state.me c.self.inside.state.state.delivered (powers_setting (seen c.self.inside) ∙ sym c.powers.ensures) (known (seen c.self.inside) c.self.invariant) c.frontier.ensures in
    (l, (c.requires.running, (refl, (rw (← c.self.view_is) ((judge_law (setting_of (seen c.self.inside)) c.self.inside.state.me c.self.inside.state.state c.args.bundle (omega (arith, c.if-bundle-ge-MOST_HEIGHT.false, c.if-bundle-height.false, c.height.ensures.height)) (c.if-bundle-height.false ∙ c.height.ensures.height)).0 verdict), c.requires.spelled))))

pub returns-clause-answer : goal.returns-clause-answer
returns-clause-answer g c =
    let core : Core = seen c.self.inside in
    let verdict = c.in_ok-judge.ensures (setting_of core) core.machine.me core.machine.state.delivered (powers_setting core ∙ sym c.powers.ensures) (known core c.self.invariant) c.frontier.ensures in
    unfired_answer _ c.decide.result _ _ (rw (← c.self.view_is) (judged_none (setting_of core) core.machine.me core.machine.state c.args.bundle (c.if-bundle-height.false ∙ c.height.ensures.height) (omega (arith, c.if-bundle-ge-MOST_HEIGHT.false, c.if-bundle-height.false, c.height.ensures.height)) verdict)) c.decide.ensures.err

pub returns-in_err-judge-clause-journal : goal.returns-in_err-judge-clause-journal
returns-in_err-judge-clause-journal g c =
    let p = err_from_is_err_and c.from_residual.result c.from_residual.ensures.1 in
    rw (← c.self.view_is, p.1, p.2) (tells_itself _ c.self.inside.journal (judge_other c.in_err-judge.field-0.0))

pub returns-in_err-judge-clause-err : goal.returns-in_err-judge-clause-err
returns-in_err-judge-clause-err g c =
    let p = err_from_is_err_and c.from_residual.result c.from_residual.ensures.1 in
    rw (p.1) (same_refused p.0 _ _ refl)

pub returns-clause-err : goal.returns-clause-err
returns-clause-err g c = unfired_result c.decide.result _ _ c.decide.ensures.err

pub returns-in_err-judge-clause-broken : goal.returns-in_err-judge-clause-broken
returns-in_err-judge-clause-broken g c =
    let p = err_from_is_err_and c.from_residual.result c.from_residual.ensures.1 in
    rw (p.1, p.2) (λ is. absurd (judge_other c.in_err-judge.field-0.0 cc))

use Rattle.std.proofs.Common.{◌≡◌, All, List, IfSome, map, option_to_list, refl, sym, ap, subst, ◌∙◌}
use Rattle.std.proofs.lemmas.List.{map-append}
use Rattle.std.proofs.lemmas.Result.{err_from_is_err_and}
use Rattle.messages.specs.Grammar.{IsBody}
use Rattle.protocol.specs.Rules.{fired, saved, released_by}
use Rattle.round_machine.specs.Naming.{rule_of}
use Rattle.round_states.specs.Plans.{says}
use Rattle.node_core.specs.Core.{Core, context_of, frame_by}
use Rattle.state_journal.specs.Saving.{of_unfired}
use Rattle.node_core.specs.Seen.{seen}
use Rattle.protocol.specs.Messages.{Bundle}
use Rattle.protocol.specs.Queues.{pick}
use Rattle.node_core.specs.Firing.{IsReady, decided_by, IsNarrow}
use Rattle.node_core.proofs.Spelled.{AreDecided, rule_decided}
use Rattle.node_core.proofs.Recorded.{rule_may_fire, decided_height, unsaid}
use Rattle.node_core.proofs.Unsaid.{unfired_tells, unfired_core, unfired_sound}
use Rattle.node_core.proofs.Firings.{IsFiredTo, MayFire, fired_to, fired_once, fired_sound, written_serves, pending_decided, decided_in}
use Rattle.node_core.proofs.node.NodeCore.fire.Given as given
use Rattle.protocol.specs.declared.refusal.Refusal.TheVariants as answers
use Rattle.node_core.proofs.Broken.{unfired_broken, rule_broken}
use Rattle.node_core.proofs.node.NodeCore.fire.Goals as goal

-- what is prepared
ready : (g : given.Over) (c : goal.After-note g) → IsReady (seen {S = g.row.S.Denot} c.self.inside) c.args.rule c.in_ok-plan.field-0
ready g c = subst (λ (n : Core). IsReady n c.args.rule c.in_ok-plan.field-0) (sym c.self.view_is) c.in_ok-plan.ensures

made : (g : given.Over) (c : goal.After-note g) → IsFiredTo (rule_of c.self.inside.state.state c.args.rule) (seen {S = g.row.S.Denot} c.self.inside)
    (seen {S = g.row.S.Denot} (record { alloc = c.self.inside.alloc; ring = c.self.inside.ring; state = c.carry_out.new.state; mempool = c.note.new.mempool; decisions = c.note.new.decisions; said = c.note.new.own; journal = c.carry_out.new.journal; outgoing = c.push_one.new.list; scheduled = c.push_one-2.new.list; fired = c.self.inside.fired }))
made g c =
    let core : Core = seen c.self.inside in
    let is = ready g c in
    let done = c.in_ok-said.ensures in
    let frame = c.released.ensures ∙ is.frame in
    fired_to (rule_of core.machine.state c.args.rule) core _ (pick core.queues) c.in_ok-plan.field-0.plan c.in_ok-said.field-0.said c.in_ok-said.field-0.timeout refl
    is.says is.moves is.timeout is.agrees
    done.state refl done.said done.timeout
    c.note.ensures.queues
    (rw c.make_room.ensures.decisions at c.note.ensures.decisions)
    (rw (c.push_one.ensures, c.make_room.ensures.outgoing, map-append, frame) refl)
    (rw c.make_room.ensures.scheduled at c.push_one-2.ensures)
    (rw c.make_room.ensures.said at c.note.ensures.own)
    done.wrote

-- what was decided, if anything
decided : (g : given.Over) (c : goal.After-note g) → AreDecided (seen c.self.inside) (decided_in (saved (context_of (seen c.self.inside)) (pick (seen c.self.inside).queues) c.self.inside.state.state (rule_of c.self.inside.state.state c.args.rule)))
decided g c =
    let core : Core = seen c.self.inside in
    let is = ready g c in
    let decided = ap decided_by c.in_ok-said.ensures.said ∙ pending_decided core.machine.me (says c.in_ok-plan.field-0.plan) ∙ ap decided_in is.says in
    rule_decided core c.self.invariant (pick core.queues) c.args.rule is.fit (subst (λ (bs : List Bundle). All IsNarrow bs) decided c.note.ensures.narrow)

-- what is released can be spelled
spelled : (g : given.Over) (c : goal.After-note g) → IfSome (released_by c.self.inside.state.me (saved (context_of (seen c.self.inside)) (pick (seen c.self.inside).queues) c.self.inside.state.state (rule_of c.self.inside.state.state c.args.rule))) IsBody
spelled g c = let is = ready g c in subst (λ o. IfSome (released_by c.self.inside.state.me o) IsBody) is.says is.body

may : (g : given.Over) (c : goal.After-note g) → MayFire (rule_of c.self.inside.state.state c.args.rule) (seen c.self.inside)
may g c =
    let core : Core = seen c.self.inside in
    rule_may_fire core c.self.invariant (rw (← c.self.view_is) at c.requires.1.1.0) c.args.rule (ready g c).fit (rw (← c.self.view_is) at c.requires.1.1.1.1.1) (spelled g c) (decided g c).spelled

pub returns-clause-ok : goal.returns-clause-ok
returns-clause-ok g c = rw (← c.self.view_is) (λ n s. fired_once n _ _ _ (made g c) (may g c) s)

pub returns-clause-journal : goal.returns-clause-journal
returns-clause-journal g c = rw (← c.self.view_is) (written_serves _ _ _ (made g c).journal)

pub invariant_of-self-2 : goal.invariant_of-self-2
invariant_of-self-2 g c = let a = decided g c in fired_sound (rule_of c.self.inside.state.state c.args.rule) (seen c.self.inside) _ (made g c) (may g c) a.spelled a.own (spelled g c)

pub returns-clause-state : goal.returns-clause-state
returns-clause-state g c = subst (λ (n : Core). c.carry_out.new.state.state ≡ fired (context_of n) (pick n.queues) n.machine.state (rule_of n.machine.state c.args.rule)) c.self.view_is (made g c).state

pub carry_out-requires-clause-place : goal.carry_out-requires-clause-place
carry_out-requires-clause-place g c = (subst (λ (n : Core). IsReady n c.args.rule c.in_ok-plan.field-0) (sym c.self.view_is) c.in_ok-plan.ensures).place

pub carry_out-requires-clause-spelled : goal.carry_out-requires-clause-spelled
carry_out-requires-clause-spelled g c = rw c.self.invariant.journal (subst (λ (n : Core). IsReady n c.args.rule c.in_ok-plan.field-0) (sym c.self.view_is) c.in_ok-plan.ensures).record_of

pub released-requires : goal.released-requires
released-requires g c =
    let is = subst (λ (n : Core). IsReady n c.args.rule c.in_ok-plan.field-0) (sym c.self.view_is) c.in_ok-plan.ensures in
    λ none. is.frame ∙ ap (λ o. map (frame_by (seen c.self.inside)) (option_to_list o)) (unsaid c.self.inside.state.me (says c.in_ok-plan.field-0.plan) (sym c.in_ok-said.ensures.said ∙ none))

pub note-requires-clause-height : goal.note-requires-clause-height
note-requires-clause-height g c =
    let core : Core = seen c.self.inside in
    let s = core.machine.state in
    let k = rule_of s c.args.rule in
    let is = subst (λ (n : Core). IsReady n c.args.rule c.in_ok-plan.field-0) (sym c.self.view_is) c.in_ok-plan.ensures in
    rw (c.in_ok-said.ensures.said, pending_decided core.machine.me (says c.in_ok-plan.field-0.plan), is.says, c.make_room.ensures.decisions, c.self.invariant.decided) (decided_height (context_of core) (pick core.queues) s k (rw (← c.self.view_is) at c.requires.1.1.1.1.1))

pub returns-in_err-said-clause-journal : goal.returns-in_err-said-clause-journal
returns-in_err-said-clause-journal g c =
    let p = err_from_is_err_and c.from_residual-in_err-said.result c.from_residual-in_err-said.ensures.1 in
    let running = rw (← c.self.view_is) at c.requires.1.1.0 in
    rw (← c.self.view_is, p.1, p.2) (unfired_tells _ c.in_err-said.field-0.0 c.self.inside.journal c.carry_out.new.journal running c.in_err-said.ensures.unwritten)

pub returns-in_err-said-clause-err : goal.returns-in_err-said-clause-err
returns-in_err-said-clause-err g c =
    let p = err_from_is_err_and c.from_residual-in_err-said.result c.from_residual-in_err-said.ensures.1 in
    let room = c.make_room.ensures in
    rw (← c.self.view_is, p.1, p.2, c.in_err-said.ensures.err, room.outgoing, room.scheduled, room.decisions, room.said)
    (unfired_core _ c.in_err-said.field-0.0 (seen c.self.inside) c.carry_out.new.journal c.in_err-said.ensures.unwritten)

pub invariant_of-self-in_err-said : goal.invariant_of-self-in_err-said
invariant_of-self-in_err-said g c =
    let room = c.make_room.ensures in
    rw (c.in_err-said.ensures.err, room.outgoing, room.scheduled, room.decisions, room.said)
    (unfired_sound _ c.in_err-said.field-0.0 (seen c.self.inside) c.carry_out.new.journal c.self.invariant c.in_err-said.ensures.unwritten)

-- the record was not saved for the device
pub returns-in_err-said-clause-broken : goal.returns-in_err-said-clause-broken
returns-in_err-said-clause-broken g c =
    let p = err_from_is_err_and c.from_residual-in_err-said.result c.from_residual-in_err-said.ensures.1 in
    let core : Core = seen c.self.inside in
    let e = c.in_err-said.field-0.0 in
    let is = subst (λ (n : Core). IsReady n c.args.rule c.in_ok-plan.field-0) (sym c.self.view_is) c.in_ok-plan.ensures in
    let body = subst (λ o. IfSome (released_by core.machine.me o) IsBody) is.says is.body in
    rw (← c.self.view_is, p.1, p.2) (λ now.
    let failed : of_unfired e ≡ answers.JournalFailed = cc in
    let b = unfired_broken (says c.in_ok-plan.field-0.plan) e core.journal c.carry_out.new.journal c.in_err-said.ensures.unwritten failed in
    rule_broken core c.self.invariant (rw (← c.self.view_is) at c.requires.1.1.0) c.args.rule is.fit (rw (← c.self.view_is) at c.requires.1.1.1.1.1) body c.carry_out.new.journal b.0 (sym is.says ∙ b.1) b.2)

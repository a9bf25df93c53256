use Rattle.std.proofs.Common.{◌≡◌, refl, sym, ap, subst, ◌∙◌}
use Rattle.std.proofs.lemmas.List.{append-nil}
use Rattle.std.proofs.lemmas.Result.{err_from_is_err_and}
use Rattle.protocol.specs.Queues.{pick}
use Rattle.protocol.specs.State.{DecideByBundle}
use Rattle.protocol.specs.Rules.{changed, saved, scheduled, released_by}
use Rattle.round_machine.specs.Bundling.{Came}
use Rattle.round_states.specs.Machine.{Agrees}
use Rattle.round_states.specs.Plans.{says, moved, applied}
use Rattle.node_core.specs.Core.{Core, context_of, setting_of}
use Rattle.state_journal.specs.Saving.{of_unfired}
use Rattle.node_core.specs.Seen.{seen}
use Rattle.node_core.proofs.Known.{known, few_setting}
use Rattle.node_core.proofs.Firings.{IsFiredTo, MayFire, fired_to, fired_once, fired_sound, written_serves, pending_decided}
use Rattle.node_core.proofs.Recorded.{bundle_may_fire, decided_height}
use Rattle.node_core.proofs.Unsaid.{unfired_tells, unfired_core, unfired_sound}
use Rattle.node_core.proofs.Spelled.{bundle_decided}
use Rattle.node_core.proofs.node.NodeCore.decide.Given as given
use Rattle.protocol.specs.declared.refusal.Refusal.TheVariants as answers
use Rattle.node_core.proofs.Broken.{unfired_broken, bundle_broken}
use Rattle.node_core.proofs.node.NodeCore.decide.Goals as goal

pub plan_by_bundle-requires : goal.plan_by_bundle-requires
plan_by_bundle-requires g c =
    let core : Core = seen c.self.inside in
    let holds = rw (← c.self.view_is) at c.requires.1.1.1.0 in
    let cut = c.in_ok-certificate.ensures in
    let same = cut.cut (setting_of core) core.machine.me (known core c.self.invariant) in
    let came = rw (← c.self.view_is) at c.requires.1.1.0 in
    (rw came c.self.invariant.agrees, (rw came holds, (rw came same, (cut.spelled (setting_of core) core.machine.me (known core c.self.invariant) (few_setting core c.self.invariant) c.requires.1.1.1.1).value)))

-- what the plan says
saying : (g : given.Over) (c : goal.After-note g) → says c.in_ok-plan.plan ≡ saved (context_of (seen {S = g.row.S.Denot} c.self.inside)) (pick (seen {S = g.row.S.Denot} c.self.inside).queues) c.self.inside.state.state (DecideByBundle c.args.bundle)
saying g c =
    let core : Core = seen {S = g.row.S.Denot} c.self.inside in
    let came = rw (← c.self.view_is) at c.requires.1.1.0 in
    subst (λ (x : Came). says c.in_ok-plan.plan ≡ saved x.context (pick core.queues) core.machine.state (DecideByBundle x.bundle)) came (c.in_ok-plan.ensures.says (pick core.queues))

made : (g : given.Over) (c : goal.After-note g) → IsFiredTo (DecideByBundle c.args.bundle) (seen {S = g.row.S.Denot} c.self.inside)
    (seen {S = g.row.S.Denot} (record { alloc = c.self.inside.alloc; ring = c.self.inside.ring; state = c.carry_out.new.state; mempool = c.note.new.mempool; decisions = c.note.new.decisions; said = c.note.new.own; journal = c.carry_out.new.journal; outgoing = c.make_room.new.outgoing; scheduled = c.push_one.new.list; fired = c.self.inside.fired }))
made g c =
    let core : Core = seen c.self.inside in
    let s = core.machine.state in
    let came = rw (← c.self.view_is) at c.requires.1.1.0 in
    let p = c.in_ok-plan in
    let done = c.in_ok-said.ensures in
    let released = ap (released_by core.machine.me) (saying g c) in
    fired_to (DecideByBundle c.args.bundle) core _ (pick core.queues) p.plan c.in_ok-said.field-0.said c.in_ok-said.field-0.timeout refl
    (saying g c)
    (subst (λ (x : Came). moved s p.plan.change ≡ changed s (DecideByBundle x.bundle)) came p.ensures.moves)
    (subst (λ (x : Came). p.plan.timeout ≡ scheduled x.context s (DecideByBundle x.bundle)) came p.ensures.timeout)
    (subst (λ (x : Came). Agrees x.context (applied core.machine p.plan)) came p.ensures.agrees)
    done.state refl done.said done.timeout
    c.note.ensures.queues
    (rw c.make_room.ensures.decisions at c.note.ensures.decisions)
    (rw (c.make_room.ensures.outgoing, released) (sym (append-nil _)))
    (rw c.make_room.ensures.scheduled at c.push_one.ensures)
    (rw c.make_room.ensures.said at c.note.ensures.own)
    done.wrote

pub carry_out-requires-clause-spelled : goal.carry_out-requires-clause-spelled
carry_out-requires-clause-spelled g c = rw c.self.invariant.journal (rw (← c.self.view_is) at c.in_ok-record.ensures.record)

pub note-requires-clause-height : goal.note-requires-clause-height
note-requires-clause-height g c =
    let core : Core = seen c.self.inside in
    let v = pick core.queues in
    let s = core.machine.state in
    let came = rw (← c.self.view_is) at c.requires.1.1.0 in
    let saying = subst (λ (x : Came). says c.in_ok-plan.plan ≡ saved x.context v s (DecideByBundle x.bundle)) came (c.in_ok-plan.ensures.says v) in
    rw (c.in_ok-said.ensures.said, pending_decided core.machine.me (says c.in_ok-plan.plan), saying, c.make_room.ensures.decisions, c.self.invariant.decided) (decided_height (context_of core) v s (DecideByBundle c.args.bundle) (rw (← c.self.view_is) at c.requires.1.1.1.0))

may : (g : given.Over) (c : goal.After-note g) → MayFire (DecideByBundle c.args.bundle) (seen {S = g.row.S.Denot} c.self.inside)
may g c =
    let core : Core = seen c.self.inside in
    bundle_may_fire core c.self.invariant (rw (← c.self.view_is) at c.requires.1.0) c.args.bundle (rw (← c.self.view_is) at c.requires.1.1.1.0) (bundle_decided core c.self.invariant (pick core.queues) c.args.bundle c.requires.1.1.1.1).spelled

pub returns-clause-ok : goal.returns-clause-ok
returns-clause-ok g c = rw (← c.self.view_is) (λ n s. fired_once n _ _ _ (made g c) (may g c) s)

pub returns-clause-journal : goal.returns-clause-journal
returns-clause-journal g c = rw (← c.self.view_is) (written_serves (saved (context_of (seen c.self.inside)) (pick (seen c.self.inside).queues) c.self.inside.state.state (DecideByBundle c.args.bundle)) _ _ (made g c).journal)

pub invariant_of-self-2 : goal.invariant_of-self-2
invariant_of-self-2 g c =
    let core : Core = seen c.self.inside in
    let a = bundle_decided core c.self.invariant (pick core.queues) c.args.bundle c.requires.1.1.1.1 in
    fired_sound (DecideByBundle c.args.bundle) core _ (made g c) (may g c) a.spelled a.own tt

pub returns-in_err-said-clause-journal : goal.returns-in_err-said-clause-journal
returns-in_err-said-clause-journal g c =
    let p = err_from_is_err_and c.from_residual-in_err-said.result c.from_residual-in_err-said.ensures.1 in
    let running = rw (← c.self.view_is) at c.requires.1.0 in
    rw (← c.self.view_is, p.1, p.2) (unfired_tells _ c.in_err-said.field-0.0 c.self.inside.journal c.carry_out.new.journal running c.in_err-said.ensures.unwritten)

pub returns-in_err-said-clause-err : goal.returns-in_err-said-clause-err
returns-in_err-said-clause-err g c =
    let p = err_from_is_err_and c.from_residual-in_err-said.result c.from_residual-in_err-said.ensures.1 in
    rw (← c.self.view_is, p.1, p.2, c.in_err-said.ensures.err, c.make_room.ensures.outgoing, c.make_room.ensures.scheduled, c.make_room.ensures.decisions, c.make_room.ensures.said)
    (unfired_core _ c.in_err-said.field-0.0 (seen c.self.inside) c.carry_out.new.journal c.in_err-said.ensures.unwritten)

pub invariant_of-self-in_err-said : goal.invariant_of-self-in_err-said
invariant_of-self-in_err-said g c =
    rw (c.in_err-said.ensures.err, c.make_room.ensures.outgoing, c.make_room.ensures.scheduled, c.make_room.ensures.decisions, c.make_room.ensures.said)
    (unfired_sound _ c.in_err-said.field-0.0 (seen c.self.inside) c.carry_out.new.journal c.self.invariant c.in_err-said.ensures.unwritten)

-- the record was not saved for the device
pub returns-in_err-said-clause-broken : goal.returns-in_err-said-clause-broken
returns-in_err-said-clause-broken g c =
    let p = err_from_is_err_and c.from_residual-in_err-said.result c.from_residual-in_err-said.ensures.1 in
    let core : Core = seen c.self.inside in
    let s = core.machine.state in
    let v = pick core.queues in
    let e = c.in_err-said.field-0.0 in
    let came = rw (← c.self.view_is) at c.requires.1.1.0 in
    let saying = subst (λ (x : Came). says c.in_ok-plan.plan ≡ saved x.context v s (DecideByBundle x.bundle)) came (c.in_ok-plan.ensures.says v) in
    rw (← c.self.view_is, p.1, p.2) (λ is.
    let failed : of_unfired e ≡ answers.JournalFailed = cc in
    let b = unfired_broken (says c.in_ok-plan.plan) e core.journal c.carry_out.new.journal c.in_err-said.ensures.unwritten failed in
    bundle_broken core c.self.invariant (rw (← c.self.view_is) at c.requires.1.0) c.args.bundle c.requires.1.1.1.1 (rw (← c.self.view_is) at c.requires.1.1.1.0) c.carry_out.new.journal b.0 (sym saying ∙ b.1) b.2)

use Rattle.std.proofs.Common.{◌≡◌, true, false, refl, sym, subst, ◌∙◌}
use Rattle.std.proofs.lemmas.Result.{on_ok_weaker}
use Rattle.protocol.specs.State.{TimedOut}
use Rattle.protocol.specs.Rules.{holds}
use Rattle.node_core.specs.Core.{Core, context_of}
use Rattle.node_core.specs.Seen.{seen}
use Rattle.node_core.proofs.Due.{due_fired, due_passed}
use Rattle.std.proofs.Common.{List}
use Rattle.protocol.specs.Messages.{Record}
use Rattle.node_core.specs.Core.{setting}
use Rattle.node_core.specs.Calls.{Leaves}
use Rattle.node_core.proofs.Broken.{firing_cut}
use Rattle.node_core.proofs.node.NodeCore.fire_due.Goals as goal

pub fire-requires : goal.fire-requires
fire-requires g c = λ κs l.
    let h = sym (c.holds_timeout.ensures (context_of (seen c.self.inside))) ∙ c.if-holds_timeout.true in
    (l.0, (l.1, (c.requires.running, (refl, (tt, subst (λ (x : Core). holds (context_of x) x.machine.state (TimedOut c.args.timeout) ≡ true) c.self.view_is h)))))

pub returns-then-holds_timeout-clause-ok : goal.returns-then-holds_timeout-clause-ok
returns-then-holds_timeout-clause-ok g c =
    let h = sym (c.holds_timeout.ensures (context_of (seen c.self.inside))) ∙ c.if-holds_timeout.true in
    let there = subst (λ (x : Core). holds (context_of x) x.machine.state (TimedOut c.args.timeout) ≡ true) c.self.view_is h in
    on_ok_weaker c.fire.result (λ once n s. due_fired n c.args.timeout c.args.self.now c.fire.new.self s there (once n s)) c.fire.ensures.ok

pub returns-else-holds_timeout-clause-ok : goal.returns-else-holds_timeout-clause-ok
returns-else-holds_timeout-clause-ok g c =
    let h = sym (c.holds_timeout.ensures (context_of (seen c.self.inside))) ∙ c.if-holds_timeout.false in
    let there = subst (λ (x : Core). holds (context_of x) x.machine.state (TimedOut c.args.timeout) ≡ false) c.self.view_is h in
    λ n s. due_passed n c.args.timeout c.args.self.now s there

pub returns-then-holds_timeout-clause-broken : goal.returns-then-holds_timeout-clause-broken
unfolding setting
returns-then-holds_timeout-clause-broken g c = λ is n s.
    let old : Core = c.args.self.now in
    let h = sym (c.holds_timeout.ensures (context_of (seen c.self.inside))) ∙ c.if-holds_timeout.true in
    let there = subst (λ (x : Core). holds (context_of x) x.machine.state (TimedOut c.args.timeout) ≡ true) c.self.view_is h in
    subst (λ (l : List Record). Leaves old.machine.powers old.machine.me n.journal l c.fire.new.self.journal) (sym (firing_cut old n (TimedOut c.args.timeout) s refl there)) (c.fire.ensures.broken is n s)

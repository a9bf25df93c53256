use Rattle.std.proofs.Common.{◌≡◌, ◌++◌, ◌∙◌, ap, refl, true}
use Rattle.protocol.specs.Rules.{decided}
use Rattle.protocol.specs.State.{fresh}
use Rattle.protocol.specs.Values.{items, valid}
use Rattle.round_states.specs.Machine.{Machine}
use Rattle.round_states.specs.Seen.{delivered_by, seen}
use Rattle.round_states.proofs.Deciding.{valid_after, delivered_more}
use Rattle.round_states.proofs.Restarting.{decision_restarts, next_height}
use Rattle.round_states.proofs.state.State.replay_decision.Goals as goal

pub extend-requires-clause-valid : goal.extend-requires-clause-valid
extend-requires-clause-valid c = λ d a.
    let holds : valid (delivered_by c.self.inside.decided.items) c.args.value.now ≡ true = rw (← c.self.view_is) at c.requires.valid in
    rw c.in_ok-value.ensures (valid_after c.self.inside.frontier c.args.value.now _ d c.requires.fits c.self.invariant.frontier a holds)

pub returns-clause-restarts : goal.returns-clause-restarts
returns-clause-restarts c = λ before b same is.
    let s = (seen c.self.inside).state in
    let v = c.args.value.now in
    let none : s ≡ fresh s.delivered s.height = rw (← c.self.view_is) at c.requires.fresh in
    let more : delivered_by c.push_reserved.new.self.items ≡ s.delivered ++ items v = rw (c.push_reserved.ensures.items, delivered_more, c.reserve.ensures.items, c.in_ok-value.ensures) refl in
    rw c.forget_reserved.ensures (next_height s (delivered_by c.push_reserved.new.self.items) v none more)
    ∙ ap (λ (m : Machine). decided m.state v) c.self.view_is
    ∙ decision_restarts c.args.self.now.me b v before c.args.self.now.state same is

use Rattle.std.proofs.Common.{◌≡◌, true}
use Rattle.protocol.specs.Values.{valid}
use Rattle.round_states.specs.Seen.{delivered_by}
use Rattle.round_states.proofs.Deciding.{valid_after}
use Rattle.round_states.proofs.state.State.extended.Goals as goal

pub extend-requires-clause-valid : goal.extend-requires-clause-valid
extend-requires-clause-valid c = λ d a.
    let holds : valid (delivered_by c.self.inside.decided.items) c.args.value.now ≡ true = rw (← c.self.view_is) at c.requires.valid in
    valid_after c.self.inside.frontier c.args.value.now _ d c.requires.fits c.self.invariant.frontier (rw c.in_ok-frontier.ensures at a) holds

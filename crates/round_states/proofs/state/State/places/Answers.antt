use Rattle.std.proofs.Common.{map}
use Rattle.round_states.specs.Found.{proposal_in}
use Rattle.round_states.proofs.ByRound.{places_within}
use Rattle.round_states.proofs.state.State.places.Goals as goal

pub returns-clause-within : goal.returns-clause-within
returns-clause-within c = rw (c.places_at.ensures, c.self.invariant.places c.args.round, ← c.self.view_is) (places_within c.args.round (map proposal_in c.self.inside.kept.items))

use Rattle.std.proofs.Common.{refl}
use Rattle.round_states.proofs.Keeping.{kept_more}
use Rattle.round_states.proofs.state.State.keep_own.Goals as goal

pub invariant_of-self : goal.invariant_of-self
invariant_of-self c =
    let a = c.self.inside in
    kept_more a c.keep_in_room.new.kept a.kept c.keep_in_room.new.places a.places c.keep_in_room.new.tally a.tally c.args.found c.args.proposal a.tally.ready c.self.invariant (rw (← c.self.view_is) at c.requires.found) c.requires.same
    refl c.keep_in_room.ensures.kept (λ r. refl) c.keep_in_room.ensures.places refl c.keep_in_room.ensures.tally

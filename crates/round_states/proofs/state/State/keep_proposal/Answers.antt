use Rattle.std.proofs.Common.{◌∙◌, sym}
use Rattle.round_states.proofs.Keeping.{kept_more}
use Rattle.round_states.proofs.state.State.keep_proposal.Goals as goal

pub invariant_of-self-3 : goal.invariant_of-self-3
invariant_of-self-3 c =
    kept_more c.self.inside c.keep_in_room.new.kept c.make_room_for.new.kept c.keep_in_room.new.places c.make_room_for.new.places c.keep_in_room.new.tally c.make_room_for.new.tally c.found-found.result c.in_ok-copy.copy _ c.self.invariant c.found-found.ensures.found (c.in_ok-copy.ensures ∙ sym c.found-found.ensures.proposal)
    c.make_room_for.ensures.kept c.keep_in_room.ensures.kept c.make_room_for.ensures.places c.keep_in_room.ensures.places (rw c.forget_reserved.ensures at c.in_ok-make_room_for.ensures.ok) c.keep_in_room.ensures.tally

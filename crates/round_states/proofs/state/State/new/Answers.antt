use Rattle.std.proofs.Common.{rules, sym}
use Rattle.round_states.proofs.ByRound.{no_places}
use Rattle.round_states.proofs.state.State.new.Goals as goal

pub invariant_of-result : goal.invariant_of-result
invariant_of-result c = record {
  proposals = search rules;
  places = λ r. rw (c.new-3.ensures.empty, c.new-2.ensures.items) (sym (no_places r));
  found = search rules;
  frontier = search rules;
  stage = search rules;
  height = search rules;
  valid_value = search rules;
  ready = search rules;
  room = tt;
}

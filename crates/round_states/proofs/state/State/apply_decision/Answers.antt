use Rattle.std.proofs.Common.{◌≡◌, ◌<◌, ◌^◌, ◌++◌, sym, ◌∙◌, ap, List, map, rules, arith}
use Rattle.proposal_validity.specs.Standing.{IsFrontierOf}
use Rattle.protocol.specs.Values.{items}
use Rattle.vote_tally.specs.Kept.{Kept}
use Rattle.round_states.specs.declared.state.KeptProposal.{KeptProposal}
use Rattle.round_states.specs.Found.{proposal_in}
use Rattle.round_states.specs.Seen.{delivered_by}
use Rattle.round_states.proofs.Deciding.{delivered_more, none_found}
use Rattle.round_states.proofs.ByRound.{no_places}
use Rattle.round_states.proofs.state.State.apply_decision.Goals as goal

pub invariant_of-self : goal.invariant_of-self
invariant_of-self c =
    let small : c.self.inside.height < 2 ^ 48 = rw (← c.self.view_is) at c.requires.small in
    let frontier : IsFrontierOf (delivered_by c.self.inside.decided.items ++ items c.args.value) c.args.frontier = rw (← c.self.view_is) at c.requires.frontier in
    record {
      proposals = ap (λ (k : Kept). k.proposals) c.clear.ensures ∙ sym (ap (λ (ks : List KeptProposal). map proposal_in ks) c.clear-2.ensures.items);
      places = λ r. rw (c.clear-3.ensures.empty, c.clear-2.ensures.items) (sym (no_places r));
      found = none_found _ _ c.clear-2.ensures.items;
      frontier = rw (c.push_reserved.ensures.items, delivered_more) frontier;
      stage = search rules;
      height = omega (arith, small);
      valid_value = tt;
      ready = ap (λ (k : Kept). k.ready) c.clear.ensures;
      room = tt;
    }

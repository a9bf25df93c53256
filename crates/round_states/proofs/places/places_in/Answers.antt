use Rattle.std.proofs.Common.{◌≡◌, ◌∙◌, ◌+◌, ◌++◌, ◌∷◌, [], sym, ap, map, take, get_or, length, List, arith}
use Rattle.std.proofs.lemmas.List.{take_more, length-take-le}
use Rattle.round_states.specs.Found.{proposal_in}
use Rattle.round_states.specs.Places.{places_of}
use Rattle.round_states.specs.declared.state.KeptProposal.{KeptProposal}
use Rattle.round_states.proofs.ByRound.{no_places, places_kept}
use Rattle.round_states.proofs.places.places_in.Goals as goal

pub loop-place-init : goal.loop-place-init
loop-place-init c = λ r. rw c.new-places.ensures.empty (sym (no_places r))

pub loop-place-preserved : goal.loop-place-preserved
loop-place-preserved c = λ r.
    let n = c.loop-place.place in
    let ks = c.args.kept.now in
    let k = c.index-kept-place.result in
    let at : n ≡ length (take n ks) = sym (length-take-le n ks (omega (arith, c.loop-place-test.true))) in
    let last : take (n + 1) ks ≡ take n ks ++ get_or ks n k ∷ [] = take_more ks n k c.loop-place-test.true in
    let more : take (n + 1) ks ≡ take n ks ++ k ∷ [] = last ∙ ap (λ (x : KeptProposal). take n ks ++ x ∷ []) (sym c.index-kept-place.is) in
    places_kept r n _ _ _ (take n ks) k (rw (← c.index-kept-place.is) at c.add_place.ensures r) (c.make_room.ensures.same r) (c.loop-place.invariant r) at
    ∙ ap (λ (xs : List KeptProposal). places_of r (map proposal_in xs)) (sym more)

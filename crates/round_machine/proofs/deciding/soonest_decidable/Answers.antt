use Rattle.std.proofs.Common.{◌≡◌, ◌+◌, ◌++◌, ◌∷◌, [], List, ℕ, take, get_or, option_map, ap, sym, subst}
use Rattle.std.proofs.lemmas.List.{take_more, take_all}
use Rattle.protocol.specs.Order.{is_decidable, soonest}
use Rattle.round_states.specs.Steps.{nowhere}
use Rattle.round_machine.specs.declared.deciding.Place.{Place}
use Rattle.round_machine.proofs.Soonest.{IsBest, one_round, soonest_of, decidable_in}
use Rattle.round_machine.proofs.deciding.soonest_decidable.Goals as goal

pub loop-round-preserved : goal.loop-round-preserved
loop-round-preserved c =
    let s = c.args.state.now.state in
    let rounds = c.decisive-round-items.result.now in
    let n = c.loop-round.round-index in
    let more : take (n + 1) rounds ≡ take n rounds ++ get_or rounds n 0 ∷ [] = take_more rounds n 0 c.loop-round-test.true in
    rw (more, c.sooner-best.ensures) (one_round (is_decidable c.args.state.now.powers s) s.proposals (take n rounds) c.loop-round.best (get_or rounds n 0) c.first_place-found.result c.first_place-found.ensures c.loop-round.invariant)

pub returns-in-None-clause-soonest : goal.returns-in-None-clause-soonest
returns-in-None-clause-soonest c =
    let powers = c.args.state.now.powers in
    let s = c.args.state.now.state in
    let rounds = c.decisive-round-items.result.now in
    let all : take c.loop-round.round-index rounds ≡ rounds = take_all c.loop-round.round-index rounds c.loop-round-test.false in
    let best = subst (λ (rs : List ℕ). IsBest (is_decidable powers s) s.proposals rs c.loop-round.best) all c.loop-round.invariant in
    let told = rw c.tally.ensures at c.decisive-round-items.ensures.each in
    rw c.in-None.is at (soonest_of (is_decidable powers s) s.proposals rounds c.loop-round.best best (λ j lt t. decidable_in powers c.args.state.now.me s rounds told (get_or s.proposals j nowhere) t))

pub returns-in-Some-clause-soonest : goal.returns-in-Some-clause-soonest
returns-in-Some-clause-soonest c =
    let powers = c.args.state.now.powers in
    let s = c.args.state.now.state in
    let rounds = c.decisive-round-items.result.now in
    let all : take c.loop-round.round-index rounds ≡ rounds = take_all c.loop-round.round-index rounds c.loop-round-test.false in
    let best = subst (λ (rs : List ℕ). IsBest (is_decidable powers s) s.proposals rs c.loop-round.best) all c.loop-round.invariant in
    let told = rw c.tally.ensures at c.decisive-round-items.ensures.each in
    rw c.in-Some.is at (soonest_of (is_decidable powers s) s.proposals rounds c.loop-round.best best (λ j lt t. decidable_in powers c.args.state.now.me s rounds told (get_or s.proposals j nowhere) t))

pub returns-in-Some-clause-placed : goal.returns-in-Some-clause-placed
returns-in-Some-clause-placed c = (rw c.in-Some.is at c.loop-round.invariant.one).within

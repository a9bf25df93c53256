use Rattle.std.proofs.Common.{◌≡◌, ◌≤◌, ◌∙◌, ℕ, List, None, length, find, take, sym, ap, arith}
use Rattle.std.proofs.lemmas.List.{take_all}
use Rattle.round_states.specs.Steps.{proposal_at}
use Rattle.round_machine.specs.Judging.{is_sought}
use Rattle.round_machine.proofs.InRound.{found_here, none_yet, first_of_round}
use Rattle.round_machine.proofs.seeking.first_place.Goals as goal

pub returns-then-is_sought : goal.returns-then-is_sought
returns-then-is_sought c =
    let powers = c.args.state.now.powers in
    let s = c.args.state.now.state in
    let test = λ (i : ℕ). is_sought powers s c.args.sought (proposal_at s i) in
    let here = found_here test c.places-place-items.result.now c.loop-place.place-index c.loop-place-test.true c.loop-place.invariant (sym c.is_sought.ensures ∙ c.if-is_sought.true) in
    sym here ∙ ap (λ (xs : List ℕ). find test xs) c.places-place-items.ensures.places ∙ first_of_round (is_sought powers s c.args.sought) c.args.round s.proposals

pub loop-place-preserved : goal.loop-place-preserved
loop-place-preserved c =
    let powers = c.args.state.now.powers in
    let s = c.args.state.now.state in
    none_yet (λ (i : ℕ). is_sought powers s c.args.sought (proposal_at s i)) c.places-place-items.result.now c.loop-place.place-index c.loop-place-test.true c.loop-place.invariant (sym c.is_sought.ensures ∙ c.if-is_sought.false)

pub returns : goal.returns
returns c =
    let powers = c.args.state.now.powers in
    let s = c.args.state.now.state in
    let test = λ (i : ℕ). is_sought powers s c.args.sought (proposal_at s i) in
    let xs = c.places-place-items.result.now in
    let all : take c.loop-place.place-index xs ≡ xs = take_all c.loop-place.place-index xs (omega (arith, c.loop-place-test.false)) in
    let none : find test xs ≡ None = ap (λ (ys : List ℕ). find test ys) (sym all) ∙ c.loop-place.invariant in
    sym none ∙ ap (λ (ys : List ℕ). find test ys) c.places-place-items.ensures.places ∙ first_of_round (is_sought powers s c.args.sought) c.args.round s.proposals

use Rattle.std.proofs.Common.{◌≡◌, None, find, take}
use Rattle.round_states.specs.Steps.{proposal_at}
use Rattle.round_machine.specs.Judging.{is_sought}
use Rattle.round_machine.proofs.seeking.first_place.Given as goal

abbrev pub invariant-loop-place : goal.invariant-loop-place
invariant-loop-place l = find (λ i. is_sought l.state.powers l.state.state l.sought (proposal_at l.state.state i)) (take l.place-index l.place-items) ≡ None

use Rattle.std.proofs.Common.{◌≡◌}
use Rattle.std.specs.List.{flat_map}
use Rattle.protocol.specs.Messages.{below}
use Rattle.round_states.specs.Steps.{signed_with}
use Rattle.round_states.proofs.state.State.certificate.Given as goal

abbrev pub invariant-loop-sender : goal.invariant-loop-sender
invariant-loop-sender l = l.precommits.items ≡ flat_map (signed_with l.self l.own_tags l.round l.id) (below l.sender)

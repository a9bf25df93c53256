use Rattle.std.proofs.Common.{take}
use Rattle.protocol.specs.Order.{is_decidable}
use Rattle.round_machine.proofs.Soonest.{IsBest}
use Rattle.round_machine.proofs.deciding.soonest_decidable.Given as goal

abbrev pub invariant-loop-round : goal.invariant-loop-round
invariant-loop-round l = IsBest (is_decidable l.state.powers l.state.state) l.state.state.proposals (take l.round-index l.round-items) l.best

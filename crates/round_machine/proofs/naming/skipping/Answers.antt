use Rattle.std.proofs.Common.{ap, Option, ℕ, option_map}
use Rattle.protocol.specs.State.{SkipRound}
use Rattle.round_machine.proofs.naming.skipping.Goals as goal

pub returns-in_err-round-clause-rule : goal.returns-in_err-round-clause-rule
returns-in_err-round-clause-rule c = rw c.from_residual.ensures (rw c.in_err-round.was at (ap (λ (o : Option ℕ). option_map SkipRound o) c.highest_weak.ensures))

pub returns-clause-rule : goal.returns-clause-rule
returns-clause-rule c = rw c.in_ok-round.was at (ap (λ (o : Option ℕ). option_map SkipRound o) c.highest_weak.ensures)

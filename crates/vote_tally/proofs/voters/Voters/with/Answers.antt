use Rattle.std.proofs.Common.{arith}
use Rattle.vote_tally.proofs.Raising.{with_has}
use Rattle.vote_tally.proofs.voters.Voters.with.Goals as goal

pub returns-then-from-lt-MOST_VALIDATORS : goal.returns-then-from-lt-MOST_VALIDATORS
returns-then-from-lt-MOST_VALIDATORS c = λ i lt. with_has c.args.self.bits c.args.validator i (omega (arith, c.from.ensures, c.if-from-lt-MOST_VALIDATORS.true)) lt

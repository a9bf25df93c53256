use Rattle.std.proofs.Common.{arith}
use Rattle.authenticators.proofs.Numbers.{number_in-large}
use Rattle.authenticators.proofs.key_line.number_in.Goals as goal

pub returns-then-number-from : goal.returns-then-number-from
returns-then-number-from c =
    number_in-large c.loop-digit.digit-index c.args.digits.now c.loop-digit.number c.loop-digit-test.true (omega arith) c.loop-digit.invariant

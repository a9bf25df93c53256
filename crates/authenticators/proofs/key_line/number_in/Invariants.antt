use Rattle.authenticators.proofs.Numbers.{IsRead}
use Rattle.authenticators.proofs.key_line.number_in.Given as goal

abbrev pub invariant-loop-digit : goal.invariant-loop-digit
invariant-loop-digit l = IsRead l.digit-index l.digits l.number

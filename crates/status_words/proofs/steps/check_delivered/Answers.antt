use Rattle.std.proofs.Common.{arith}
use Rattle.status_words.proofs.Moves.{checks_delivered_at}
use Rattle.status_words.proofs.steps.check_delivered.Goals as goal

pub load-requires : goal.load-requires
load-requires c = let p = c.requires.pass in (p.0.0, omega (arith, p.0.2), checks_delivered_at _ _ _ p.0.1 p.1)

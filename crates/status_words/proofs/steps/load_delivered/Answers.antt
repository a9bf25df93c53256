use Rattle.std.proofs.Common.{arith}
use Rattle.status_words.proofs.Moves.{loads_delivered_at}
use Rattle.status_words.proofs.steps.load_delivered.Goals as goal

pub load-requires : goal.load-requires
load-requires c = let p = c.requires.seat in (p.0.0, omega (arith, p.0.2), loads_delivered_at _ _ _ p.0.1 p.1)

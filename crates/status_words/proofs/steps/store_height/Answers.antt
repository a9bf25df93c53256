use Rattle.std.proofs.Common.{arith}
use Rattle.status_words.proofs.Moves.{stores_height_at}
use Rattle.status_words.proofs.steps.store_height.Goals as goal

pub store-requires : goal.store-requires
store-requires c = let p = c.requires.pass in (p.0.0, omega (arith, p.0.2), stores_height_at _ _ _ _ p.0.1 p.1 c.requires.later)

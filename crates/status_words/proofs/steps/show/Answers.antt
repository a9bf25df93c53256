use Rattle.std.proofs.Common.{arith}
use Rattle.status_words.proofs.Moves.{shows}
use Rattle.status_words.proofs.steps.show.Goals as goal

pub join_seat-requires : goal.join_seat-requires
join_seat-requires c = let p = c.requires.pass in let n = c.requires.note in (p.0, n.0, n.1, omega (arith, n.2), shows _ _ _ _)

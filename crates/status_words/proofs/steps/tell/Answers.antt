use Rattle.std.proofs.Common.{arith}
use Rattle.status_words.proofs.Moves.{tells}
use Rattle.status_words.proofs.steps.tell.Goals as goal

pub join_seat-requires : goal.join_seat-requires
join_seat-requires c = let s = c.requires.seat in let n = c.requires.note in (s.0.0, n.0, n.1, omega (arith, n.2), tells _ _ _ _ s.1)

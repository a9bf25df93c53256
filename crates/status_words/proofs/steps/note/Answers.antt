use Rattle.std.proofs.Common.{arith}
use Rattle.status_words.proofs.Moves.{notes}
use Rattle.status_words.proofs.steps.note.Goals as goal

pub split_seat-requires : goal.split_seat-requires
split_seat-requires c = (c.requires.from.0, omega (arith, c.requires.from.2), notes _ _)

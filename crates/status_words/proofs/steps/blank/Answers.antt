use Rattle.std.proofs.Common.{arith}
use Rattle.status_words.proofs.Moves.{blanks}
use Rattle.status_words.proofs.steps.blank.Goals as goal

pub split_seat-requires : goal.split_seat-requires
split_seat-requires c = (c.requires.from.0, omega (arith, c.requires.from.2), blanks _ _)

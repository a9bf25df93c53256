use Rattle.status_words.proofs.Moves.{begins}
use Rattle.status_words.proofs.words.Opened.new.Goals as goal

pub of_words-requires : goal.of_words-requires
of_words-requires c = begins _ _

use Rattle.shared_headline.proofs.lives_law.Goals as goal
use Rattle.shared_headline.proofs.Lives.{lives_law}

pub returns : goal.returns
returns c = lives_law

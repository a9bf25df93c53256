use Rattle.authenticators.proofs.Laws.{given_law}
use Rattle.authenticators.proofs.given_law.Goals as goal

pub returns : goal.returns
returns c = given_law

use Rattle.fair_worlds.proofs.correct_calls_law.Goals as goal
use Rattle.fair_worlds.proofs.Callers.{correct_calls_law}

pub returns : goal.returns
returns c = correct_calls_law

use Rattle.unforged_worlds.proofs.unforged_law.Goals as goal
use Rattle.unforged_worlds.proofs.Unforged.{unforged_law}

pub returns : goal.returns
returns c = unforged_law

use Rattle.unforged_worlds.proofs.schedule_law.Goals as goal
use Rattle.unforged_worlds.proofs.Unforged.{schedule_law}

pub returns : goal.returns
returns c = schedule_law

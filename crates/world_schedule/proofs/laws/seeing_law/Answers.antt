use Rattle.world_schedule.proofs.Seeing.{seeing_law}
use Rattle.world_schedule.proofs.laws.seeing_law.Goals as goal

pub returns : goal.returns
returns c = seeing_law

use Rattle.world_schedule.proofs.Rings.{ring_law}
use Rattle.world_schedule.proofs.laws.ring_law.Goals as goal

pub returns : goal.returns
returns c = ring_law

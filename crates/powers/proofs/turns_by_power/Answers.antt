use Rattle.powers.proofs.Turns.{turns_by_power}
use Rattle.powers.proofs.turns_by_power.Goals as goal

pub returns : goal.returns
returns c = turns_by_power

use Rattle.powers.proofs.Turns.{equal_powers_in_turn}
use Rattle.powers.proofs.equal_powers_in_turn.Goals as goal

pub returns : goal.returns
returns c = equal_powers_in_turn

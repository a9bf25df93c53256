use Rattle.vote_tally.proofs.Told.{power_of_step}
use Rattle.vote_tally.proofs.Tally.power_any.Goals as goal

pub returns : goal.returns
returns c = rw (← c.self.view_is, c.total_at.ensures, c.of.ensures) (power_of_step c.self.invariant.0 c.args.round c.args.step)

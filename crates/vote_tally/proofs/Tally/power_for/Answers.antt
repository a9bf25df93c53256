use Rattle.vote_tally.proofs.Told.{power_of_content}
use Rattle.vote_tally.proofs.Tally.power_for.Goals as goal

pub returns : goal.returns
returns c = rw (← c.self.view_is, c.total_at.ensures, c.for_content.ensures) (power_of_content c.self.invariant.0 c.args.round c.args.step c.args.content)

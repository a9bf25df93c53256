use Rattle.vote_tally.specs.declared.totals.Topic.TheVariants.{Round}
use Rattle.vote_tally.proofs.Told.{power_told}
use Rattle.vote_tally.proofs.Tally.power_above.Goals as goal

pub returns : goal.returns
returns c = rw (← c.self.view_is, c.total_at.ensures) (power_told c.self.invariant.0 (Round c.args.round))

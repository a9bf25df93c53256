use Rattle.std.proofs.Common.{◌∙◌, sym}
use Rattle.vote_tally.proofs.Told.{not_proposed}
use Rattle.vote_tally.proofs.Tally.has_proposal.Goals as goal

pub returns-else-may_have_proposed : goal.returns-else-may_have_proposed
returns-else-may_have_proposed c = c.if-may_have_proposed.false ∙ sym (not_proposed c.args.proposal.now c.args.self.now.proposals (c.may_have_proposed.ensures c.if-may_have_proposed.false))

use Rattle.vote_tally.proofs.Told.{told_proposal}
use Rattle.vote_tally.proofs.Tally.keep_reserved_proposal.Goals as goal

pub invariant_of-self : goal.invariant_of-self
invariant_of-self c =
    let i = c.self.inside in
    rw (c.push_reserved.ensures.items, c.highest_with-self-inside.ensures)
    ((told_proposal i.powers i.proposals.items i.votes.items i.totals c.raise_proposal.new.totals i.counts c.count_one.new.counts i.heights i.highest c.args.proposal c.self.invariant.0 c.raise_proposal.ensures.totals c.raise_proposal.ensures.voters c.count_one.ensures), c.self.invariant.1, tt)

use Rattle.vote_tally.proofs.Raising.{raised_for_vote}
use Rattle.vote_tally.proofs.totals.raise_vote.Goals as goal

pub returns-clause-voters : goal.returns-clause-voters
returns-clause-voters c = λ t i lt.
    raised_for_vote t c.args.vote.now i _ _ _ _ (c.raise.ensures.voters t i lt) (rw c.of.ensures at (c.raise-2.ensures.voters t i lt)) (rw c.for_content-topic.ensures at (c.raise-3.ensures.voters t i lt))

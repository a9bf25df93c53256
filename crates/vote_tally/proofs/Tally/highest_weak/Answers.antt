use Rattle.vote_tally.specs.Kept.{Kept}
use Rattle.vote_tally.proofs.Highest.{highest_is}
use Rattle.vote_tally.proofs.Tally.highest_weak.Goals as goal

pub returns : goal.returns
returns c =
    let i = c.self.inside in
    let k : Kept = record { powers = i.powers; me = i.me; proposals = i.proposals.items; votes = i.votes.items; ready = i.ready } in
    rw (← c.self.view_is) (highest_is k i.highest c.self.invariant.0.highest)

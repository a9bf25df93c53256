use Rattle.vote_tally.proofs.Told.{told_nothing}
use Rattle.vote_tally.proofs.Decided.{decisive_nothing}
use Rattle.vote_tally.proofs.Tally.clear.Goals as goal

pub invariant_of-self : goal.invariant_of-self
invariant_of-self c = (told_nothing c.self.inside.powers _ _ _ _ c.self.invariant.0.small c.clear.ensures.items c.clear-2.ensures.items c.clear-3.ensures.empty c.none_counted-self-inside.ensures, decisive_nothing c.self.inside.powers _ _ c.clear-2.ensures.items c.clear-4.ensures.items, tt)

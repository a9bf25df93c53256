use Rattle.vote_tally.proofs.Told.{told_nothing}
use Rattle.vote_tally.proofs.Decided.{decisive_nothing}
use Rattle.vote_tally.proofs.Tally.new.Goals as goal

pub invariant_of-result : goal.invariant_of-result
invariant_of-result c = (told_nothing c.args.powers _ _ _ _ c.check_small.ensures c.new.ensures.items c.new-2.ensures.items c.new-3.ensures.empty c.none_counted.ensures, decisive_nothing c.args.powers _ _ c.new-2.ensures.items c.new-4.ensures.items, tt)

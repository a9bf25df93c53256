use Rattle.std.proofs.lemmas.List.{get_or-replicate}
use Rattle.vote_tally.proofs.counts.none_counted.Goals as goal

pub returns : goal.returns
returns c = λ i lt. get_or-replicate 128 i 0 0 lt

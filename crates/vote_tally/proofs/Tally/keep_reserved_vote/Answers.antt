use Rattle.std.proofs.Common.{Some}
use Rattle.vote_tally.specs.declared.totals.Topic.TheVariants.{PrecommitsFor}
use Rattle.vote_tally.proofs.Told.{told_vote, power_told}
use Rattle.vote_tally.proofs.Decided.{decisive_more}
use Rattle.vote_tally.proofs.Tally.keep_reserved_vote.Goals as goal

pub invariant_of-self : goal.invariant_of-self
invariant_of-self c =
    let i = c.self.inside in
    let told = told_vote i.powers i.proposals.items i.votes.items i.totals c.raise_vote.new.totals i.counts c.count_one.new.counts i.heights i.highest c.args.vote c.self.invariant.0 c.raise_vote.ensures.totals c.raise_vote.ensures.voters c.count_one.ensures in
    rw (c.push_reserved.ensures.items, c.with-self-inside.ensures, c.highest_with-self-inside.ensures, c.note.ensures)
    (told, decisive_more i.powers i.votes.items c.args.vote i.decisive.items c.raise_vote.new.totals c.self.invariant.1 (λ r x. power_told told (PrecommitsFor r (Some x))), tt)

use Rattle.std.proofs.Common.{sym, ap, Option}
use Rattle.std.specs.Prelude.{unwrap_or}
use Rattle.vote_tally.specs.declared.totals.Total.{Total}
use Rattle.vote_tally.specs.Totals.{nothing}
use Rattle.vote_tally.proofs.Raising.{raised_has}
use Rattle.vote_tally.proofs.totals.raise.Goals as goal

pub returns-in-Some-clause-voters : goal.returns-in-Some-clause-voters
returns-in-Some-clause-voters c = λ t i lt.
    raised_has c.args.totals.now (c.get_mut.follows.lender c.with.result) c.args.topic c.with.result c.in-Some.total.now c.args.validator
    (λ q. ((c.get_mut.follows.holds c.with.result).3 c.requires.room).0 q)
    (ap (λ (o : Option Total). unwrap_or o nothing) (sym c.in-Some.ensures.value)) c.with.ensures.voters t i lt

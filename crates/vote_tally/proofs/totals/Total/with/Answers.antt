use Rattle.std.proofs.Common.{◌∙◌, sym, arith}
use Rattle.vote_tally.specs.Totals.{has}
use Rattle.vote_tally.proofs.Raising.{total_with, within}
use Rattle.vote_tally.proofs.totals.Total.with.Goals as goal

pub overflow_add-result : goal.overflow_add-result
overflow_add-result c =
    let ps = c.args.powers.now in
    let e = total_with ps (has c.args.self.voters) (has c.with.result) c.args.validator c.args.self.power c.power_of.result c.requires.small.few c.requires.total (sym c.has.ensures ∙ c.if-has.false) c.with.ensures c.power_of.ensures in
    let l = within ps (has c.with.result) in
    omega (arith, e, l, c.requires.small.fits)

pub returns-clause-total : goal.returns-clause-total
returns-clause-total c = total_with c.args.powers.now (has c.args.self.voters) (has c.with.result) c.args.validator c.args.self.power c.power_of.result c.requires.small.few c.requires.total (sym c.has.ensures ∙ c.if-has.false) c.with.ensures c.power_of.ensures

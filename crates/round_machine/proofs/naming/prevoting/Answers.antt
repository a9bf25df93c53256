use Rattle.std.proofs.Common.{sym, ◌∙◌, ap, ℕ, Option}
use Rattle.round_machine.specs.Judging.{first_sought}
use Rattle.round_machine.specs.declared.seeking.Sought.TheVariants as soughts
use Rattle.round_machine.proofs.Stages.{prevoting_is, fresh_there}
use Rattle.round_machine.proofs.naming.prevoting.Goals as goal

pub returns-in_err-place-clause-rule : goal.returns-in_err-place-clause-rule
returns-in_err-place-clause-rule c =
    let is = rw c.round.ensures at c.first_place.ensures in
    rw c.from_residual.ensures (rw c.in_err-place.was at (prevoting_is c.args.state.now.powers c.args.state.now.state c.first_place.result is (sym c.is_at.ensures ∙ c.if-not-is_at.false)))

pub returns-clause-rule : goal.returns-clause-rule
returns-clause-rule c =
    let is = rw c.round.ensures at c.first_place.ensures in
    rw c.in_ok-place.was at (prevoting_is c.args.state.now.powers c.args.state.now.state c.first_place.result is (sym c.is_at.ensures ∙ c.if-not-is_at.false))

pub returns-clause-placed : goal.returns-clause-placed
returns-clause-placed c =
    let is = rw c.round.ensures at c.first_place.ensures in
    fresh_there c.args.state.now.powers c.args.state.now.state c.in_ok-place.place (sym is ∙ c.in_ok-place.was)

use Rattle.std.proofs.Common.{refl}
use Rattle.round_machine.proofs.Stages.{fresh_answers}
use Rattle.round_machine.proofs.content.fresh_content.Goals as goal

pub returns-then-is_fit : goal.returns-then-is_fit
returns-then-is_fit g c =
    let found = fresh_answers g.g c.args.state.now c.kept.result.now c.args.place c.index-kept-place.result c.requires.0 c.kept.ensures.proposals c.kept.ensures.genuine c.kept.ensures.found c.requires.1.0 c.requires.1.1 c.index-kept-place.is in
    let fit = rw c.lock.ensures at c.is_fit.ensures in
    rw (← found.0, ← fit, c.if-is_fit.true, found.1) refl

pub returns-else-is_fit : goal.returns-else-is_fit
returns-else-is_fit g c =
    let found = fresh_answers g.g c.args.state.now c.kept.result.now c.args.place c.index-kept-place.result c.requires.0 c.kept.ensures.proposals c.kept.ensures.genuine c.kept.ensures.found c.requires.1.0 c.requires.1.1 c.index-kept-place.is in
    let fit = rw c.lock.ensures at c.is_fit.ensures in
    rw (← found.0, ← fit, c.if-is_fit.false) refl

use Rattle.std.proofs.Common.{◌∙◌, ap, arith}
use Rattle.proposal_validity.specs.Standing.{standing, Standings}
use Rattle.proposal_validity.proofs.Growing.{grown}
use Rattle.proposal_validity.proofs.standing.grow.Goals as goal

pub returns-in_ok-resize-clause-same : goal.returns-in_ok-resize-clause-same
returns-in_ok-resize-clause-same c client = ap (λ (f : Standings). standing f client) c.in_ok-resize.ensures.items ∙ grown c.args.standings.now.items c.args.len _ client (omega arith)

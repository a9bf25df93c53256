use Rattle.std.proofs.Common.{sym, ◌∙◌}
use Rattle.node_core.specs.Core.{Core}
use Rattle.node_core.specs.Seen.{seen}
use Rattle.node_core.proofs.Firings.{node_of, kept_stands}
use Rattle.node_core.proofs.node.NodeCore.has_halted.Goals as goal

pub returns-clause-stands : goal.returns-clause-stands
returns-clause-stands g c = λ running.
    let core : Core = seen c.self.inside in
    let kept = c.self.invariant.kept (sym c.has_failed.ensures ∙ running) in
    rw (← c.self.view_is) (node_of core kept.records, kept_stands core kept)

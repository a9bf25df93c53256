use Rattle.std.proofs.Common.{◌||◌, is_some, ap}
use Rattle.node_core.specs.Core.{Core, setting_of}
use Rattle.node_core.specs.Seen.{seen}
use Rattle.node_core.proofs.Known.{known}
use Rattle.node_core.proofs.node.NodeCore.is_genuine.Goals as goal

pub returns-in-None : goal.returns-in-None
returns-in-None g c =
    let core : Core = seen c.self.inside in
    let right = c.is_genuine.ensures (setting_of core) core.machine.me (known core c.self.invariant) (λ t i. (c.self.invariant.waiting t i).1) in
    rw (← c.self.view_is) (ap (λ a. a || is_some c.args.proposal.now.valid_round) right)

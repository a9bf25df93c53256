use Rattle.std.proofs.Common.{refl}
use Rattle.node_core.specs.Core.{setting_of}
use Rattle.node_core.specs.Seen.{seen}
use Rattle.node_core.proofs.Known.{known}
use Rattle.node_core.proofs.Places.{kept_there}
use Rattle.node_core.proofs.node.NodeCore.input_of_decision.Goals as goal

pub returns-clause-handed : goal.returns-clause-handed
returns-clause-handed g c =
    let core = seen c.self.inside in
    let placed = rw (← c.self.view_is) at c.requires.placed in
    let there = kept_there core.machine.state c.kept.result.now c.args.place c.index-kept-place.result c.kept.ensures.proposals c.kept.ensures.found placed c.index-kept-place.is in
    let tags = c.in_ok-tags.ensures (setting_of core) core.machine.me (known core c.self.invariant) in
    rw (← c.self.view_is) (record { serves = λ _. rw (tags, c.height.ensures.height, ← there.same, there.found.id) refl; same = refl })

use Rattle.std.proofs.Common.{◌∷◌, [], sym, ap, ◌∙◌}
use Rattle.protocol.specs.Messages.{sender_of}
use Rattle.protocol.specs.Records.{act_of}
use Rattle.node_core.specs.Core.{Core, setting_of}
use Rattle.node_core.specs.Seen.{seen}
use Rattle.node_core.proofs.Firings.{act_own}
use Rattle.node_core.proofs.Known.{known}
use Rattle.node_core.proofs.node.NodeCore.spelled_own.Goals as goal

pub returns-clause-frame : goal.returns-clause-frame
returns-clause-frame g c =
    let core : Core = seen c.self.inside in
    let m = c.args.message.now in
    let body = rw (← c.self.view_is) at c.requires.body in
    let own = ap sender_of body ∙ act_own core.machine.me m.height m.round (act_of m.act) ∙ sym c.self.invariant.owner in
    rw (← c.self.view_is) (ap (λ frame. frame ∷ []) (c.in_ok-frame_of_body.ensures (setting_of core) core.machine.me c.args.body.now (known core c.self.invariant) own (c.deref-2.ensures.value ∙ c.in_ok-bytes.ensures.spelled)))

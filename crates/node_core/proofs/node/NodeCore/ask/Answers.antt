use Rattle.std.proofs.Common.{◌≡◌, map, refl, ap, ◌∙◌, ◌∷◌, [], ◌++◌}
use Rattle.protocol.specs.Messages.{OfAsk}
use Rattle.std.proofs.lemmas.List.{map-append}
use Rattle.node_core.specs.Core.{Core, setting_of, frame_by}
use Rattle.node_core.specs.Seen.{seen}
use Rattle.node_core.proofs.Known.{known}
use Rattle.node_core.proofs.node.NodeCore.ask.Goals as goal

pub returns-clause-ok : goal.returns-clause-ok
returns-clause-ok g c =
    let core : Core = seen c.self.inside in
    let asked : Core → Core = λ x. record x { outgoing = x.outgoing ++ frame_by x (OfAsk (record { height = x.machine.state.height; sender = x.machine.me })) ∷ [] } in
    let frame = c.in_ok-frame.ensures (setting_of core) core.machine.me (known core c.self.invariant) in
    let items = c.push_reserved.ensures.items ∙ ap (λ l. l ++ c.in_ok-frame.frame ∷ []) c.reserve.ensures.items in
    let first : record core { outgoing = map (λ frame. frame.items) c.push_reserved.new.self.items } ≡ asked core = rw (items, map-append, frame, c.height.ensures.height, c.me.ensures) refl in
    first ∙ ap asked (c.self.view_is ∙ c.in_ok-begin.ensures.new)

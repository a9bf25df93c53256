use Rattle.std.proofs.Common.{◌≡◌, map, refl, ap, ◌∙◌, ◌++◌, List}
use Rattle.std.proofs.lemmas.List.{map-append}
use Rattle.protocol.specs.Messages.{Body}
use Rattle.node_core.specs.Core.{Core, frame_by}
use Rattle.node_core.specs.Seen.{seen}
use Rattle.node_core.proofs.node.NodeCore.resend.Goals as goal

pub returns-clause-ok : goal.returns-clause-ok
returns-clause-ok g c = λ n stands.
    let core : Core = seen c.self.inside in
    let again : Core → List Body → Core = λ x said. record x { outgoing = x.outgoing ++ map (frame_by x) said } in
    let frames : map (λ frame. frame.items) c.in_ok-frames.frames.items ≡ map (frame_by core) core.said = rw (← c.self.view_is) at c.in_ok-frames.ensures in
    let first : record core { outgoing = map (λ frame. frame.items) c.append.new.self.items } ≡ again core core.said = rw (c.in_ok-append.ensures.items, map-append, frames) refl in
    first ∙ ap (λ (x : Core). again x x.said) (c.self.view_is ∙ c.in_ok-begin.ensures.new) ∙ ap (λ (said : List Body). record (again c.args.self.now said) { fired = 0 }) stands.said

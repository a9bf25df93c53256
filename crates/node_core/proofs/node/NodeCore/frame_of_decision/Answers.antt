use Rattle.std.proofs.Common.{◌≡◌, List, ◌∷◌, [], Some, map, sym, ap, subst, ◌∙◌}
use Rattle.std.specs.List.{slice_get}
use Rattle.protocol.specs.Messages.{Bundle, OfBundle}
use Rattle.height_catchup.specs.Kept.{IsInPlace}
use Rattle.node_core.specs.Core.{Core, setting_of, frame_by}
use Rattle.node_core.specs.Seen.{seen}
use Rattle.node_core.proofs.Known.{known}
use Rattle.node_core.proofs.Asks.{bundle_at}
use Rattle.node_core.proofs.node.NodeCore.frame_of_decision.Goals as goal

pub returns-in_ok-frame_with-in-Some-clause-frame : goal.returns-in_ok-frame_with-in-Some-clause-frame
returns-in_ok-frame_with-in-Some-clause-frame g c =
    let core : Core = seen c.self.inside in
    let frame = c.in_ok-frame_with-in-Some.ensures (setting_of core) core.machine.me (known core c.self.invariant) in
    let copied = c.in_ok-copy-in-Some.ensures in
    rw (← c.self.view_is) (λ n s.
    let placed = subst (λ (bs : List Bundle). IsInPlace bs) s.decisions c.len.ensures.placed in
    let found = subst (λ (bs : List Bundle). slice_get bs c.args.height ≡ Some c.in-Some.bundle.now) s.decisions (sym c.in-Some.ensures.place) in
    ap (λ bodies. map (frame_by core) bodies) (bundle_at n.journal c.args.height c.in-Some.bundle.now placed found) ∙ ap (λ b. frame_by core (OfBundle b) ∷ []) (sym copied) ∙ ap (λ f. f ∷ []) (sym frame))

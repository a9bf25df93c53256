use Rattle.std.proofs.Common.{◌≡◌, ℕ, suc, ◌+◌, ◌<◌, List, [], ◌∷◌, ◌++◌, map, take, length, get_or, sym, ap, ◌∙◌, arith}
use Rattle.std.proofs.Math.Seq.{take-suc}
use Rattle.protocol.specs.Messages.{Body}
use Rattle.node_core.specs.Core.{Core, setting_of, frame_by}
use Rattle.node_core.specs.Seen.{seen}
use Rattle.node_core.proofs.Known.{known}
use Rattle.node_core.proofs.Stepwise.{map_append}
use Rattle.node_core.proofs.node.NodeCore.frames_said.Goals as goal

pub loop-body-preserved : goal.loop-body-preserved
loop-body-preserved g c =
    let core : Core = seen c.self.inside in
    let k : ℕ = c.loop-body.body-index in
    let said : List Body = core.said in
    let x : Body = c.body-item.result in
    let same : c.deref-body-items.result.now ≡ said = c.deref-body-items.ensures.value in
    let within : k < length said = rw same at c.loop-body-test.true in
    let value : get_or said k x ≡ x = sym (rw same at c.body-item.is) in
    let at : take (suc k) said ≡ take k said ++ x ∷ [] = take-suc said k x within ∙ ap (λ (y : Body). take k said ++ y ∷ []) value in
    let frame = c.in_ok-frame_for.ensures (setting_of core) core.machine.me (known core c.self.invariant) in
    let next : k + 1 ≡ suc k = omega arith in
    ap (map (λ frame. frame.items)) c.in_ok-push.ensures.items
    ∙ map_append (λ frame. frame.items) c.loop-body.frames.items (c.in_ok-frame_for.field-0 ∷ [])
    ∙ ap (λ l. l ++ c.in_ok-frame_for.field-0.items ∷ []) c.loop-body.invariant
    ∙ ap (λ y. map (frame_by core) (take k said) ++ y ∷ []) frame
    ∙ sym (map_append (frame_by core) (take k said) (x ∷ []))
    ∙ ap (map (frame_by core)) (sym at)
    ∙ ap (λ j. map (frame_by core) (take j said)) (sym next)

use Rattle.std.proofs.Common.{◌≡◌, ℕ, suc, ◌+◌, ◌<◌, List, [], ◌∷◌, ◌++◌, Vec, Global, map, take, length, get_or, sym, ap, ◌∙◌, arith}
use Rattle.std.proofs.Math.Seq.{take-suc}
use Rattle.node_core.proofs.Stepwise.{map_append}
use Rattle.node_core.proofs.base.copy_frames.Goals as goal

abbrev bytes_of : Vec ℕ Global → List ℕ
bytes_of frame = frame.items

pub loop-frame-preserved : goal.loop-frame-preserved
loop-frame-preserved c =
    let frames : List (Vec ℕ Global) = c.args.frames.now in
    let k : ℕ = c.loop-frame.frame-index in
    let x : Vec ℕ Global = c.frame-item.result in
    let within : k < length frames = c.loop-frame-test.true in
    let value : get_or frames k x ≡ x = sym c.frame-item.is in
    let at : take (suc k) frames ≡ take k frames ++ x ∷ [] = take-suc frames k x within ∙ ap (λ (y : Vec ℕ Global). take k frames ++ y ∷ []) value in
    let copied : bytes_of c.in_ok-from_slice.field-0 ≡ bytes_of x = c.in_ok-from_slice.ensures.items ∙ c.deref.ensures.value in
    let next : k + 1 ≡ suc k = omega arith in
    ap (map bytes_of) c.in_ok-push.ensures.items
    ∙ map_append bytes_of c.loop-frame.copies.items (c.in_ok-from_slice.field-0 ∷ [])
    ∙ ap (λ l. l ++ bytes_of c.in_ok-from_slice.field-0 ∷ []) c.loop-frame.invariant
    ∙ ap (λ y. map bytes_of (take k frames) ++ y ∷ []) copied
    ∙ sym (map_append bytes_of (take k frames) (x ∷ []))
    ∙ ap (map bytes_of) (sym at)
    ∙ ap (λ j. map bytes_of (take j frames)) (sym next)

use Rattle.std.proofs.Common.{◌≡◌, map, take}
use Rattle.node_core.proofs.base.copy_frames.Given as goal

abbrev pub invariant-loop-frame : goal.invariant-loop-frame
invariant-loop-frame l = map (λ frame. frame.items) l.copies.items ≡ map (λ frame. frame.items) (take l.frame-index l.frames)

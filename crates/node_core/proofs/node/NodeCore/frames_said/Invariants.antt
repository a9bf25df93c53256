use Rattle.std.proofs.Common.{◌≡◌, map, take}
use Rattle.node_core.specs.Core.{frame_by}
use Rattle.node_core.specs.Seen.{seen}
use Rattle.node_core.proofs.node.NodeCore.frames_said.Given as goal

abbrev pub invariant-loop-body : goal.invariant-loop-body
invariant-loop-body g l = map (λ frame. frame.items) l.frames.items ≡ map (frame_by (seen l.self-inside)) (take l.body-index l.self-inside.said.items)

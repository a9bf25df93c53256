use Rattle.std.proofs.Common.{◌≡◌, take}
use Rattle.edge_frames.specs.Early.{bytes_of}
use Rattle.edge_frames.proofs.link_frames.LinkFrames.bytes_before.Given as goal

abbrev pub invariant-loop-place : goal.invariant-loop-place
invariant-loop-place l = l.bytes ≡ bytes_of (take l.place l.self)

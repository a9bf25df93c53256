use Rattle.std.proofs.Common.{◌≡◌, ◌≤◌, take}
use Rattle.edge_frames.specs.Early.{bytes_of}
use Rattle.edge_frames.proofs.link_frames.fitting.Given as goal

abbrev pub invariant-loop-count : goal.invariant-loop-count
invariant-loop-count l = record {
  bytes : l.bytes ≡ bytes_of (take l.count l.frames.items);
  few : l.bytes ≤ 2097152;
  short : l.count ≤ 256;
}

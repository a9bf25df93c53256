use Rattle.std.proofs.Common.{◌≡◌, ◌≤◌, take}
use Rattle.edge_frames.specs.Passing.{bytes_of}
use Rattle.edge_frames.specs.Turns.{FitsTurn}
use Rattle.edge_frames.proofs.turn.fitting.Given as goal

abbrev pub invariant-loop-count : goal.invariant-loop-count
invariant-loop-count l = record {
  one : 1 ≤ l.count;
  bytes : l.bytes ≡ bytes_of (take l.count l.frames);
  fits : FitsTurn (take l.count l.frames);
  short : l.bytes ≤ 9223372036854775807;
}

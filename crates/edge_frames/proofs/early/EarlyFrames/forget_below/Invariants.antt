use Rattle.std.proofs.Common.{◌≡◌, ◌++◌, take, drop, length}
use Rattle.edge_frames.specs.Links.{from_height}
use Rattle.edge_frames.proofs.Links.{links_of}
use Rattle.edge_frames.proofs.early.EarlyFrames.forget_below.Given as goal

-- the links before this place have been gone over
abbrev pub invariant-loop-place : goal.invariant-loop-place
invariant-loop-place l = record {
  gone : links_of l.self-inside.links.entries
      ≡ from_height l.height (take l.place (links_of l.initial.self-inside.links.entries)) ++ drop l.place (links_of l.initial.self-inside.links.entries);
  len : length l.self-inside.links.entries ≡ length l.initial.self-inside.links.entries;
}

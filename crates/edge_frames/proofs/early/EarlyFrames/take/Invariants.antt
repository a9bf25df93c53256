use Rattle.std.proofs.Common.{◌≡◌, take}
use Rattle.std.specs.List.{All}
use Rattle.edge_frames.specs.Links.{IsWithout}
use Rattle.edge_frames.proofs.Links.{links_of}
use Rattle.edge_frames.proofs.early.EarlyFrames.take.Given as goal

-- those before this place have no frame of the height, and nothing was taken
abbrev pub invariant-loop-place : goal.invariant-loop-place
invariant-loop-place l = record {
  same : l.self-inside.links.entries ≡ l.initial.self-inside.links.entries;
  none : All (IsWithout l.height) (take l.place (links_of l.initial.self-inside.links.entries));
}

-- What is on its way over one direction of a link.
use Rattle.std.specs.Prelude.{List, ℕ, ◌++◌, flat_map}
use Rattle.cluster_parts.specs.declared.lane.Lane.{Lane}

-- the bytes of frames or pieces, one behind the other
abbrev pub joined : List (List ℕ) → List ℕ
joined pieces = flat_map (λ (piece : List ℕ). piece) pieces

-- the bytes of the pieces that are on their way, and of the frames that wait
abbrev pub flying : Lane → List ℕ
flying lane = joined lane.pieces.items

abbrev pub waiting : Lane → List ℕ
waiting lane = joined lane.frames.items

-- what was sent and hasn't arrived, in order
abbrev pub under_way : Lane → List ℕ
under_way lane = flying lane ++ waiting lane

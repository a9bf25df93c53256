-- What a delivered list leaves behind for each client.
use Rattle.std.specs.Prelude.{◌≡◌, ℕ, ◌^◌, ◌≤◌, true, List, slice_index_or}
use Rattle.protocol.specs.Values.{Item, fresh, fifo}
use Rattle.protocol.specs.Queues.{standing_of}
pub use Rattle.protocol.specs.declared.standing.Standing.{Standing}

-- what callers see of a frontier, only by the word `standing`
abbrev pub Standings : Type 0
Standings = List Standing

unfoldable pub standing : Standings → ℕ → Standing
standing f client = slice_index_or f client fresh

-- The list keeps the clients' order, and these are the standings that it leaves behind.
pub record IsFrontierOf (d : List Item) (f : Standings) : Type 0 where
  pub order : fifo d ≡ true
  pub each : (client : ℕ) → standing f client ≡ standing_of client d

abbrev pub IsStanding : Standing → Type 0
IsStanding s = s.last ≤ 2 ^ 48

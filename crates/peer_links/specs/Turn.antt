-- What a step of a link in memory comes to.
use Rattle.std.specs.Prelude.{◌≤◌}
use Rattle.peer_links.specs.declared.memory_link.Turn.{Turn}
use Rattle.peer_links.specs.declared.memory_link.Turn.TheVariants.{Gave, Over, Waited, Silent, Ended}

-- from 1 to 16,384 bytes are in the buffer, if any are
abbrev pub IsTurn : Turn → Type 0
IsTurn (Gave n) = (1 ≤ n) × (n ≤ 16384)
IsTurn Over = Unit {0}
IsTurn Waited = Unit {0}
IsTurn Silent = Unit {0}
IsTurn Ended = Unit {0}

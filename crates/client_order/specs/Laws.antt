-- The theorems.
use Rattle.std.specs.Prelude.{◌≡◌, ◌↔◌, ℕ, true, List}
use Rattle.protocol.specs.Values.{Item, of, fresh, in_turn, fifo}
use Rattle.client_order.specs.Sessions.{AreSessions, joined, StandInSessions}

-- The walk along a client's items finds each of them in turn exactly where they are its sessions.
abbrev pub SessionsLaw : Type 0
SessionsLaw = (d : List Item) (client : ℕ) → (in_turn fresh (of client d) ≡ true) ↔ StandInSessions (of client d)

-- A list keeps the clients' order exactly where every client's items are its sessions.
abbrev pub ClientsLaw : Type 0
ClientsLaw = (d : List Item) → (fifo d ≡ true) ↔ ((client : ℕ) → StandInSessions (of client d))

-- No items are divided into sessions in two ways.
abbrev pub DivisionLaw : Type 0
DivisionLaw = (parts others : List (List Item)) → AreSessions 0 parts → AreSessions 0 others → joined parts ≡ joined others → parts ≡ others

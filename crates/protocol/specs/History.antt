-- A node's history: what came to it, and how often a rule fired after each.
use Rattle.std.specs.Prelude.{ℕ, zero, suc, option_map, unwrap_or, List, [], ◌∷◌}
use Rattle.protocol.specs.Tags.{Setting}
use Rattle.protocol.specs.State.{Timeout, Node, TimedOut}
use Rattle.protocol.specs.Order.{enabled}
use Rattle.protocol.specs.Arrivals.{arrival, firing}
use Rattle.protocol.specs.World.{tried}

-- the node after its first enabled rule has fired
abbrev pub first : Setting → ℕ → Node → Node
first c p n = unwrap_or (option_map (λ k. (firing c p n k).node) (enabled c.powers n.state)) n

abbrev pub firsts : Setting → ℕ → ℕ → Node → Node
firsts c p zero n = n
firsts c p (suc times) n = firsts c p times (first c p n)

-- what a call hands to a node: bytes, the rule of a timeout, or nothing
pub data Input : Type 0 where
  Settle : Input
  Given : List ℕ → Input
  Due : Timeout → Input

abbrev pub taken : Setting → ℕ → Node → Input → Node
taken c p n Settle = n
taken c p n (Given bytes) = (arrival c p n bytes).node
taken c p n (Due t) = (tried c p n (TimedOut t)).node

abbrev pub after : Setting → ℕ → Node → Input → ℕ → Node
after c p n input times = firsts c p times (taken c p n input)

-- a history: inputs with their numbers of firings, the newest first
abbrev pub replay : Setting → ℕ → Node → List (Input × ℕ) → Node
replay c p base [] = base
replay c p base (e ∷ earlier) = after c p (replay c p base earlier) e.0 e.1

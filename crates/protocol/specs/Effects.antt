-- What a node's calls leave beside it: the bodies that it releases, and the timeouts that it schedules.
use Rattle.std.specs.Prelude.{ℕ, zero, suc, cond, List, [], ◌∷◌, ◌++◌, option_to_list, option_map, unwrap_or}
use Rattle.protocol.specs.Tags.{Setting}
use Rattle.protocol.specs.Messages.{Body, Bundle, Record, Own, Decided}
use Rattle.protocol.specs.State.{Node, Rule, Timeout, TimedOut}
use Rattle.protocol.specs.Rules.{holds, scheduled}
use Rattle.protocol.specs.Order.{enabled}
use Rattle.protocol.specs.Refusals.{context}
use Rattle.protocol.specs.Arrivals.{arrival, firing}
use Rattle.protocol.specs.World.{tried}
use Rattle.protocol.specs.History.{Input, Settle, Given, Due, first, taken}

-- ---- of one firing

abbrev pub bodies_of : Setting → ℕ → Node → Rule → List Body
bodies_of c p n k = (firing c p n k).out

abbrev pub timeouts_of : Setting → ℕ → Node → Rule → List Timeout
timeouts_of c p n k = option_to_list (scheduled (context c p) n.state k)

-- ---- of what is handed to a node

abbrev pub bodies_taken : Setting → ℕ → Node → Input → List Body
bodies_taken c p n Settle = []
bodies_taken c p n (Given bytes) = (arrival c p n bytes).out
bodies_taken c p n (Due t) = (tried c p n (TimedOut t)).out

-- Only a timeout's rule schedules as it comes: a bundle's decision schedules nothing.
abbrev pub timeouts_taken : Setting → ℕ → Node → Input → List Timeout
timeouts_taken c p n Settle = []
timeouts_taken c p n (Given bytes) = []
timeouts_taken c p n (Due t) = cond (holds (context c p) n.state (TimedOut t)) (timeouts_of c p n (TimedOut t)) []

-- ---- of the first enabled rules, this many times

abbrev pub along : {X : Type 0} → (Node → Rule → List X) → Setting → ℕ → ℕ → Node → List X
along give c p zero n = []
along give c p (suc times) n = unwrap_or (option_map (give n) (enabled c.powers n.state)) [] ++ along give c p times (first c p n)

-- ---- of a call: its input, and then this many firings

abbrev pub bodies_after : Setting → ℕ → Node → Input → ℕ → List Body
bodies_after c p n input times = bodies_taken c p n input ++ along (bodies_of c p) c p times (taken c p n input)

abbrev pub timeouts_after : Setting → ℕ → Node → Input → ℕ → List Timeout
timeouts_after c p n input times = timeouts_taken c p n input ++ along (timeouts_of c p) c p times (taken c p n input)

-- the decisions of a journal, in order of height
abbrev pub bundles_in : List Record → List Bundle
bundles_in [] = []
bundles_in (Decided b ∷ rest) = bundles_in rest ++ b ∷ []
bundles_in (Own h r act ∷ rest) = bundles_in rest

-- The world: every validator's node, over every list of events.
use Rattle.std.specs.Prelude.{ℕ, Bool, true, false, not, ◌&&◌, cond, Option, Some, None, List, [], ◌∷◌, ◌++◌, ◌==◌, option_to_list}
use Rattle.protocol.specs.Values.{Op, Item, fresh, session_wanted, number_wanted, left_after}
use Rattle.protocol.specs.Tags.{Setting}
use Rattle.protocol.specs.Messages.{Body, OfAsk, Record}
use Rattle.protocol.specs.State.{Node, Rule, DecideByBundle}
use Rattle.protocol.specs.Rules.{holds}
use Rattle.protocol.specs.Restart.{opened, own_since, delivered_of}
use Rattle.protocol.specs.Refusals.{context}
use Rattle.protocol.specs.Arrivals.{Outcome, nothing, arrival, firing}

pub record World : Type 0 where
  pub nodes : ℕ → Node
  pub released : List Body  -- by correct validators, so far
  pub sent : ℕ → List Item  -- each correct client's, so far

abbrev pub beginning : Setting → World
beginning c = record { nodes = λ p. opened p []; released = []; sent = λ client. [] }

-- what a stop may cut, when its record is saved
pub data Cut : Type 0 where
  InArrival : List ℕ → Cut
  InFiring : Rule → Cut

pub data Event : Type 0 where
  Sends : ℕ → Op → Event  -- a client sends its next item
  Comes : ℕ → List ℕ → Event  -- any bytes come to a validator
  Fires : ℕ → Rule → Event  -- a rule, also a timeout's
  Asks : ℕ → Event
  Resends : ℕ → Event
  Restarts : ℕ → Option Cut → Event  -- where its journal may first have got the record of what a stop cut

-- validator p's node is now this one, and it released these bodies
abbrev pub with_node : World → ℕ → Node → List Body → World
with_node w p n bodies = record w { nodes = λ q. cond (q == p) n (w.nodes q); released = bodies ++ w.released }

abbrev pub moved : World → ℕ → Outcome → World
moved w p o = with_node w p o.node o.out

abbrev pub is_bundles : Rule → Bool
is_bundles (DecideByBundle b) = true
is_bundles _ = false

-- A rule fires where it holds, but a bundle's as its bytes come.
abbrev pub tried : Setting → ℕ → Node → Rule → Outcome
tried c p n k = cond (not (is_bundles k) && holds (context c p) n.state k) (firing c p n k) (nothing n)

abbrev pub cut_record : Setting → ℕ → Node → Option Cut → List Record
cut_record c p n None = []
cut_record c p n (Some (InArrival bytes)) = option_to_list (arrival c p n bytes).wrote
cut_record c p n (Some (InFiring k)) = option_to_list (tried c p n k).wrote

-- what a client sends after these: the next number of its session, or, after its close, number 1 of the next session
abbrev pub next_item : ℕ → Op → List Item → Item
next_item client op items = record { client = client; session = session_wanted (left_after fresh items); number = number_wanted (left_after fresh items); op = op }

abbrev pub sending : World → ℕ → Op → World
sending w client op = record w { sent = λ k. cond (k == client) (w.sent client ++ next_item client op (w.sent client) ∷ []) (w.sent k) }

-- What is refused, and a rule that doesn't hold, changes nothing. Bytes that aren't taken in for want of memory are no event.
abbrev pub happens : Setting → World → Event → World
happens c w (Sends client op) = sending w client op
happens c w (Comes p bytes) = moved w p (arrival c p (w.nodes p) bytes)
happens c w (Fires p k) = moved w p (tried c p (w.nodes p) k)
happens c w (Asks p) = with_node w p (w.nodes p) (OfAsk (record { height = (w.nodes p).state.height; sender = p }) ∷ [])
happens c w (Resends p) = with_node w p (w.nodes p) (own_since p (w.nodes p).journal)
happens c w (Restarts p cut) = with_node w p (opened p (cut_record c p (w.nodes p) cut ++ (w.nodes p).journal)) []

abbrev pub run : Setting → World → List Event → World
run c w [] = w
run c w (e ∷ es) = run c (happens c w e) es

-- the items of the journal's decisions, in order
abbrev pub delivered : World → ℕ → List Item
delivered w p = delivered_of (w.nodes p).journal

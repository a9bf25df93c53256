-- The report of a run: what is told at each event, and how validators end.
use Rattle.std.specs.Prelude.{ℕ, suc, Bool, false, cond, Option, Some, None, List, [], ◌∷◌, ◌++◌, map, flat_map, ◌==◌, option_to_list, Result}
use Rattle.transactions.specs.declared.fault.Fault.{Fault}
use Rattle.protocol.specs.Values.{Id, Item}
use Rattle.protocol.specs.Tags.{Setting}
use Rattle.protocol.specs.Messages.{Body, OfAsk, Bundle, Message, Record, Own, Decided}
use Rattle.protocol.specs.State.{Node, Rule, TimedOut}
use Rattle.protocol.specs.Restart.{own_since}
use Rattle.protocol.specs.Refusals.{Refusal, refusal_of, refusal_number}
use Rattle.protocol.specs.Calls.{timeout_answer}
use Rattle.protocol.specs.Arrivals.{Outcome, arrival}
use Rattle.protocol.specs.World.{World, Event, Sends, Comes, Fires, Asks, Resends, Restarts, happens, tried, cut_record}
use Rattle.protocol.specs.Premises.{at_validator}

-- ---- what is told

pub data What : Type 0 where
  Answered : ℕ × ℕ → What  -- the number of a refusal, and an inner one
  DecidedAt : (height round : ℕ) → Id → What
  Released : Body → What

-- events count from 1
pub record Told : Type 0 where
  pub event : ℕ
  pub validator : Option ℕ
  pub what : What

pub record Decision : Type 0 where
  pub height : ℕ
  pub round : ℕ
  pub id : Id

abbrev pub decision_of : Bundle → Decision
decision_of b = record { height = b.height; round = b.round; id = b.id }

-- the decisions of a journal, in order of height
abbrev pub decisions_in : List Record → List Decision
decisions_in [] = []
decisions_in (Decided b ∷ rest) = decisions_in rest ++ decision_of b ∷ []
decisions_in (Own h r act ∷ rest) = decisions_in rest

-- ---- at an event

-- Only a refusal is told: an answer that all went well isn't.
abbrev pub answered : Option Refusal → List What
answered refusal = map (λ r. Answered (refusal_number r)) (option_to_list refusal)

abbrev pub decided_by : List Record → List What
decided_by records = map (λ (d : Decision). DecidedAt d.height d.round d.id) (decisions_in records)

-- the refusal, the decision and the released bodies, in this order
abbrev pub told_of : Option Refusal → Outcome → List What
told_of refusal o = answered refusal ++ (decided_by (option_to_list o.wrote) ++ map Released o.out)

-- a timeout may be refused; another rule that doesn't hold is nobody's call
abbrev pub firing_answer : Node → Rule → Option Refusal
firing_answer n (TimedOut t) = timeout_answer n.state t
firing_answer n _ = None

-- Bytes are read in this way: which of its faults is told of bytes that are no frame is for it to say.
abbrev pub tells : (List ℕ → Result Message Fault) → Setting → World → Event → List What
tells read c w (Sends client op) = []
tells read c w (Comes p bytes) = told_of (refusal_of c p (w.nodes p) (read bytes)) (arrival c p (w.nodes p) bytes)
tells read c w (Fires p k) = told_of (firing_answer (w.nodes p) k) (tried c p (w.nodes p) k)
tells read c w (Asks p) = Released (OfAsk (record { height = (w.nodes p).state.height; sender = p })) ∷ []
tells read c w (Resends p) = map Released (own_since p (w.nodes p).journal)
tells read c w (Restarts p cut) = []

-- the decision that a journal got as its validator stopped, which nobody was told
abbrev pub untold : Setting → World → Event → List What
untold c w (Restarts p cut) = decided_by (cut_record c p (w.nodes p) cut)
untold c w _ = []

-- ---- over a run

abbrev pub noted : ℕ → Option ℕ → List What → List Told
noted event validator whats = map (λ what. record { event = event; validator = validator; what = what }) whats

-- what each event gives, the first of them with this number
abbrev pub by_event : (Setting → World → Event → List What) → ℕ → Setting → World → List Event → List (List Told)
by_event give n c w [] = []
by_event give n c w (e ∷ es) = noted n (at_validator e) (give c w e) ∷ by_event give (suc n) c (happens c w e) es

abbrev pub joined : List (List Told) → List Told
joined parts = flat_map (λ part. part) parts

abbrev pub report : (List ℕ → Result Message Fault) → Setting → World → List Event → List Told
report read c w es = joined (by_event (tells read) 1 c w es)

-- what stops left to be found in journals
abbrev pub unreported : Setting → World → List Event → List Told
unreported c w es = joined (by_event untold 1 c w es)

-- both, in order of events
abbrev pub account : (List ℕ → Result Message Fault) → Setting → World → List Event → List Told
account read c w es = joined (by_event (λ c w e. tells read c w e ++ untold c w e) 1 c w es)

-- ---- parts of a report

abbrev pub body_in : What → List Body
body_in (Released b) = b ∷ []
body_in _ = []

-- the released bodies, in order
abbrev pub bodies : List Told → List Body
bodies ts = flat_map (λ (t : Told). body_in t.what) ts

abbrev pub is_by : ℕ → Option ℕ → Bool
is_by p None = false
is_by p (Some q) = p == q

abbrev pub decision_in : What → List Decision
decision_in (DecidedAt height round x) = record { height = height; round = round; id = x } ∷ []
decision_in _ = []

-- the decisions of validator p, in order
abbrev pub decisions : ℕ → List Told → List Decision
decisions p ts = flat_map (λ (t : Told). cond (is_by p t.validator) (decision_in t.what) []) ts

-- ---- how a validator ends

pub record End : Type 0 where
  pub height : ℕ
  pub round : ℕ
  pub delivered : List Item

abbrev pub ends : World → ℕ → End
ends w p = record { height = (w.nodes p).state.height; round = (w.nodes p).state.round; delivered = (w.nodes p).state.delivered }

-- Calls are a run, and what the headline says of it.
use Rattle.std.specs.Prelude.{◌≡◌, ◌⊎◌, ◌↔◌, ℕ, true, List, ◌++◌}
use Rattle.powers.specs.Power.{FewLie}
use Rattle.protocol.specs.Values.{Item, of, fresh, in_turn}
use Rattle.protocol.specs.Tags.{Setting}
use Rattle.protocol.specs.Messages.{◌∈◌, Body}
use Rattle.protocol.specs.World.{World, beginning, run}
use Rattle.protocol.specs.Premises.{Honesty, Unforged, Distinct, IsCorrect, Begins}
use Rattle.protocol.specs.Laws.{Comparable, schedule_of}
use Rattle.world_schedule.specs.Calls.{Call, moved, adding, events_by, bodies_by, timeouts_by, lived, sent_by, events, bodies, timeouts, node_after, run_of, sent}

-- After the call's events each node, and what each client has sent, is as the call leaves it. What the call releases can be delivered from then on beside what could before; what it schedules the events schedule.
pub record IsMade (c : Setting) (w : World) (call : Call) : Type 0 where
  pub nodes : (p : ℕ) → (run c w (events_by c w.nodes call)).nodes p ≡ moved c p (w.nodes p) call
  pub sent : (client : ℕ) → (run c w (events_by c w.nodes call)).sent client ≡ adding client (w.sent client) call
  pub released : (b : Body) → (b ∈ (run c w (events_by c w.nodes call)).released) ↔ ((b ∈ bodies_by c w.nodes call) ⊎ (b ∈ w.released))
  pub scheduled : schedule_of c w (events_by c w.nodes call) ≡ timeouts_by c w.nodes call

-- One call is its events, at any world.
abbrev pub MadeLaw : Type 0
MadeLaw = (c : Setting) (w : World) (call : Call) → IsMade c w call

-- and so are many
pub record IsRun (c : Setting) (w : World) (calls : List Call) : Type 0 where
  pub nodes : (p : ℕ) → (run c w (events c w.nodes calls)).nodes p ≡ lived c p (w.nodes p) calls
  pub sent : (client : ℕ) → (run c w (events c w.nodes calls)).sent client ≡ sent_by client (w.sent client) calls
  pub released : (b : Body) → (b ∈ (run c w (events c w.nodes calls)).released) ↔ ((b ∈ bodies c w.nodes calls) ⊎ (b ∈ w.released))
  pub scheduled : schedule_of c w (events c w.nodes calls) ≡ timeouts c w.nodes calls

-- The nodes that calls leave are those of one run, whose events are a function of the calls.
abbrev pub RunLaw : Type 0
RunLaw = (c : Setting) (w : World) (calls : List Call) → IsRun c w calls

-- ---- the headline

-- Less than a third of the power lies, nobody else makes a correct party's tags in the run that these calls are, and no two of its values have one id.
pub record IsFair (c : Setting) (h : Honesty) (calls : List Call) : Type 0 where
  pub few : FewLie c.powers h.liars
  pub unforged : Unforged c h (beginning c) (run_of c calls)
  pub distinct : Distinct c h (run_of c calls)

-- what validator p has delivered after these calls
abbrev pub delivered_after : Setting → ℕ → List Call → List Item
delivered_after c p calls = (node_after c p calls).state.delivered

-- an earlier list begins a later one
abbrev pub PastLaw : Type 0
PastLaw = (c : Setting) (early late : List Call) (p : ℕ) → Begins (delivered_after c p early) (delivered_after c p (early ++ late))

-- At two moments, of two correct validators' lists one begins the other; each keeps every client's order, and a correct client's items in it begin what the client sent.
pub record AreOneList (c : Setting) (h : Honesty) (early late : List Call) (p q : ℕ) : Type 0 where
  pub begins : Comparable (delivered_after c p early) (delivered_after c q (early ++ late))
  pub in_order : (client : ℕ) → in_turn fresh (of client (delivered_after c q (early ++ late))) ≡ true
  pub begins_sent : (client : ℕ) → h.clients client ≡ true → Begins (of client (delivered_after c q (early ++ late))) (sent client (early ++ late))

abbrev pub DeliveredLaw : Type 0
DeliveredLaw = (c : Setting) (h : Honesty) (early late : List Call) → IsFair c h (early ++ late) → (p q : ℕ) → IsCorrect c h p → IsCorrect c h q → AreOneList c h early late p q

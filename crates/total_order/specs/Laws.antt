-- The headline over one list.
use Rattle.std.specs.Prelude.{◌≡◌, ℕ, true, ◌⊎◌, List, [], ◌++◌}
use Rattle.powers.specs.Power.{FewLie}
use Rattle.protocol.specs.Values.{Item, of}
use Rattle.protocol.specs.Tags.{Setting}
use Rattle.protocol.specs.World.{Event, beginning, run, delivered}
use Rattle.protocol.specs.Premises.{Honesty, Unforged, Distinct, IsCorrect, Begins}
use Rattle.client_order.specs.Sessions.{StandInSessions}

-- The list of a whole run of these events.
pub record IsTheList (c : Setting) (h : Honesty) (events : List Event) (list : List Item) : Type 0 where
  -- at each moment
  pub begins : (early late : List Event) → early ++ late ≡ events → (p : ℕ) → IsCorrect c h p → Begins (delivered (run c (beginning c) early) p) list
  -- a client's transactions are its numbers from one, each once, with nothing after its close
  pub orders : (client : ℕ) → StandInSessions (of client list)
  pub sent : (client : ℕ) → h.clients client ≡ true → Begins (of client list) ((run c (beginning c) events).sent client)
  -- by the end some correct validator has delivered all of it
  pub reached : (list ≡ []) ⊎ ((p : ℕ) × IsCorrect c h p × (delivered (run c (beginning c) events) p ≡ list))

-- Whatever less than a third of the power does, whatever is lost, repeated or reordered, and whenever validators stop.
abbrev pub OneListLaw : Type 0
OneListLaw = (c : Setting) (h : Honesty) (events : List Event) → FewLie c.powers h.liars → Unforged c h (beginning c) events → Distinct c h events
    → (list : List Item) × IsTheList c h events list

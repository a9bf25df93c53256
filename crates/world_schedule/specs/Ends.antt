-- What the ends of a report tell, and how a scene stands after calls.
use Rattle.std.specs.Prelude.{◌≡◌, ℕ, true, List}
use Rattle.protocol.specs.Values.{of, fresh, in_turn}
use Rattle.protocol.specs.Tags.{Setting}
use Rattle.protocol.specs.Messages.{◌∈◌}
use Rattle.protocol.specs.Premises.{Honesty, IsCorrect, Begins}
use Rattle.protocol.specs.Laws.{Comparable}
use Rattle.world_schedule.specs.Calls.{Call, node_after, sent}
use Rattle.world_schedule.specs.Runs.{IsFair}
use Rattle.world_schedule.specs.Reports.{Made, calls_of, start, standing_after, report}
use Rattle.world_schedule.specs.Making.{beginning, scene_after}
use Rattle.world_schedule.specs.declared.report.End.{End}

-- Of what two ends tell that was delivered one begins the other; the first keeps every client's order, and a correct client's items in it begin what the client sent.
pub record EndAsOne (h : Honesty) (calls : List Call) (one other : End) : Type 0 where
  pub begins : Comparable one.delivered other.delivered
  pub in_order : (client : ℕ) → in_turn fresh (of client one.delivered) ≡ true
  pub begins_sent : (client : ℕ) → h.clients client ≡ true → Begins (of client one.delivered) (sent client calls)

-- So it is with any two ends of one report, of correct validators.
abbrev pub EndsLaw : Type 0
EndsLaw = (c : Setting) (h : Honesty) (validators : List ℕ) (ms : List Made) → IsFair c h (calls_of ms) → (one other : End) → one ∈ (report c validators ms).ends → other ∈ (report c validators ms).ends
    → IsCorrect c h one.validator → IsCorrect c h other.validator → EndAsOne h (calls_of ms) one other

-- ---- scenes

-- After these calls each node, and what each client has sent, is as the calls leave it.
pub record StandsAfter (c : Setting) (ms : List Made) : Type 0 where
  pub standing : (scene_after c beginning ms).standing ≡ standing_after c start (calls_of ms)
  pub nodes : (p : ℕ) → (scene_after c beginning ms).standing.nodes p ≡ node_after c p (calls_of ms)
  pub sent : (client : ℕ) → (scene_after c beginning ms).standing.sent client ≡ sent client (calls_of ms)

abbrev pub SceneLaw : Type 0
SceneLaw = (c : Setting) (ms : List Made) → StandsAfter c ms

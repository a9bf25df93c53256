-- The ends of a report tell one list, and scenes stand as calls leave them.
use Rattle.std.proofs.Common.{◌≡◌, ℕ, true, List, [], ◌∷◌, ◌++◌, refl, sym, ap, subst, subst₂, append-nil}
use Rattle.protocol.specs.Values.{of, fresh, in_turn}
use Rattle.protocol.specs.Tags.{Setting}
use Rattle.protocol.specs.Premises.{Honesty, IsCorrect, Begins}
use Rattle.protocol.specs.Laws.{Comparable}
use Rattle.protocol.proofs.Membership.{in_map}
use Rattle.world_schedule.specs.Calls.{Call, lived, sent_by, sent}
use Rattle.world_schedule.specs.Runs.{IsFair, delivered_after}
use Rattle.world_schedule.specs.Reports.{Made, calls_of, standing_after, end_of}
use Rattle.world_schedule.specs.Making.{Scene, beginning, scene_next, scene_after}
use Rattle.world_schedule.specs.Ends.{EndAsOne, EndsLaw, SceneLaw}
use Rattle.world_schedule.specs.declared.report.End.{End}
use Rattle.world_schedule.proofs.Runs.{delivered_law}

-- ---- ends

by_number : (c : Setting) (h : Honesty) (calls : List Call) → IsFair c h calls → (p q : ℕ) → IsCorrect c h p → IsCorrect c h q → EndAsOne h calls (end_of c calls p) (end_of c calls q)
by_number c h calls fair p q okp okq =
    let all : calls ++ [] ≡ calls = append-nil calls in
    let fair_then : IsFair c h (calls ++ []) = subst (IsFair c h) (sym all) fair in
    let both = delivered_law c h calls [] fair_then p q okp okq in
    let own = delivered_law c h calls [] fair_then p p okp okp in record {
      begins = subst (λ l. Comparable (delivered_after c p calls) (delivered_after c q l)) all both.begins;
      in_order = λ client. subst (λ l. in_turn fresh (of client (delivered_after c p l)) ≡ true) all (own.in_order client);
      begins_sent = λ client honest. subst (λ l. Begins (of client (delivered_after c p l)) (sent client l)) all (own.begins_sent client honest);
    }

pub ends_law : EndsLaw
ends_law c h validators ms fair one other i j okp okq =
    let calls : List Call = calls_of ms in
    let p = in_map (end_of c calls) one validators i in
    let q = in_map (end_of c calls) other validators j in
    let number_of : End → ℕ = λ (e : End). e.validator in
    subst₂ (EndAsOne h calls) p.2 q.2 (by_number c h calls fair p.0 q.0 (subst (IsCorrect c h) (sym (ap number_of p.2)) okp) (subst (IsCorrect c h) (sym (ap number_of q.2)) okq))

-- ---- scenes

pub scene_standing : (c : Setting) (s : Scene) (ms : List Made) → (scene_after c s ms).standing ≡ standing_after c s.standing (calls_of ms)
scene_standing c s [] = refl
scene_standing c s (m ∷ ms) = scene_standing c (scene_next c s m) ms

pub scene_nodes : (c : Setting) (s : Scene) (ms : List Made) (p : ℕ) → (scene_after c s ms).standing.nodes p ≡ lived c p (s.standing.nodes p) (calls_of ms)
scene_nodes c s [] p = refl
scene_nodes c s (m ∷ ms) p = scene_nodes c (scene_next c s m) ms p

pub scene_sent : (c : Setting) (s : Scene) (ms : List Made) (client : ℕ) → (scene_after c s ms).standing.sent client ≡ sent_by client (s.standing.sent client) (calls_of ms)
scene_sent c s [] client = refl
scene_sent c s (m ∷ ms) client = scene_sent c (scene_next c s m) ms client

pub scene_law : SceneLaw
scene_law c ms = record { standing = scene_standing c beginning ms; nodes = scene_nodes c beginning ms; sent = scene_sent c beginning ms }

-- Events of calls of correct validators are at correct validators.
use Rattle.std.proofs.Common.{◌≡◌, ℕ, inl, inr, Bool, true, false, List, [], ◌∷◌, ◌++◌, map, length, refl, sym, subst, Some}
use Rattle.std.specs.Prelude.{◌&&◌, not, slice_index_or}
use Rattle.std.proofs.lemmas.Bool.{and_parts, ltb-true}
use Rattle.protocol.specs.Messages.{◌∈◌}
use Rattle.protocol.specs.State.{Node, Rule}
use Rattle.protocol.specs.World.{World, Event, Sends, Comes, Fires, Asks, Resends, Restarts, happens, beginning}
use Rattle.protocol.specs.History.{Input, Settle, Given, Due}
use Rattle.protocol.specs.Laws.{events_of}
use Rattle.protocol.specs.Premises.{Unforged, IsCorrect, AtCorrect, at_validator}
use Rattle.protocol.proofs.Membership.{in_append, in_map}
use Rattle.world_parties.specs.Cast.{Cast, setting_of, is_correct, is_validator, correct}
use Rattle.world_schedule.specs.Calls.{Call, Sent, Began, Handed, Asked, Resent, Reopened, events_by, events, all_moved, run_of, unopened}
use Rattle.world_schedule.specs.Reports.{Made, calls_of, validator_of, end_of}
use Rattle.world_schedule.specs.Outcome.{EndsBy}
use Rattle.world_schedule.specs.declared.report.End.{End}
use Rattle.world_schedule.proofs.Coming.{coming_law}
use Rattle.world_schedule.proofs.Outcome.{outcome_law}
use Rattle.fair_worlds.specs.Laws.{AreByCorrect, AreUnforged, honesty, FairLaw, ReportLaw}
use Rattle.fair_worlds.proofs.Callers.{in_correct, correct_calls_law}

not_true : (b : Bool) → not b ≡ true → b ≡ false
not_true false e = refl
not_true true e = absurd (let f : false ≡ true = e in cc)

and_false : (a b : Bool) → b ≡ false → (a && b) ≡ false
and_false true b e = e
and_false false b e = refl

module _ (cast : Cast) (clients : ℕ → Bool) where
  is_at_correct : (p : ℕ) → is_correct cast p ≡ true → IsCorrect (setting_of cast) (honesty cast clients) p
  is_at_correct p ok =
      let k = and_parts (is_validator cast p) (not (slice_index_or cast.lies p false)) ok in
      (ltb-true p (length cast.powers) k.0, and_false (is_validator cast p) (slice_index_or cast.lies p false) (not_true _ k.1))

  abbrev AllAtCorrect : List Event → Type 0
  AllAtCorrect es = (e : Event) → e ∈ es → AtCorrect (setting_of cast) (honesty cast clients) (at_validator e)

  at_one : (e : Event) → AtCorrect (setting_of cast) (honesty cast clients) (at_validator e) → AllAtCorrect (e ∷ [])
  at_one e ok f (inl i) = subst (λ (g : Event). AtCorrect (setting_of cast) (honesty cast clients) (at_validator g)) (sym i) ok
  at_one e ok f (inr i) = absurd i

  at_both : (es fs : List Event) → AllAtCorrect es → AllAtCorrect fs → AllAtCorrect (es ++ fs)
  at_both es fs a b e i = elim (in_append e es fs i) [ inl k ↦ a e k | inr k ↦ b e k ]

  at_input : (p : ℕ) (input : Input) → IsCorrect (setting_of cast) (honesty cast clients) p → AllAtCorrect (events_of p input)
  at_input p Settle ok = λ e i. absurd i
  at_input p (Given bytes) ok = at_one (Comes p bytes) ok
  at_input p (Due t) ok = at_one (Fires p _) ok

  at_firings : (p : ℕ) (ks : List Rule) → IsCorrect (setting_of cast) (honesty cast clients) p → AllAtCorrect (map (Fires p) ks)
  at_firings p ks ok e i = let k = in_map (Fires p) e ks i in subst (λ (g : Event). AtCorrect (setting_of cast) (honesty cast clients) (at_validator g)) k.2 ok

  at_call : (nodes : ℕ → Node) (call : Call) → ((p : ℕ) → validator_of call ≡ Some p → is_correct cast p ≡ true) → AllAtCorrect (events_by (setting_of cast) nodes call)
  at_call nodes (Sent client op) ok = at_one (Sends client op) tt
  at_call nodes (Began client) ok = λ e i. absurd i
  at_call nodes (Handed p input times) ok = at_both (events_of p input) _ (at_input p input (is_at_correct p (ok p refl))) (at_firings p _ (is_at_correct p (ok p refl)))
  at_call nodes (Asked p) ok = at_one (Asks p) (is_at_correct p (ok p refl))
  at_call nodes (Resent p) ok = at_one (Resends p) (is_at_correct p (ok p refl))
  at_call nodes (Reopened p cut) ok = at_one (Restarts p cut) (is_at_correct p (ok p refl))

  at_calls : (nodes : ℕ → Node) (ms : List Made) → AreByCorrect cast ms → AllAtCorrect (events (setting_of cast) nodes (calls_of ms))
  at_calls nodes [] by = λ e i. absurd i
  at_calls nodes (m ∷ ms) by = at_both (events_by (setting_of cast) nodes m.call) _ (at_call nodes m.call (by m (inl refl))) (at_calls (all_moved (setting_of cast) nodes m.call) ms (λ n i. by n (inr i)))

  joined : (w : World) (es : List Event) → AllAtCorrect es → AreUnforged (setting_of cast) (honesty cast clients) w es → Unforged (setting_of cast) (honesty cast clients) w es
  joined w [] all u = tt
  joined w (e ∷ es) all u = (all e (inl refl), u.0, joined (happens (setting_of cast) w e) es (λ f i. all f (inr i)) u.1)

pub fair_law : FairLaw
fair_law cast clients ms by asked = record {
  few = asked.few;
  unforged = joined cast clients (beginning (setting_of cast)) (run_of (setting_of cast) (calls_of ms)) (at_calls cast clients unopened ms by) asked.unforged;
  distinct = asked.distinct;
}

-- ---- of a report

pub report_law : ReportLaw
report_law powers count liars events report k clients asked one other i j =
    let cast = k.opened.cast in
    let first : List Made = k.opened.begun.made in
    let by : AreByCorrect cast (first ++ k.reported.tells.more) = (correct_calls_law cast).run first _ _ _ report k.reported.tells ((correct_calls_law cast).opening first k.opened.begun.settled) in
    let ends : EndsBy cast first (λ number p. false) events report = record { more = k.reported.tells.more; of_events = coming_law cast first _ events _ report k.reported.tells; ends_are = k.reported.tells.ends_are } in
    outcome_law cast first _ events report ends (honesty cast clients) (fair_law cast clients (first ++ k.reported.tells.more) by asked) one other i j (at_end one i) (at_end other j)
  where
    at_end : (end : End) → end ∈ report.ends → IsCorrect (setting_of k.opened.cast) (honesty k.opened.cast clients) end.validator
    at_end end i = let m = in_map (end_of (setting_of k.opened.cast) (calls_of (k.opened.begun.made ++ k.reported.tells.more))) end (correct k.opened.cast) (subst (λ (es : List End). end ∈ es) k.reported.tells.ends_are i) in
        subst (λ (e : End). IsCorrect (setting_of k.opened.cast) (honesty k.opened.cast clients) e.validator) m.2 (is_at_correct k.opened.cast clients m.0 (in_correct k.opened.cast m.0 m.1))

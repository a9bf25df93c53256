-- A timeout is refused exactly where it would end a round, and the rounds are at their limit.
use Rattle.std.proofs.Common.{◌≡◌, ℕ, inl, inr, Bool, true, false, not, ◌&&◌, Some, None, refl, sym, ◌∙◌, eq-eqb, eqb-true}
use Rattle.std.specs.Prelude.{nat_lt}
use Rattle.std.proofs.lemmas.Bool.{and_parts, and_from, and_right, cases_Bool, not-true}
use Rattle.protocol.specs.Tags.{Setting}
use Rattle.protocol.specs.Messages.{Step, Propose, Prevote, Precommit, step_eq}
use Rattle.protocol.specs.State.{State, Timeout, TimedOut}
use Rattle.protocol.specs.Rules.{holds, holds_timed}
use Rattle.protocol.specs.Refusals.{Refusal, RoundLimit, context}
use Rattle.protocol.specs.Calls.{ends_round, timeout_answer}
use Rattle.protocol.specs.Laws.{IsRoundEnd, TimeoutLaw}

-- at the limit no precommit timeout's rule holds
limited : (s : State) (t : Timeout) (kind : Step) → step_eq kind Precommit ≡ true → nat_lt s.round 1000000 ≡ false → holds_timed s t kind ≡ false
limited s t Propose k full = absurd (let f : false ≡ true = k in cc)
limited s t Prevote k full = absurd (let f : false ≡ true = k in cc)
limited s t Precommit k full = and_right s.begun _ full

is_precommit : (kind : Step) → step_eq kind Precommit ≡ true → kind ≡ Precommit
is_precommit Propose k = absurd (let f : false ≡ true = k in cc)
is_precommit Prevote k = absurd (let f : false ≡ true = k in cc)
is_precommit Precommit k = refl

module _ (c : Setting) (p : ℕ) (s : State) (t : Timeout) where
  refused_parts : (r : Refusal) → timeout_answer s t ≡ Some r → (r ≡ RoundLimit) × IsRoundEnd s t × (holds (context c p) s (TimedOut t) ≡ false)
  refused_parts r e = elim (cases_Bool (ends_round s t && not (nat_lt s.round 1000000))) [
    | inl h ↦ (
        let f : Some RoundLimit ≡ Some r = rw h at e in
        let whole = and_parts _ _ h in
        let begun = and_parts _ _ whole.0 in
        let kind = and_parts _ _ begun.0 in
        let fits = and_parts _ _ kind.0 in (
          cc,
          record { height = eqb-true _ _ fits.0; round = eqb-true _ _ fits.1; kind = is_precommit t.kind kind.1; begun = begun.1 },
          and_right _ _ (limited s t t.kind kind.1 (not-true _ whole.1)),
        ))
    | inr h ↦ absurd (let f : None ≡ Some r = rw h at e in cc)
  ]

  ended : IsRoundEnd s t → ends_round s t ≡ true
  ended i = and_from _ _ (and_from _ _ (and_from _ _ (eq-eqb _ _ i.height) (eq-eqb _ _ i.round)) (rw i.kind refl)) i.begun

  timed : IsRoundEnd s t → (h : Bool) → nat_lt s.round 1000000 ≡ h → holds (context c p) s (TimedOut t) ≡ h
  timed i h e = rw (i.height, i.round, i.kind, i.begun, eq-eqb s.height s.height refl, eq-eqb s.round s.round refl) e

  full_refused : IsRoundEnd s t → holds (context c p) s (TimedOut t) ≡ false → timeout_answer s t ≡ Some RoundLimit
  full_refused i h = elim (cases_Bool (nat_lt s.round 1000000)) [
    | inl room ↦ absurd (let f = timed i true room in let g : true ≡ false = sym f ∙ h in cc)
    | inr full ↦ rw (ended i, full) refl
  ]

pub timeout_law : TimeoutLaw
timeout_law c p n t = (refused_parts c p n.state t, full_refused c p n.state t, λ e. rw e refl)

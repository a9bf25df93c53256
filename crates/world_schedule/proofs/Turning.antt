-- Calls of one validator, one after the other.
use Rattle.std.proofs.Common.{◌≡◌, ℕ, inl, inr, Bool, true, false, Some, List, [], ◌∷◌, ◌++◌, refl, sym, ap, ◌∙◌, subst, append_assoc, append-nil}
use Rattle.protocol.specs.Tags.{Setting}
use Rattle.protocol.specs.History.{Settle}
use Rattle.protocol.proofs.Membership.{in_append}
use Rattle.world_schedule.specs.Reports.{Made, validator_of, told, noted, told_of_call, next}
use Rattle.world_schedule.specs.Making.{Request, Hands, Scene, IsOne, IsInsisted, IsTurn, scene_next, scene_after}
use Rattle.world_schedule.specs.Standings.{Holds}
use Rattle.world_schedule.specs.Validators.{IsUp, Sits, HasMet, LeadsTo, HasInsisted, HasTurned}
use Rattle.world_schedule.specs.declared.validator.Validator.{Validator}
use Rattle.world_schedule.specs.declared.seat.Seat.{Seat}
use Rattle.world_schedule.specs.declared.chronicle.Chronicle.{Chronicle}

pub scene_append : (c : Setting) (s : Scene) (xs ys : List Made) → scene_after c s (xs ++ ys) ≡ scene_after c (scene_after c s xs) ys
scene_append c s [] ys = refl
scene_append c s (m ∷ xs) ys = scene_append c (scene_next c s m) xs ys

pub told_append : (c : Setting) (s : Scene) (xs ys : List Made) → told c s.standing (xs ++ ys) ≡ told c s.standing xs ++ told c (scene_after c s xs).standing ys
told_append c s [] ys = refl
told_append c s (m ∷ xs) ys = ap (λ l. noted m (told_of_call c s.standing m) ++ l) (told_append c (scene_next c s m) xs ys) ∙ sym (append_assoc (noted m (told_of_call c s.standing m)) (told c (next c s.standing m.call) xs) (told c (scene_after c (scene_next c s m) xs).standing ys))

-- one call
pub leads_once : (c : Setting) (s : Scene) (request : Request) (refused : Bool) (p : ℕ) (new : Seat) (before after : Chronicle) (k : HasMet c s request refused p new before after) → LeadsTo c s (k.made ∷ []) p new before after
leads_once c s request refused p new before after k = record {
  by = λ m i. elim i [ inl e ↦ ap (λ (x : Made). validator_of x.call) e ∙ k.one.by | inr none ↦ absurd none ];
  up = k.up;
  holds = k.holds;
  told = k.told ∙ ap (λ l. before.told.items ++ l) (sym (append-nil (noted k.made (told_of_call c s.standing k.made))));
  event = k.event;
}

-- calls, and then more
pub leads_on : (c : Setting) (s : Scene) (xs ys : List Made) (p q : ℕ) (mid new : Seat) (before between after : Chronicle) → q ≡ p → LeadsTo c s xs p mid before between → LeadsTo c (scene_after c s xs) ys q new between after → LeadsTo c s (xs ++ ys) p new before after
leads_on c s xs ys p q mid new before between after e a b = record {
  by = λ m i. elim (in_append m xs ys i) [ inl k ↦ a.by m k | inr k ↦ b.by m k ∙ ap Some e ];
  up = subst (λ t. Sits c t p new) (sym (scene_append c s xs ys)) (subst (λ i. Sits c (scene_after c (scene_after c s xs) ys) i new) e b.up);
  holds = subst (λ (t : Scene). Holds c t.standing.numbered after.messages) (sym (scene_append c s xs ys)) b.holds;
  told = b.told ∙ ap (λ l. l ++ told c (scene_after c s xs).standing ys) a.told ∙ append_assoc before.told.items (told c s.standing xs) (told c (scene_after c s xs).standing ys) ∙ ap (λ l. before.told.items ++ l) (sym (told_append c s xs ys));
  event = b.event ∙ a.event;
}

-- at the same event, of the same validator
pub moved_one : (c : Setting) (s : Scene) (request : Request) (m : Made) (k j p q : ℕ) → k ≡ j → p ≡ q → IsOne c s k p request m → IsOne c s j q request m
moved_one c s request m k j p q e f o = subst (λ x. IsOne c s x q request m) e (subst (λ x. IsOne c s k x request m) f o)

-- ---- what was asked for

pub insisted_once : (c : Setting) (s : Scene) (request : Request) (refused : Bool) (p : ℕ) (new : Seat) (before after : Chronicle) → refused ≡ false → HasMet c s request refused p new before after → HasInsisted c s request p new before after
insisted_once c s request refused p new before after e k = (k.made ∷ [], (k.one, sym k.starved_is ∙ e), leads_once c s request refused p new before after k)

pub insisted_again : (c : Setting) (s : Scene) (request : Request) (refused settled again : Bool) (p q r : ℕ) (one two new : Seat) (before first second after : Chronicle) → refused ≡ true → q ≡ p → r ≡ q
    → (k : HasMet c s request refused p one before first) → (j : HasMet c (scene_next c s k.made) (Hands Settle) settled q two first second)
    → HasMet c (scene_next c (scene_next c s k.made) j.made) request again r new second after → HasInsisted c s request p new before after
insisted_again c s request refused settled again p q r one two new before first second after e f g k j i =
    let a = leads_once c s request refused p one before first k in
    let b = leads_once c (scene_next c s k.made) (Hands Settle) settled q two first second j in
    let d = leads_once c (scene_next c (scene_next c s k.made) j.made) request again r new second after i in (
      k.made ∷ j.made ∷ i.made ∷ [],
      (k.one, sym k.starved_is ∙ e, moved_one c (scene_next c s k.made) (Hands Settle) j.made _ _ _ _ k.event f j.one, moved_one c (scene_next c (scene_next c s k.made) j.made) request i.made _ _ _ _ (j.event ∙ k.event) (g ∙ f) i.one),
      leads_on c s (k.made ∷ []) (j.made ∷ i.made ∷ []) p q one new before first after f a (leads_on c (scene_next c s k.made) (j.made ∷ []) (i.made ∷ []) q r two new first second after g b d),
    )

pub turned_at_once : (c : Setting) (s : Scene) (request : Request) (old : Validator) (new : Seat) (before after : Chronicle) → IsUp c s old → old.owes ≡ false → HasInsisted c s request old.number new before after → HasTurned c s request old.number new before after
turned_at_once c s request old new before after up e k = (k.0, inl (sym up.owes ∙ e, k.1), k.2)

-- what is insisted on at the same event, of the same validator
moved_insisted : (c : Setting) (s : Scene) (request : Request) (ms : List Made) (k j p q : ℕ) → k ≡ j → p ≡ q → IsInsisted c s k p request ms → IsInsisted c s j q request ms
moved_insisted c s request ms k j p q e f o = subst (λ x. IsInsisted c s x q request ms) e (subst (λ x. IsInsisted c s k x request ms) f o)

pub turned_settled : (c : Setting) (s : Scene) (request : Request) (settled : Bool) (old : Validator) (q : ℕ) (mid new : Seat) (before between after : Chronicle) → IsUp c s old → old.owes ≡ true → q ≡ old.number
    → (k : HasMet c s (Hands Settle) settled old.number mid before between) → HasInsisted c (scene_next c s k.made) request q new between after → HasTurned c s request old.number new before after
turned_settled c s request settled old q mid new before between after up e f k j = (
  k.made ∷ j.0,
  inr (sym up.owes ∙ e, (k.made, j.0, refl, k.one, moved_insisted c (scene_next c s k.made) request j.0 _ _ _ _ k.event f j.1)),
  leads_on c s (k.made ∷ []) j.0 old.number q mid new before between after f (leads_once c s (Hands Settle) settled old.number mid before between k) j.2,
)

-- a turn at the same event, of the same validator
pub moved_turn : (c : Setting) (s : Scene) (request : Request) (ms : List Made) (k j p q : ℕ) → k ≡ j → p ≡ q → IsTurn c s k p request ms → IsTurn c s j q request ms
moved_turn c s request ms k j p q e f o = subst (λ x. IsTurn c s x q request ms) e (subst (λ x. IsTurn c s k x request ms) f o)

-- Where a client's last transaction stands among those that came so far.
use Rattle.std.proofs.Common.{◌≡◌, ℕ, zero, suc, ◌+◌, ◌<◌, inl, inr, Option, Some, None, List, length, get_or, set, take, replicate, true, false, refl, sym, ◌∙◌, ap, subst, arith}
use Rattle.std.specs.Prelude.{◌==◌}
use Rattle.std.proofs.lemmas.Bool.{cases_Bool, eqb-true, eqb-false}
use Rattle.std.proofs.lemmas.List.{get_or_default, get_or-set_same, get_or-set_other}
use Rattle.protocol.specs.declared.standing.Standing.{Standing}
use Rattle.protocol.specs.Values.{Tx, item, left_by}
use Rattle.proposal_validity.specs.Course.{after, items_of}
use Rattle.proposal_validity.proofs.Follows.{after_more}

-- of the first i transactions the client's last one stands there, or it has none
abbrev pub IsLastPlace : List Tx → ℕ → ℕ → Option ℕ → Type 0
IsLastPlace txs i client None = (s : Standing) → after client (items_of (take i txs)) s ≡ s
IsLastPlace txs i client (Some place) = (place < i) × ((t : Tx) → t ≡ get_or txs place t → (s : Standing) → after client (items_of (take i txs)) s ≡ left_by (item t))

abbrev pub AreLastPlaces : List Tx → ℕ → List (Option ℕ) → Type 0
AreLastPlaces txs i places = (client : ℕ) → IsLastPlace txs i client (get_or places client None)

none_at : (n client : ℕ) → get_or (replicate {A = Option ℕ} n None) client None ≡ None
none_at zero client = refl
none_at (suc n) zero = refl
none_at (suc n) (suc client) = none_at n client

-- before the first one
pub none_marked : (txs : List Tx) (n : ℕ) → AreLastPlaces txs 0 (replicate n None)
none_marked txs n client = subst (IsLastPlace txs 0 client) (sym (none_at n client)) (λ s. refl)

one_more_of_others : (txs : List Tx) (i : ℕ) (t : Tx) → i < length txs → t ≡ get_or txs i t → (client : ℕ) → (t.client == client) ≡ false → (place : Option ℕ) → IsLastPlace txs i client place → IsLastPlace txs (i + 1) client place
one_more_of_others txs i t lt is client n None h = λ s. after_more txs i t lt is client s ∙ rw n (h s)
one_more_of_others txs i t lt is client n (Some place) h = (omega (arith, h.0), λ u at s. after_more txs i t lt is client s ∙ rw n (h.1 u at s))

one_more_own : (txs : List Tx) (i : ℕ) (t : Tx) → i < length txs → t ≡ get_or txs i t → (client : ℕ) → (t.client == client) ≡ true → IsLastPlace txs (i + 1) client (Some i)
one_more_own txs i t lt is client y = (omega arith, λ u at s. after_more txs i t lt is client s ∙ rw y (ap (λ (v : Tx). left_by (item v)) (same u at)))
  where
    same : (u : Tx) → u ≡ get_or txs i u → t ≡ u
    same u at = is ∙ get_or_default txs i t u lt ∙ sym at

pub marked : (txs : List Tx) (i : ℕ) (t : Tx) → i < length txs → t ≡ get_or txs i t → (places : List (Option ℕ)) → t.client < length places → AreLastPlaces txs i places → AreLastPlaces txs (i + 1) (set places t.client (Some i))
marked txs i t lt is places room h client = elim (cases_Bool (t.client == client)) [
  | inl y ↦ (let e : get_or (set places t.client (Some i)) client None ≡ Some i = rw (← eqb-true _ _ y) (get_or-set_same places t.client (Some i) None room) in
      subst (IsLastPlace txs (i + 1) client) (sym e) (one_more_own txs i t lt is client y))
  | inr n ↦ (let e : get_or (set places t.client (Some i)) client None ≡ get_or places client None = get_or-set_other places t.client client (Some i) None (λ h. eqb-false _ _ n (sym h)) in
      subst (IsLastPlace txs (i + 1) client) (sym e) (one_more_of_others txs i t lt is client n _ (h client)))
]

-- what a place tells of its client
pub left_at_place : (txs : List Tx) (i client : ℕ) (places : List (Option ℕ)) (place : ℕ) → AreLastPlaces txs i places → get_or places client None ≡ Some place → (t : Tx) → t ≡ get_or txs place t → (s : Standing) → after client (items_of (take i txs)) s ≡ left_by (item t)
left_at_place txs i client places place h e t at s = (subst (IsLastPlace txs i client) e (h client)).1 t at s

pub left_as_before : (txs : List Tx) (i client : ℕ) (places : List (Option ℕ)) → AreLastPlaces txs i places → get_or places client None ≡ None → (s : Standing) → after client (items_of (take i txs)) s ≡ s
left_as_before txs i client places h e = subst (IsLastPlace txs i client) e (h client)

pub place_below : (txs : List Tx) (i client : ℕ) (places : List (Option ℕ)) (place : ℕ) → AreLastPlaces txs i places → get_or places client None ≡ Some place → place < i
place_below txs i client places place h e = (subst (IsLastPlace txs i client) e (h client)).0

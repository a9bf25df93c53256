-- Of lists: what holds of each element, and how long what is joined is.
use Rattle.std.proofs.Common.{◌≡◌, ℕ, zero, suc, ◌<◌, ◌≤◌, inl, inr, List, [], ◌∷◌, ◌++◌, length, flat_map, refl, sym, subst, arith, length-append}
use Rattle.std.specs.List.{AllByRecursion}
use Rattle.protocol.specs.Messages.{◌∈◌, below}
use Rattle.protocol.proofs.Membership.{in_append}

pub each_in : {X : Type 0} (P : X → Type 0) (xs : List X) → AllByRecursion P xs → (x : X) → x ∈ xs → P x
each_in P [] h x k = absurd k
each_in P (y ∷ ys) h x (inl e) = subst P (sym e) h.0
each_in P (y ∷ ys) h x (inr k) = each_in P ys h.1 x k

pub each_from : {X : Type 0} (P : X → Type 0) (xs : List X) → ((x : X) → x ∈ xs → P x) → AllByRecursion P xs
each_from P [] h = tt
each_from P (y ∷ ys) h = (h y (inl refl), each_from P ys (λ x k. h x (inr k)))

-- at most one of each
pub few_joined : {X Y : Type 0} (f : X → List Y) → ((x : X) → length (f x) ≤ 1) → (xs : List X) → length (flat_map f xs) ≤ length xs
few_joined f few [] = omega arith
few_joined f few (x ∷ xs) = omega (arith, length-append (f x) (flat_map f xs), few x, few_joined f few xs)

pub length-below : (n : ℕ) → length (below n) ≡ n
unfolding below
length-below zero = refl
length-below (suc n) = omega (arith, length-append (below n) (n ∷ []), length-below n)

pub below_less : (i n : ℕ) → i ∈ below n → i < n
unfolding below
below_less i zero k = absurd k
below_less i (suc n) k = elim (in_append i (below n) (n ∷ []) k) [
  | inl l ↦ (let h = below_less i n l in omega arith)
  | inr (inl e) ↦ omega arith
  | inr (inr none) ↦ absurd none
]

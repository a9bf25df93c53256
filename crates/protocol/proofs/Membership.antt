-- What it is to be an element of a list: of joined, mapped, filtered and cut lists, and of what a search finds.
use Rattle.std.proofs.Common.{◌≡◌, ℕ, zero, suc, ◌<◌, ◌⊎◌, inl, inr, Bool, true, false, cond, List, [], ◌∷◌, ◌++◌, refl, sym, ◌∙◌, ap, subst, arith, Some, None, map, take, drop, filter, flat_map, find}
use Rattle.std.specs.List.{list_any, list_all}
use Rattle.std.proofs.lemmas.Bool.{and_parts, or_cases, or_left, or_right, cases_Bool, cases_eq}
use Rattle.protocol.specs.Messages.{◌∈◌, below}

-- ---- joined and mapped lists

pub in_append : {X : Type 0} (x : X) (xs ys : List X) → x ∈ (xs ++ ys) → x ∈ xs ⊎ x ∈ ys
in_append x [] ys p = inr p
in_append x (z ∷ zs) ys (inl p) = inl (inl p)
in_append x (z ∷ zs) ys (inr p) = elim (in_append x zs ys p) [ inl q ↦ inl (inr q) | inr q ↦ inr q ]

pub in_left : {X : Type 0} (x : X) (xs ys : List X) → x ∈ xs → x ∈ (xs ++ ys)
in_left x [] ys p = absurd p
in_left x (z ∷ zs) ys (inl p) = inl p
in_left x (z ∷ zs) ys (inr p) = inr (in_left x zs ys p)

pub in_right : {X : Type 0} (x : X) (xs ys : List X) → x ∈ ys → x ∈ (xs ++ ys)
in_right x [] ys p = p
in_right x (z ∷ zs) ys p = inr (in_right x zs ys p)

-- what holds of each element, and of one more, holds of each
pub each_pushed : {X : Type 0} (P : X → Type 0) (xs : List X) (y : X) → ((x : X) → x ∈ xs → P x) → P y → (x : X) → x ∈ (xs ++ y ∷ []) → P x
each_pushed P xs y each one x i = elim (in_append x xs (y ∷ []) i) [ inl k ↦ each x k | inr (inl k) ↦ subst P (sym k) one | inr (inr k) ↦ absurd k ]

pub in_map : {X Y : Type 0} (f : X → Y) (y : Y) (xs : List X) → y ∈ map f xs → (x : X) × (x ∈ xs) × (f x ≡ y)
in_map f y [] p = absurd p
in_map f y (x ∷ xs) (inl p) = (x, inl refl, sym p)
in_map f y (x ∷ xs) (inr p) = let k = in_map f y xs p in (k.0, inr k.1, k.2)

pub map_in : {X Y : Type 0} (f : X → Y) (x : X) (xs : List X) → x ∈ xs → f x ∈ map f xs
map_in f x [] p = absurd p
map_in f x (y ∷ ys) (inl p) = inl (ap f p)
map_in f x (y ∷ ys) (inr p) = inr (map_in f x ys p)

pub in_flat_map : {X Y : Type 0} (f : X → List Y) (y : Y) (xs : List X) → y ∈ flat_map f xs → (x : X) × (x ∈ xs) × (y ∈ f x)
in_flat_map f y [] k = absurd k
in_flat_map f y (x ∷ xs) k = elim (in_append y (f x) (flat_map f xs) k) [ inl l ↦ (x, inl refl, l) | inr l ↦ (let n = in_flat_map f y xs l in (n.0, inr n.1, n.2)) ]

pub flat_map_in : {X Y : Type 0} (f : X → List Y) (y : Y) (x : X) (xs : List X) → x ∈ xs → y ∈ f x → y ∈ flat_map f xs
flat_map_in f y x [] k i = absurd k
flat_map_in f y x (z ∷ zs) (inl e) i = in_left y (f z) (flat_map f zs) (subst (λ a. y ∈ f a) e i)
flat_map_in f y x (z ∷ zs) (inr k) i = in_right y (f z) (flat_map f zs) (flat_map_in f y x zs k i)

-- ---- parts of a list

pub in_filter : {X : Type 0} (test : X → Bool) (x : X) (xs : List X) → x ∈ filter test xs → x ∈ xs
in_filter test x [] k = absurd k
in_filter test x (y ∷ ys) k = at_test (test y) (in_filter test x ys) k
  where
    at_test : (b : Bool) → (x ∈ filter test ys → x ∈ ys) → x ∈ cond b (y ∷ filter test ys) (filter test ys) → x ∈ (y ∷ ys)
    at_test true rest (inl e) = inl e
    at_test true rest (inr e) = inr (rest e)
    at_test false rest e = inr (rest e)

pub in_take : {X : Type 0} (n : ℕ) (x : X) (xs : List X) → x ∈ take n xs → x ∈ xs
in_take zero x xs k = absurd k
in_take (suc n) x [] k = absurd k
in_take (suc n) x (y ∷ ys) (inl e) = inl e
in_take (suc n) x (y ∷ ys) (inr k) = inr (in_take n x ys k)

pub in_drop : {X : Type 0} (n : ℕ) (x : X) (xs : List X) → x ∈ drop n xs → x ∈ xs
in_drop zero x xs k = k
in_drop (suc n) x [] k = absurd k
in_drop (suc n) x (y ∷ ys) k = inr (in_drop n x ys k)

pub in_below : (r n : ℕ) → r < n → r ∈ below n
unfolding below
in_below r zero h = absurd (omega arith)
in_below r (suc n) h = elim (cases_eq r n) [
  | inl e ↦ in_right r (below n) (n ∷ []) (inl e)
  | inr e ↦ in_left r (below n) (n ∷ []) (in_below r n (omega arith))
]

-- ---- tests and searches

pub all_in : {X : Type 0} (test : X → Bool) (x : X) (xs : List X) → x ∈ xs → list_all test xs ≡ true → test x ≡ true
all_in test x [] k h = absurd k
all_in test x (y ∷ ys) (inl e) h = subst (λ z. test z ≡ true) (sym e) (and_parts _ _ h).0
all_in test x (y ∷ ys) (inr k) h = all_in test x ys k (and_parts _ _ h).1

pub any_found : {X : Type 0} (test : X → Bool) (xs : List X) → list_any test xs ≡ true → (x : X) × (x ∈ xs) × (test x ≡ true)
any_found test [] h = absurd (let k : false ≡ true = h in cc)
any_found test (x ∷ xs) h = elim (or_cases _ _ h) [ inl k ↦ (x, inl refl, k) | inr k ↦ (let n = any_found test xs k in (n.0, inr n.1, n.2)) ]

pub any_in : {X : Type 0} (test : X → Bool) (x : X) (xs : List X) → x ∈ xs → test x ≡ true → list_any test xs ≡ true
any_in test x [] i t = absurd i
any_in test x (y ∷ ys) (inl e) t = or_left _ _ (subst (λ z. test z ≡ true) e t)
any_in test x (y ∷ ys) (inr i) t = or_right _ _ (any_in test x ys i t)

pub find_in : {X : Type 0} (test : X → Bool) (x : X) (xs : List X) → x ∈ xs → test x ≡ true → (y : X) × (find test xs ≡ Some y)
find_in test x [] i t = absurd i
find_in test x (y ∷ ys) (inl e) t = (y, rw (subst (λ z. test z ≡ true) e t) refl)
find_in test x (y ∷ ys) (inr i) t = elim (cases_Bool (test y)) [ inl u ↦ (y, rw u refl) | inr u ↦ (let f = find_in test x ys i t in (f.0, rw u f.1)) ]

-- an element that passes a test
pub record Passes {X : Type 0} (test : X → Bool) (xs : List X) (x : X) : Type 0 where
  pub there : x ∈ xs
  pub passes : test x ≡ true

pub found_in : {X : Type 0} (test : X → Bool) (xs : List X) (x : X) → find test xs ≡ Some x → Passes test xs x
found_in test [] x e = absurd (let f : None ≡ Some x = e in cc)
found_in test (y ∷ ys) x e = elim (cases_Bool (test y)) [
  | inl t ↦ (let f : cond (test y) (Some y) (find test ys) ≡ Some x = e in let g : Some y ≡ Some x = rw t at f in let k : y ≡ x = cc in record { there = inl (sym k); passes = subst (λ z. test z ≡ true) k t })
  | inr t ↦ (let f : cond (test y) (Some y) (find test ys) ≡ Some x = e in let g : find test ys ≡ Some x = rw t at f in let r = found_in test ys x g in record { there = inr r.there; passes = r.passes })
]

pub found_none : {X : Type 0} (test : X → Bool) (xs : List X) → find test xs ≡ None → (x : X) → x ∈ xs → test x ≡ true → ⊥
found_none test xs e x i t = let f = find_in test x xs i t in let g : None ≡ Some f.0 = sym e ∙ f.1 in cc

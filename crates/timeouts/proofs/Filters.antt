-- Lists that are filtered twice, and lists of which a filter leaves something.
use Rattle.std.proofs.Common.{◌≡◌, inl, inr, Bool, true, false, ◌&&◌, List, [], ◌∷◌, ◌++◌, refl, sym, ◌∙◌, ap}
use Rattle.std.specs.List.{All, filter}
use Rattle.std.proofs.lemmas.Bool.{cases_Bool}
use Rattle.std.proofs.lemmas.List.Elements.{filter_agree, All-nil, All-cons, All-head, All-tail}

and_comm : (a b : Bool) → (a && b) ≡ (b && a)
and_comm true true = refl
and_comm true false = refl
and_comm false true = refl
and_comm false false = refl

module _ {X : Type 0} where
  filter_filter : (p q : X → Bool) (xs : List X) → filter q (filter p xs) ≡ filter (λ x. p x && q x) xs
  filter_filter p q [] = refl
  filter_filter p q (x ∷ xs) = elim (cases_Bool (p x)) [
    | inl y ↦ rw (y, filter_filter p q xs) refl
    | inr n ↦ rw n (filter_filter p q xs)
  ]

  no_filter : (xs : List X) → filter (λ _. false) xs ≡ []
  no_filter [] = refl
  no_filter (x ∷ xs) = no_filter xs

  pub filter_comm : (p q : X → Bool) (xs : List X) → filter q (filter p xs) ≡ filter p (filter q xs)
  filter_comm p q xs = filter_filter p q xs ∙ filter_agree _ _ (λ x. and_comm (p x) (q x)) xs ∙ sym (filter_filter q p xs)

  -- what passes the second test passes the first
  pub filter_wide : (p q : X → Bool) → ((x : X) → q x ≡ true → p x ≡ true) → (xs : List X) → filter q (filter p xs) ≡ filter q xs
  filter_wide p q wide xs = filter_filter p q xs ∙ filter_agree (λ x. p x && q x) q (λ x. elim (cases_Bool (q x)) [
    | inl y ↦ rw (y, wide x y) refl
    | inr n ↦ rw (n, and_comm (p x) false) refl
  ]) xs

  -- what passes the second test fails the first
  pub filter_apart : (p q : X → Bool) → ((x : X) → q x ≡ true → p x ≡ false) → (xs : List X) → filter q (filter p xs) ≡ []
  filter_apart p q apart xs = filter_filter p q xs ∙ filter_agree (λ x. p x && q x) (λ _. false) (λ x. elim (cases_Bool (q x)) [
    | inl y ↦ rw (y, apart x y) refl
    | inr n ↦ rw (n, and_comm (p x) false) refl
  ]) xs ∙ no_filter xs

  -- the first element that passes, where one does
  pub record Split (p : X → Bool) (x : X) (others xs : List X) : Type 0 where
    pub before : List X
    pub behind : List X
    pub whole : xs ≡ before ++ x ∷ behind
    pub none : filter p before ≡ []
    pub rest : filter p behind ≡ others

  pub split_at_first : (p : X → Bool) (x : X) (others xs : List X) → filter p xs ≡ x ∷ others → Split p x others xs
  split_at_first p x others [] e = absurd cc
  split_at_first p x others (y ∷ ys) e = elim (cases_Bool (p y)) [
    | inl passes ↦ (let f : y ∷ filter p ys ≡ x ∷ others = rw passes at e in
        let same : y ≡ x = cc in
        let rest : filter p ys ≡ others = cc in
        record { before = []; behind = ys; whole = ap (λ (z : X). z ∷ ys) same; none = refl; rest = rest })
    | inr fails ↦ (let s = split_at_first p x others ys (rw fails at e) in
        record { before = y ∷ s.before; behind = s.behind; whole = ap (λ (zs : List X). y ∷ zs) s.whole; none = rw fails s.none; rest = s.rest })
  ]

  pub All_front : (P : X → Type 0) (xs ys : List X) → All P (xs ++ ys) → All P xs
  All_front P [] ys h = All-nil P
  All_front P (x ∷ xs) ys h = All-cons P x xs (All-head P x (xs ++ ys) h) (All_front P xs ys (All-tail P x (xs ++ ys) h))

  pub All_back : (P : X → Type 0) (xs ys : List X) → All P (xs ++ ys) → All P ys
  All_back P [] ys h = h
  All_back P (x ∷ xs) ys h = All_back P xs ys (All-tail P x (xs ++ ys) h)

-- What the searches for the lowest and the highest round find, that it is the lowest and the highest, and when they find nothing.
use Rattle.std.proofs.Common.{◌≡◌, ℕ, zero, suc, ◌<◌, ◌≤◌, ◌⊎◌, inl, inr, Bool, true, false, cond, ◌&&◌, List, [], ◌∷◌, refl, sym, ◌∙◌, ap, subst, arith, Option, Some, None, max, fold, find, take, drop, option_map, ltb-true, ltb-false}
use Rattle.std.proofs.lemmas.Bool.{and_parts, and_from, cases_Bool, cond_both, cases_lt}
use Rattle.protocol.specs.Messages.{◌∈◌, Proposal}
use Rattle.protocol.specs.Order.{is_sooner, sooner, soonest, higher, highest}
use Rattle.protocol.proofs.Membership.{Passes}

pub none_some : {X : Type 0} (x : X) → None ≡ Some x → ⊥
none_some x e = cc

pub option_map_none : {X Y : Type 0} (f : X → Y) (o : Option X) → option_map f o ≡ None → o ≡ None
option_map_none f None e = refl
option_map_none f (Some x) e = absurd (none_some (f x) (sym e))

pub option_map_some : {X Y : Type 0} (f : X → Y) (o : Option X) (y : Y) → option_map f o ≡ Some y → (x : X) × (o ≡ Some x) × (f x ≡ y)
option_map_some f None y e = absurd (none_some y e)
option_map_some f (Some x) y e = (x, refl, cc)

pub cond_some : {X : Type 0} (b : Bool) (o : Option X) (x : X) → cond b o None ≡ Some x → o ≡ Some x
cond_some b o x e = cond_both b o None (λ a. a ≡ Some x → o ≡ Some x) (λ _ k. k) (λ _ k. absurd (none_some x k)) e

-- ---- the lowest

soonest_from : (test : Proposal → Bool) (best : Option Proposal) (qs : List Proposal) (q : Proposal) → fold (sooner test) best qs ≡ Some q → (best ≡ Some q) ⊎ Passes test qs q
soonest_from test best [] q e = inl e
soonest_from test best (x ∷ qs) q e = elim (soonest_from test (sooner test best x) qs q e) [
  | inl k ↦ cond_both (test x && is_sooner x best) (Some x) best (λ o. o ≡ Some q → (best ≡ Some q) ⊎ Passes test (x ∷ qs) q)
      (λ t l. let same : x ≡ q = cc in inr (record { there = inl (sym same); passes = subst (λ a. test a ≡ true) same (and_parts _ _ t).0 }))
      (λ _ l. inl l) k
  | inr k ↦ inr (record { there = inr k.there; passes = k.passes })
]

pub soonest_passes : (test : Proposal → Bool) (qs : List Proposal) (q : Proposal) → soonest test qs ≡ Some q → Passes test qs q
soonest_passes test qs q e = elim (soonest_from test None qs q e) [ inl k ↦ absurd (none_some q k) | inr k ↦ k ]

-- nothing was found before, and none of these passes
record NoneFrom (test : Proposal → Bool) (best : Option Proposal) (qs : List Proposal) : Type 0 where
  before : best ≡ None
  each : (q : Proposal) → q ∈ qs → test q ≡ true → ⊥

none_from : (test : Proposal → Bool) (best : Option Proposal) (qs : List Proposal) → fold (sooner test) best qs ≡ None → NoneFrom test best qs
none_from test best [] e = record { before = e; each = λ q i. absurd i }
none_from test best (x ∷ qs) e =
    let k = none_from test (sooner test best x) qs e in
    cond_both (test x && is_sooner x best) (Some x) best (λ o. o ≡ None → NoneFrom test best (x ∷ qs))
    (λ _ l. absurd (none_some x (sym l)))
    (λ t l. record {
      before = l;
      each = λ q i p. elim i [
        | inl same ↦ (
            let passes : test x ≡ true = subst (λ a. test a ≡ true) same p in
            let first : is_sooner x best ≡ true = subst (λ o. is_sooner x o ≡ true) (sym l) refl in
            let both = and_from (test x) (is_sooner x best) passes first in
            let f : true ≡ false = sym both ∙ t in cc)
        | inr j ↦ k.each q j p
      ];
    }) k.before

pub soonest_none : (test : Proposal → Bool) (qs : List Proposal) → soonest test qs ≡ None → (q : Proposal) → q ∈ qs → test q ≡ true → ⊥
soonest_none test qs e = (none_from test None qs e).each

-- no lower round stood before, or is of one that passes
record Least (test : Proposal → Bool) (best : Option Proposal) (qs : List Proposal) (y : Proposal) : Type 0 where
  before : (b : Proposal) → best ≡ Some b → y.round ≤ b.round
  each : (x : Proposal) → x ∈ qs → test x ≡ true → y.round ≤ x.round

-- where the search doesn't take x, the best so far isn't of a higher round
not_sooner : (x y : Proposal) (best : Option Proposal) → is_sooner x best ≡ false → ((b : Proposal) → best ≡ Some b → y.round ≤ b.round) → y.round ≤ x.round
not_sooner x y None e before = absurd (let f : true ≡ false = e in cc)
not_sooner x y (Some b) e before = let low : b.round ≤ x.round = ltb-false x.round b.round e in let k : y.round ≤ b.round = before b refl in omega arith

least_from : (test : Proposal → Bool) (best : Option Proposal) (qs : List Proposal) (y : Proposal) → fold (sooner test) best qs ≡ Some y → Least test best qs y
least_from test best [] y e = record {
  before = λ b eb. (let same : y ≡ b = cc in let at : y.round ≡ b.round = ap (λ (q : Proposal). q.round) same in omega arith);
  each = λ x i. absurd i;
}
least_from test best (x ∷ qs) y e = cond_both (test x && is_sooner x best) (Some x) best (λ o. Least test o qs y → Least test best (x ∷ qs) y)
    (λ t l. record {
      before = λ b eb. (
          let low : x.round < b.round = ltb-true x.round b.round (subst (λ o. is_sooner x o ≡ true) eb (and_parts (test x) (is_sooner x best) t).1) in
          let k : y.round ≤ x.round = l.before x refl in
          omega arith);
      each = λ z i p. elim i [ inl same ↦ subst (λ (q : Proposal). y.round ≤ q.round) (sym same) (l.before x refl) | inr j ↦ l.each z j p ];
    })
    (λ t l. record {
      before = l.before;
      each = λ z i p. elim i [
        | inl same ↦ subst (λ (q : Proposal). y.round ≤ q.round) (sym same) (elim (cases_Bool (is_sooner x best)) [
          | inl low ↦ absurd (let both : test x && is_sooner x best ≡ true = and_from (test x) (is_sooner x best) (subst (λ (q : Proposal). test q ≡ true) same p) low in let f : true ≡ false = sym both ∙ t in cc)
          | inr high ↦ not_sooner x y best high l.before
        ])
        | inr j ↦ l.each z j p
      ];
    })
    (least_from test (sooner test best x) qs y e)

pub soonest_least : (test : Proposal → Bool) (qs : List Proposal) (y : Proposal) → soonest test qs ≡ Some y → (x : Proposal) → x ∈ qs → test x ≡ true → y.round ≤ x.round
soonest_least test qs y e = (least_from test None qs y e).each

-- ---- among the first n

-- the best so far stays, or gives way to one of a lower round
sooner_than : (test : Proposal → Bool) (b : Proposal) (qs : List Proposal) (a : Proposal) → fold (sooner test) (Some b) qs ≡ Some a → (b ≡ a) ⊎ (a.round < b.round)
sooner_than test b [] a e = inl cc
sooner_than test b (x ∷ qs) a e = cond_both (test x && is_sooner x (Some b)) (Some x) (Some b) (λ o. fold (sooner test) o qs ≡ Some a → (b ≡ a) ⊎ (a.round < b.round))
    (λ t k. let low : x.round < b.round = ltb-true x.round b.round (and_parts (test x) (is_sooner x (Some b)) t).1 in elim (sooner_than test x qs a k) [
      | inl same ↦ inr (subst (λ (q : Proposal). q.round < b.round) same low)
      | inr lower ↦ inr (omega arith)
    ])
    (λ _ k. sooner_than test b qs a k) e

soonest_split : (test : Proposal → Bool) (best : Option Proposal) (n : ℕ) (qs : List Proposal) → fold (sooner test) best qs ≡ fold (sooner test) (fold (sooner test) best (take n qs)) (drop n qs)
soonest_split test best zero qs = refl
soonest_split test best (suc n) [] = refl
soonest_split test best (suc n) (x ∷ qs) = soonest_split test (sooner test best x) n qs

-- the soonest of the first n is the soonest of all, where they are of one round
pub soonest_first : (test : Proposal → Bool) (n : ℕ) (qs : List Proposal) (b a : Proposal) → soonest test (take n qs) ≡ Some b → soonest test qs ≡ Some a → b.round ≤ a.round → b ≡ a
soonest_first test n qs b a early now le =
    let k : fold (sooner test) (Some b) (drop n qs) ≡ Some a = subst (λ o. fold (sooner test) o (drop n qs) ≡ Some a) early (sym (soonest_split test None n qs) ∙ now) in
    elim (sooner_than test b (drop n qs) a k) [ inl same ↦ same | inr lower ↦ absurd (omega arith) ]

-- what is found among the first n is found among all
pub find_first : (test : Proposal → Bool) (n : ℕ) (qs : List Proposal) → (find test (take n qs) ≡ None) ⊎ (find test (take n qs) ≡ find test qs)
find_first test zero qs = inl refl
find_first test (suc n) [] = inl refl
find_first test (suc n) (x ∷ qs) = elim (cases_Bool (test x)) [
  | inl t ↦ inr (rw t refl)
  | inr f ↦ elim (find_first test n qs) [ inl none ↦ inl (rw f none) | inr same ↦ inr (rw f same) ]
]

-- ---- the highest

abbrev taking : (ℕ → Bool) → Option ℕ → ℕ → Option ℕ
taking test best r = cond (test r) (Some (higher best r)) best

abbrev IsGood : (ℕ → Bool) → Option ℕ → Type 0
IsGood test None = Unit {0}
IsGood test (Some r) = test r ≡ true

either_max : (a b : ℕ) → (max a b ≡ a) ⊎ (max a b ≡ b)
either_max a b = elim (cases_lt a b) [ inl k ↦ inr (omega arith) | inr k ↦ inl (omega arith) ]

higher_good : (test : ℕ → Bool) (best : Option ℕ) (r : ℕ) → IsGood test best → test r ≡ true → test (higher best r) ≡ true
higher_good test None r g t = t
higher_good test (Some b) r g t = elim (either_max b r) [ inl e ↦ subst (λ n. test n ≡ true) (sym e) g | inr e ↦ subst (λ n. test n ≡ true) (sym e) t ]

highest_good : (test : ℕ → Bool) (best : Option ℕ) (rs : List ℕ) → IsGood test best → IsGood test (fold (taking test) best rs)
highest_good test best [] g = g
highest_good test best (r ∷ rs) g = highest_good test (taking test best r) rs (cond_both (test r) (Some (higher best r)) best (IsGood test) (λ t. higher_good test best r g t) (λ _. g))

pub highest_passes : (test : ℕ → Bool) (rs : List ℕ) (r : ℕ) → highest test rs ≡ Some r → test r ≡ true
highest_passes test rs r e = subst (IsGood test) e (highest_good test None rs tt)

some_stays : (test : ℕ → Bool) (b : ℕ) (rs : List ℕ) → fold (taking test) (Some b) rs ≡ None → ⊥
some_stays test b [] e = none_some b (sym e)
some_stays test b (r ∷ rs) e = cond_both (test r) (Some (higher (Some b) r)) (Some b) (λ o. fold (taking test) o rs ≡ None → ⊥) (λ _. some_stays test (higher (Some b) r) rs) (λ _. some_stays test b rs) e

pub highest_none : (test : ℕ → Bool) (rs : List ℕ) → highest test rs ≡ None → (r : ℕ) → r ∈ rs → test r ≡ true → ⊥
highest_none test [] e r i t = absurd i
highest_none test (x ∷ rs) e r i t = cond_both (test x) (Some x) None (λ o. (o ≡ None → test x ≡ false) → fold (taking test) o rs ≡ None → ⊥)
    (λ _ _ l. some_stays test x rs l)
    (λ f _ l. elim i [ inl same ↦ (let p : test x ≡ true = subst (λ n. test n ≡ true) same t in let g : true ≡ false = sym p ∙ f in cc) | inr j ↦ highest_none test rs l r j t ])
    (λ l. elim (cases_Bool (test x)) [ inl p ↦ absurd (let q : cond (test x) (Some x) None ≡ None = l in let s : Some x ≡ None = rw p at q in none_some x (sym s)) | inr p ↦ p ]) e

-- no higher number stood before, or passes
record Most (test : ℕ → Bool) (best : Option ℕ) (rs : List ℕ) (y : ℕ) : Type 0 where
  before : (b : ℕ) → best ≡ Some b → b ≤ y
  each : (r : ℕ) → r ∈ rs → test r ≡ true → r ≤ y

up_to_higher : (best : Option ℕ) (r : ℕ) → r ≤ higher best r
up_to_higher None r = omega arith
up_to_higher (Some b) r = omega arith

most_from : (test : ℕ → Bool) (best : Option ℕ) (rs : List ℕ) (y : ℕ) → fold (taking test) best rs ≡ Some y → Most test best rs y
most_from test best [] y e = record { before = λ b eb. (let same : y ≡ b = cc in omega arith); each = λ r i. absurd i }
most_from test best (x ∷ rs) y e = cond_both (test x) (Some (higher best x)) best (λ o. Most test o rs y → Most test best (x ∷ rs) y)
    (λ t m. let top : higher best x ≤ y = m.before (higher best x) refl in record {
      before = λ b eb. (let k : max b x ≤ y = subst (λ o. higher o x ≤ y) eb top in omega arith);
      each = λ r i p. elim i [ inl same ↦ (let k = up_to_higher best x in omega arith) | inr j ↦ m.each r j p ];
    })
    (λ t m. record {
      before = m.before;
      each = λ r i p. elim i [ inl same ↦ absurd (let k : test x ≡ true = subst (λ n. test n ≡ true) same p in let f : true ≡ false = sym k ∙ t in cc) | inr j ↦ m.each r j p ];
    })
    (most_from test (taking test best x) rs y e)

pub highest_most : (test : ℕ → Bool) (rs : List ℕ) (y : ℕ) → highest test rs ≡ Some y → (r : ℕ) → r ∈ rs → test r ≡ true → r ≤ y
highest_most test rs y e = (most_from test None rs y e).each

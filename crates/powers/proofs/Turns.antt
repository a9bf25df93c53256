-- Who proposes, and how often.
use Rattle.std.proofs.Common.{◌≡◌, ℕ, zero, suc, ◌+◌, ◌-◌, ◌%◌, ◌<◌, ◌≤◌, Bool, true, false, cond, not, nat_lt, nat_eq, List, [], ◌∷◌, length, take, get_or, refl, sym, ap, ◌∙◌, arith, lt-ltb, le-ltb, inl, inr}
use Rattle.std.specs.List.{count_by, prefix_len, range_with_len}
use Rattle.std.proofs.lemmas.Bool.{cases_lt}
use Rattle.std.proofs.lemmas.List.Sums.{sum_by-cons}
use Rattle.std.proofs.Math.Nat.{add-mod_right, mod-lt, mod-eq_of_lt}
use Rattle.std.proofs.Math.Dec.{eqb-suc-zero, eqb-zero-suc, eqb-suc-suc}
use Rattle.powers.specs.Power.{total, first_above, proposer, TurnsByPower, EqualPowersInTurn}

-- ---- the first above, from the first validator on

prefix_same : (f g : ℕ → Bool) → ((i : ℕ) → f i ≡ g i) → (xs : List ℕ) → prefix_len f xs ≡ prefix_len g xs
prefix_same f g same [] = refl
prefix_same f g same (x ∷ xs) = ap (λ (b : Bool). cond b (1 + prefix_len f xs) 0) (same x) ∙ ap (λ (n : ℕ). cond (g x) (1 + n) 0) (prefix_same f g same xs)

prefix_shift : (f : ℕ → Bool) (a n : ℕ) → prefix_len f (range_with_len (a + 1) n) ≡ prefix_len (λ i. f (suc i)) (range_with_len a n)
prefix_shift f a zero = refl
prefix_shift f a (suc n) = let e : a + 1 ≡ suc a = omega arith in ap (λ i. cond (f i) (1 + prefix_len f (range_with_len (a + 1 + 1) n)) 0) e ∙ ap (λ (m : ℕ). cond (f (suc a)) (1 + m) 0) (prefix_shift f (a + 1) n)

-- where the first doesn't have more alone
past_first : (p : ℕ) (ps : List ℕ) (k i : ℕ) → p ≤ k → nat_lt k (total (take (suc (suc i)) (p ∷ ps))) ≡ nat_lt (k - p) (total (take (suc i) ps))
past_first p ps k i le =
    let n : ℕ = total (take (suc i) ps) in
    elim (cases_lt (k - p) n) [
      | inl lt ↦ lt-ltb k (p + n) (omega arith) ∙ sym (lt-ltb (k - p) n lt)
      | inr ge ↦ le-ltb k (p + n) (omega arith) ∙ sym (le-ltb (k - p) n ge)
    ]

pub first_above-cons : (p : ℕ) (ps : List ℕ) (k : ℕ) → first_above (p ∷ ps) k ≡ cond (nat_lt k p) 0 (suc (first_above ps (k - p)))
first_above-cons p ps k = elim (cases_lt k p) [
  | inl lt ↦ ap (λ b. cond (not b) (1 + rest) 0) (lt-ltb k (p + 0) (omega arith)) ∙ sym (ap (λ b. cond b 0 (suc (first_above ps (k - p)))) (lt-ltb k p lt))
  | inr ge ↦
      let shifted = prefix_shift (λ i. not (nat_lt k (total (take (suc i) (p ∷ ps))))) 0 (length ps) in
      let same = prefix_same (λ i. not (nat_lt k (total (take (suc (suc i)) (p ∷ ps))))) (λ i. not (nat_lt (k - p) (total (take (suc i) ps)))) (λ i. ap not (past_first p ps k i ge)) (range_with_len 0 (length ps)) in
      ap (λ b. cond (not b) (1 + rest) 0) (le-ltb k (p + 0) (omega arith)) ∙ ap (λ n. 1 + n) (shifted ∙ same) ∙ (omega arith) ∙ sym (ap (λ b. cond b 0 (suc (first_above ps (k - p)))) (le-ltb k p ge))
]
  where
    rest : ℕ
    rest = prefix_len (λ i. not (nat_lt k (total (take (suc i) (p ∷ ps))))) (range_with_len 1 (length ps))

pub first_here : (p : ℕ) (ps : List ℕ) (k : ℕ) → k < p → first_above (p ∷ ps) k ≡ 0
first_here p ps k lt = first_above-cons p ps k ∙ ap (λ b. cond b 0 (suc (first_above ps (k - p)))) (lt-ltb k p lt)

pub first_later : (p : ℕ) (ps : List ℕ) (k : ℕ) → first_above (p ∷ ps) (p + k) ≡ suc (first_above ps k)
first_later p ps k =
    let e : p + k - p ≡ k = omega arith in
    first_above-cons p ps (p + k) ∙ ap (λ b. cond b 0 (suc (first_above ps (p + k - p)))) (le-ltb (p + k) p (omega arith)) ∙ ap (λ n. suc (first_above ps n)) e

-- ---- a walk over the powers

pub found : (ps : List ℕ) (rest i : ℕ) → i < length ps → rest < get_or ps i 0 → first_above ps (rest + total (take i ps)) ≡ i
found [] rest i l h = absurd (omega arith)
found (p ∷ ps) rest zero l h = let e : rest + 0 ≡ rest = omega arith in ap (first_above (p ∷ ps)) e ∙ first_here p ps rest h
found (p ∷ ps) rest (suc i) l h =
    let e : rest + total (take (suc i) (p ∷ ps)) ≡ p + (rest + total (take i ps)) = omega arith in
    ap (first_above (p ∷ ps)) e ∙ first_later p ps (rest + total (take i ps)) ∙ ap (λ n. suc n) (found ps rest i (omega arith) h)

pub not_found : (ps : List ℕ) (rest : ℕ) → first_above ps (rest + total ps) ≡ length ps
not_found [] rest = refl
not_found (p ∷ ps) rest =
    let e : rest + total (p ∷ ps) ≡ p + (rest + total ps) = omega arith in
    ap (first_above (p ∷ ps)) e ∙ first_later p ps (rest + total ps) ∙ ap (λ n. suc n) (not_found ps rest)

pub within : (ps : List ℕ) (k : ℕ) → k < total ps → first_above ps k < length ps
within [] k h = absurd (omega arith)
within (p ∷ ps) k h = elim (cases_lt k p) [
  | inl lt ↦ omega (arith, first_here p ps k lt)
  | inr ge ↦
      let e : p + (k - p) ≡ k = omega arith in
      let later : first_above (p ∷ ps) k ≡ suc (first_above ps (k - p)) = ap (first_above (p ∷ ps)) (sym e) ∙ first_later p ps (k - p) in
      omega (arith, later, within ps (k - p) (omega arith))
]

pub some_power : (ps : List ℕ) → 0 < length ps → 0 < get_or ps 0 0 → 0 < total ps
some_power [] l h = absurd (omega arith)
some_power (p ∷ ps) l h = omega arith

-- where each has power 1
pub equal_above : (ps : List ℕ) → ((i : ℕ) → i < length ps → get_or ps i 1 ≡ 1) → (k : ℕ) → k < length ps → first_above ps k ≡ k
equal_above [] one k h = absurd (omega arith)
equal_above (p ∷ ps) one zero h = first_here p ps 0 (let e : p ≡ 1 = one 0 (omega arith) in omega arith)
equal_above (p ∷ ps) one (suc k) h =
    let e : p ≡ 1 = one 0 (omega arith) in
    let f : p + k ≡ suc k = omega arith in
    ap (first_above (p ∷ ps)) (sym f) ∙ first_later p ps k ∙ ap (λ n. suc n) (equal_above ps (λ i l. one (suc i) (omega arith)) k (omega arith))

pub equal_total : (ps : List ℕ) → ((i : ℕ) → i < length ps → get_or ps i 1 ≡ 1) → total ps ≡ length ps
equal_total [] one = refl
equal_total (p ∷ ps) one = let e : p ≡ 1 = one 0 (omega arith) in omega (arith, e, equal_total ps (λ i l. one (suc i) (omega arith)))

pub equal_powers_in_turn : EqualPowersInTurn
unfolding proposer
equal_powers_in_turn powers each some height round =
    let one : (i : ℕ) → i < length powers → get_or powers i 1 ≡ 1 = λ i l. each i 1 l in
    let e = equal_total powers one in
    ap (λ n. first_above powers ((height + round) % n)) e ∙ equal_above powers one ((height + round) % length powers) (mod-lt (height + round) some)

-- ---- how often

-- at how many numbers below n the test says yes
times : (ℕ → Bool) → ℕ → ℕ
times f zero = 0
times f (suc n) = cond (f 0) 1 0 + times (λ k. f (suc k)) n

times_same : (f g : ℕ → Bool) (n : ℕ) → ((k : ℕ) → k < n → f k ≡ g k) → times f n ≡ times g n
unfolding times
times_same f g zero same = refl
times_same f g (suc n) same = ap (λ (b : Bool). cond b 1 0 + times (λ k. f (suc k)) n) (same 0 (omega arith)) ∙ ap (λ (m : ℕ). cond (g 0) 1 0 + m) (times_same (λ k. f (suc k)) (λ k. g (suc k)) n (λ k l. same (suc k) (omega arith)))

times_split : (f : ℕ → Bool) (m n : ℕ) → times f (m + n) ≡ times f m + times (λ k. f (m + k)) n
unfolding times
times_split f zero n =
    let e : 0 + n ≡ n = omega arith in
    let same = times_same (λ k. f (0 + k)) f n (λ k l. let z : 0 + k ≡ k = omega arith in ap f z) in
    ap (times f) e ∙ omega (arith, same)
times_split f (suc m) n =
    let e : suc m + n ≡ suc (m + n) = omega arith in
    let same = times_same (λ k. f (suc m + k)) (λ k. f (suc (m + k))) n (λ k l. let z : suc m + k ≡ suc (m + k) = omega arith in ap f z) in
    ap (times f) e ∙ omega (arith, same, times_split (λ k. f (suc k)) m n)

times_never : (n : ℕ) → times (λ _. false) n ≡ 0
unfolding times
times_never zero = refl
times_never (suc n) = let e = times_never n in omega arith

times_always : (n : ℕ) → times (λ _. true) n ≡ n
unfolding times
times_always zero = refl
times_always (suc n) = let e = times_always n in omega arith

count_is : (f : ℕ → Bool) (from n : ℕ) → count_by f (range_with_len from n) ≡ times (λ k. f (from + k)) n
unfolding times
count_is f from zero = refl
count_is f from (suc n) =
    let here : f from ≡ f (from + 0) = let z : from ≡ from + 0 = omega arith in ap f z in
    let rest = times_same (λ k. f (from + 1 + k)) (λ k. f (from + suc k)) n (λ k l. let z : from + 1 + k ≡ from + suc k = omega arith in ap f z) in
    sum_by-cons (λ x. cond (f x) 1 0) from (range_with_len (from + 1) n) ∙ ap (λ (b : Bool). cond b 1 0 + count_by f (range_with_len (from + 1) n)) here ∙ ap (λ (m : ℕ). cond (f (from + 0)) 1 0 + m) (count_is f (from + 1) n ∙ rest)

-- one number further, where the numbers come again and again
times_next : (f : ℕ → Bool) (n : ℕ) → f n ≡ f 0 → times (λ k. f (suc k)) n ≡ times f n
unfolding times
times_next f n again =
    let all : times f (n + 1) ≡ times f n + (cond (f (n + 0)) 1 0 + 0) = times_split f n 1 in
    let e : n + 1 ≡ suc n = omega arith in
    let z : n + 0 ≡ n = omega arith in
    let from_first : times f (suc n) ≡ cond (f 0) 1 0 + times (λ k. f (suc k)) n = refl in
    let last : cond {A = ℕ} (f (n + 0)) 1 0 ≡ cond {A = ℕ} (f 0) 1 0 = ap {A = Bool} {B = ℕ} (λ b. cond b 1 0) (ap f z ∙ again) in
    let h : times f (n + 1) ≡ times f (suc n) = ap (times f) e in
    omega arith

times_round : (f : ℕ → Bool) (from n : ℕ) → 0 < n → times (λ k. f ((from + k) % n)) n ≡ times f n
times_round f zero n some = times_same (λ k. f ((0 + k) % n)) f n (λ k l. let z : 0 + k ≡ k = omega arith in ap f (ap (λ m. m % n) z ∙ mod-eq_of_lt l))
times_round f (suc from) n some =
    let same = times_same (λ k. f ((suc from + k) % n)) (λ k. f ((from + suc k) % n)) n (λ k l. let z : suc from + k ≡ from + suc k = omega arith in ap (λ m. f (m % n)) z) in
    let again : f ((from + n) % n) ≡ f ((from + 0) % n) = let z : from ≡ from + 0 = omega arith in ap f (add-mod_right from n ∙ ap (λ m. m % n) z) in
    same ∙ times_next (λ k. f ((from + k) % n)) n again ∙ times_round f from n some

-- below the total, each is the first above as often as it has power
times_first : (ps : List ℕ) (i : ℕ) → times (λ k. nat_eq (first_above ps k) i) (total ps) ≡ get_or ps i 0
unfolding times
times_first [] i = refl
times_first (p ∷ ps) i =
    times_split (λ k. nat_eq (first_above (p ∷ ps) k) i) p (total ps) ∙ parts (times_first ps) i
  where
    first : (i : ℕ) → times (λ k. nat_eq (first_above (p ∷ ps) k) i) p ≡ times (λ _. nat_eq 0 i) p
    first i = times_same _ _ p (λ k l. ap (λ n. nat_eq n i) (first_here p ps k l))

    later : (i : ℕ) → times (λ k. nat_eq (first_above (p ∷ ps) (p + k)) i) (total ps) ≡ times (λ k. nat_eq (suc (first_above ps k)) i) (total ps)
    later i = times_same _ _ (total ps) (λ k l. ap (λ n. nat_eq n i) (first_later p ps k))

    parts : ((i : ℕ) → times (λ k. nat_eq (first_above ps k) i) (total ps) ≡ get_or ps i 0) → (i : ℕ) → times (λ k. nat_eq (first_above (p ∷ ps) k) i) p + times (λ k. nat_eq (first_above (p ∷ ps) (p + k)) i) (total ps) ≡ get_or (p ∷ ps) i 0
    parts rest zero =
        let none = times_same (λ k. nat_eq (suc (first_above ps k)) 0) (λ _. false) (total ps) (λ k l. eqb-suc-zero (first_above ps k)) in
        omega (arith, first 0, times_always p, later 0, none, times_never (total ps))
    parts rest (suc i) =
        let none = times_same (λ _. nat_eq 0 (suc i)) (λ _. false) p (λ k l. eqb-zero-suc i) in
        let same = times_same (λ k. nat_eq (suc (first_above ps k)) (suc i)) (λ k. nat_eq (first_above ps k) i) (total ps) (λ k l. eqb-suc-suc (first_above ps k) i) in
        omega (arith, first (suc i), none, times_never p, later (suc i), same, rest i)

pub turns_by_power : TurnsByPower
unfolding proposer
turns_by_power powers height round sum from i =
    let n : ℕ = total powers in
    let turn : ℕ → Bool = λ k. nat_eq (first_above powers k) i in
    let here = times_same (λ k. nat_eq (proposer powers (height (from + k)) (round (from + k))) i) (λ k. turn ((from + k) % n)) n (λ k l. ap (λ m. turn (m % n)) (sum (from + k))) in
    count_is (λ m. nat_eq (proposer powers (height m) (round m)) i) from n ∙ here ∙ elim (cases_lt 0 n) [
      | inl some ↦ times_round turn from n some ∙ times_first powers i
      | inr none ↦ times_same (λ k. turn ((from + k) % n)) turn n (λ k l. absurd (omega arith)) ∙ times_first powers i
    ]

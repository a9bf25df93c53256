-- What two sets of validators share.
use Rattle.std.proofs.Common.{◌≡◌, ℕ, zero, suc, ◌+◌, ◌*◌, ◌<◌, ◌≤◌, Bool, true, false, cond, ◌&&◌, List, [], ◌∷◌, length, take, get_or, refl, ap, ◌∙◌, arith}
use Rattle.std.proofs.lemmas.Bool.{and_parts, ltb-true, lt-ltb}
use Rattle.powers.specs.Power.{power, total, is_quorum, is_weak, IsQuorum, QuorumsShare, QuorumsShareHonest}

-- one validator's part in two sets, and in what they share
at_one : (a b : Bool) (p : ℕ) → cond a p 0 + cond b p 0 ≤ p + cond (a && b) p 0
at_one true true p = omega arith
at_one true false p = omega arith
at_one false true p = omega arith
at_one false false p = omega arith

pub shared_power : (powers : List ℕ) (one other : ℕ → Bool) → power powers one + power powers other ≤ total powers + power powers (λ i. one i && other i)
shared_power [] one other = omega arith
shared_power (p ∷ ps) one other = omega (arith, at_one (one 0) (other 0) p, shared_power ps (λ i. one (suc i)) (λ i. other (suc i)))

-- the first validator, or one of the rest
at_first : (p : ℕ) (ps : List ℕ) (few many : ℕ → Bool) (f m : Bool) → few 0 ≡ f → many 0 ≡ m → cond f p 0 + power ps (λ i. few (suc i)) < cond m p 0 + power ps (λ i. many (suc i))
    → (power ps (λ i. few (suc i)) < power ps (λ i. many (suc i)) → (i : ℕ) × (i < length ps) × (few (suc i) ≡ false) × (many (suc i) ≡ true))
    → (i : ℕ) × (i < length (p ∷ ps)) × (few i ≡ false) × (many i ≡ true)
at_first p ps few many false true ef em h next = (0, omega arith, ef, em)
at_first p ps few many true true ef em h next = let n = next (omega arith) in (suc n.0, omega arith, n.2, n.3)
at_first p ps few many false false ef em h next = let n = next (omega arith) in (suc n.0, omega arith, n.2, n.3)
at_first p ps few many true false ef em h next = let n = next (omega arith) in (suc n.0, omega arith, n.2, n.3)

-- a set of more power has a member outside the other
pub some_outside : (powers : List ℕ) (few many : ℕ → Bool) → power powers few < power powers many → (i : ℕ) × (i < length powers) × (few i ≡ false) × (many i ≡ true)
some_outside [] few many h = absurd (omega arith)
some_outside (p ∷ ps) few many h = at_first p ps few many (few 0) (many 0) refl refl h (some_outside ps (λ i. few (suc i)) (λ i. many (suc i)))

pub quorums_share : QuorumsShare
unfolding is_quorum is_weak
quorums_share powers one other a b =
    let a' : 2 * total powers < 3 * power powers one = ltb-true _ _ a in
    let b' : 2 * total powers < 3 * power powers other = ltb-true _ _ b in
    lt-ltb _ _ (omega (arith, shared_power powers one other))

pub quorums_share_honest : QuorumsShareHonest
unfolding is_quorum
quorums_share_honest powers liars one other few a b =
    let a' : 2 * total powers < 3 * power powers one = ltb-true _ _ a in
    let b' : 2 * total powers < 3 * power powers other = ltb-true _ _ b in
    let s = some_outside powers liars (λ i. one i && other i) (omega (arith, shared_power powers one other)) in
    let parts = and_parts (one s.0) (other s.0) s.3 in
    (s.0, s.1, s.2, parts.0, parts.1)

-- a larger set has at least as much power
pub power_le : (ps : List ℕ) (a b : ℕ → Bool) → ((i : ℕ) → i < length ps → a i ≡ true → b i ≡ true) → power ps a ≤ power ps b
power_le [] a b h = omega arith
power_le (p ∷ ps) a b h =
    let rest = power_le ps (λ i. a (suc i)) (λ i. b (suc i)) (λ i l e. h (suc i) (omega arith) e) in
    at_head (a 0) (b 0) (λ e. h 0 (omega arith) e) rest
  where
    at_head : (x y : Bool) → (x ≡ true → y ≡ true) → power ps (λ i. a (suc i)) ≤ power ps (λ i. b (suc i)) → cond x p 0 + power ps (λ i. a (suc i)) ≤ cond y p 0 + power ps (λ i. b (suc i))
    at_head true true k r = omega arith
    at_head true false k r = absurd (let f : false ≡ true = k refl in cc)
    at_head false true k r = omega arith
    at_head false false k r = omega arith

pub quorum_more : (ps : List ℕ) (a b : ℕ → Bool) → ((i : ℕ) → i < length ps → a i ≡ true → b i ≡ true) → IsQuorum ps a → IsQuorum ps b
unfolding is_quorum
quorum_more ps a b h q = let k : 2 * total ps < 3 * power ps a = ltb-true _ _ q in let l = power_le ps a b h in lt-ltb _ _ (omega arith)

pub no_power : (ps : List ℕ) → power ps (λ _. false) ≡ 0
no_power [] = refl
no_power (p ∷ ps) = let f = no_power ps in omega arith

-- ---- a walk over the powers

-- the same members, the same power
pub power_agrees : (ps : List ℕ) (a b : ℕ → Bool) → ((i : ℕ) → i < length ps → a i ≡ b i) → power ps a ≡ power ps b
power_agrees [] a b same = refl
power_agrees (p ∷ ps) a b same = ap (λ (m : Bool). cond m p 0 + power ps (λ i. a (suc i))) (same 0 (omega arith)) ∙ ap (λ (n : ℕ). cond (b 0) p 0 + n) (power_agrees ps (λ i. a (suc i)) (λ i. b (suc i)) (λ i lt. same (suc i) (omega arith)))

-- one validator more
pub power_more : (ps : List ℕ) (s : ℕ → Bool) (i : ℕ) → i < length ps → power (take (i + 1) ps) s ≡ power (take i ps) s + cond (s i) (get_or ps i 0) 0
power_more [] s i h = absurd (omega arith)
power_more (p ∷ ps) s zero h = omega arith
power_more (p ∷ ps) s (suc i) h = let e = power_more ps (λ k. s (suc k)) i (omega arith) in let a : suc i + 1 ≡ suc (i + 1) = omega arith in rw a (omega (arith, e))

-- a beginning has at most the whole's
pub power_most : (ps : List ℕ) (i : ℕ) (s : ℕ → Bool) → power (take i ps) s ≤ total ps
power_most [] zero s = omega arith
power_most [] (suc i) s = omega arith
power_most (p ∷ ps) zero s = omega arith
power_most (p ∷ ps) (suc i) s = omega (arith, one (s 0), power_most ps i (λ k. s (suc k)))
  where
    one : (b : Bool) → cond b p 0 ≤ p
    one true = omega arith
    one false = omega arith

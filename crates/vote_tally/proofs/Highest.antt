-- The highest of the numbers that pass a test.
use Rattle.std.proofs.Common.{◌≡◌, ℕ, ◌*◌, ◌<◌, Bool, true, false, ◌&&◌, cond, List, [], ◌∷◌, ◌++◌, map, fold, max, Option, Some, None, IfSome, refl, sym, ap, subst, ◌∙◌, inl, inr, arith, ltb-true, lt-ltb, eqb-true}
use Rattle.std.specs.Prelude.{◌==◌}
use Rattle.std.proofs.lemmas.Bool.{and_parts, or_cases, cases_lt, cases_eq, cond_both, false≢true}
use Rattle.powers.specs.Power.{power, total, is_weak}
use Rattle.powers.proofs.Quorums.{some_outside, no_power, power_le}
use Rattle.protocol.specs.Messages.{◌∈◌, Proposal, Vote}
use Rattle.protocol.specs.Tally.{senders, proposers, speakers, power_above}
use Rattle.protocol.specs.Order.{higher, highest}
use Rattle.protocol.proofs.Membership.{in_left, in_right, map_in, any_found}
use Rattle.vote_tally.specs.Kept.{Kept, rounds_of, highest_weak}
use Rattle.vote_tally.specs.Told.{Reaches, IsHighest}

-- ---- the highest of a list

abbrev taking : (ℕ → Bool) → Option ℕ → ℕ → Option ℕ
taking test best r = cond (test r) (Some (higher best r)) best

pub higher_keeps : (P : ℕ → Type 0) (best : Option ℕ) (r : ℕ) → IfSome best P → P r → P (higher best r)
higher_keeps P None r h p = p
higher_keeps P (Some b) r h p = elim (cases_lt b r) [
  | inl k ↦ (let e : max b r ≡ r = omega arith in subst P (sym e) p)
  | inr k ↦ (let e : max b r ≡ b = omega arith in subst P (sym e) h)
]

-- what holds of each number that passes holds of the highest
keeps : (P : ℕ → Type 0) (test : ℕ → Bool) (best : Option ℕ) (rs : List ℕ) → IfSome best P → ((r : ℕ) → r ∈ rs → test r ≡ true → P r) → IfSome (fold (taking test) best rs) P
keeps P test best [] h each = h
keeps P test best (r ∷ rs) h each =
    keeps P test (taking test best r) rs
    (cond_both (test r) (Some (higher best r)) best (λ o. IfSome o P) (λ t. higher_keeps P best r h (each r (inl refl) t)) (λ _. h))
    (λ n i t. each n (inr i) t)

higher_reaches : (best : Option ℕ) (x r : ℕ) → Reaches best r → Reaches (Some (higher best x)) r
higher_reaches None x r h = absurd h
higher_reaches (Some b) x r h = omega (arith, h)

still_reaches : (test : ℕ → Bool) (best : Option ℕ) (rs : List ℕ) (r : ℕ) → Reaches best r → Reaches (fold (taking test) best rs) r
still_reaches test best [] r h = h
still_reaches test best (x ∷ rs) r h = still_reaches test (taking test best x) rs r (cond_both (test x) (Some (higher best x)) best (λ o. Reaches o r) (λ _. higher_reaches best x r h) (λ _. h))

higher_own : (best : Option ℕ) (r : ℕ) → Reaches (Some (higher best r)) r
higher_own None r = omega arith
higher_own (Some b) r = omega arith

-- the highest is at least each number that passes
reaches : (test : ℕ → Bool) (best : Option ℕ) (rs : List ℕ) (r : ℕ) → r ∈ rs → test r ≡ true → Reaches (fold (taking test) best rs) r
reaches test best [] r i t = absurd i
reaches test best (x ∷ rs) r (inl e) t =
    still_reaches test (taking test best x) rs r (rw (← e, t) (higher_own best r))
reaches test best (x ∷ rs) r (inr i) t = reaches test (taking test best x) rs r i t

both_reach : (o p : Option ℕ) → IfSome o (Reaches p) → IfSome p (Reaches o) → o ≡ p
both_reach None None a b = refl
both_reach None (Some m) a b = absurd b
both_reach (Some n) None a b = absurd a
both_reach (Some n) (Some m) a b = let e : n ≡ m = omega (arith, a, b) in ap (λ (k : ℕ). Some k) e

if_some : {P Q : ℕ → Type 0} (o : Option ℕ) → ((r : ℕ) → P r → Q r) → IfSome o P → IfSome o Q
if_some None f h = tt
if_some (Some r) f h = f r h

-- the highest of the list's numbers that pass
pub highest_found : (test : ℕ → Bool) (rs : List ℕ) → IfSome (highest test rs) (λ b. (b ∈ rs) × (test b ≡ true)) × ((r : ℕ) → r ∈ rs → test r ≡ true → Reaches (highest test rs) r)
highest_found test rs = (keeps (λ b. (b ∈ rs) × (test b ≡ true)) test None rs tt (λ r i t. (i, t)), λ r i t. reaches test None rs r i t)

-- and nothing else is
pub highest_only : (test : ℕ → Bool) (rs : List ℕ) (best : Option ℕ) → IfSome best (λ b. (b ∈ rs) × (test b ≡ true)) → ((r : ℕ) → r ∈ rs → test r ≡ true → Reaches best r) → best ≡ highest test rs
highest_only test rs best one each = both_reach best (highest test rs)
    (if_some best (λ r p. reaches test None rs r p.0 p.1) one)
    (keeps (Reaches best) test None rs tt each)

-- ---- one round grown

pub highest_more : (test more : ℕ → Bool) (best : Option ℕ) (round : ℕ) (weak : Bool) → IsHighest test best → weak ≡ more round → ((r : ℕ) → (round ≡ r → ⊥) → more r ≡ test r) → ((r : ℕ) → test r ≡ true → more r ≡ true)
    → IsHighest more (cond weak (Some (higher best round)) best)
highest_more test more best round true h is others grows = record {
  each = λ r t. elim (cases_eq round r) [
    | inl e ↦ subst (λ n. Reaches (Some (higher best round)) n) e (higher_own best round)
    | inr ne ↦ higher_reaches best round r (h.each r (sym (others r ne) ∙ t))
  ];
  one = higher_keeps (λ r. more r ≡ true) best round (if_some best grows h.one) (sym is);
}
highest_more test more best round false h is others grows = record {
  each = λ r t. elim (cases_eq round r) [
    | inl e ↦ absurd (false≢true (is ∙ ap more e ∙ t))
    | inr ne ↦ h.each r (sym (others r ne) ∙ t)
  ];
  one = if_some best grows h.one;
}

-- more power is a weak quorum's, if less is
pub weak_grows : (powers : List ℕ) (a b : ℕ → Bool) → ((i : ℕ) → a i ≡ true → b i ≡ true) → is_weak powers (power powers a) ≡ true → is_weak powers (power powers b) ≡ true
unfolding is_weak
weak_grows powers a b more e =
    let k : total powers < 3 * power powers a = ltb-true _ _ e in
    let l = power_le powers a b (λ i lt t. more i t) in
    lt-ltb _ _ (omega (arith, k, l))

-- ---- rounds of a weak quorum

-- a weak quorum has a member
pub weak_member : (powers : List ℕ) (set : ℕ → Bool) → is_weak powers (power powers set) ≡ true → (i : ℕ) × (set i ≡ true)
unfolding is_weak
weak_member powers set e =
    let more : total powers < 3 * power powers set = ltb-true _ _ e in
    let none = no_power powers in
    let f = some_outside powers (λ _. false) set (omega (arith, more, none)) in
    (f.0, f.3)

-- who speaks in a round has a message of it
speaks_in : (qs : List Proposal) (vs : List Vote) (round i : ℕ) → speakers qs vs round i ≡ true → round ∈ (map (λ (q : Proposal). q.round) qs ++ map (λ (v : Vote). v.round) vs)
speaks_in qs vs round i e = elim (or_cases (proposers qs round i) (senders vs (λ (v : Vote). v.round == round) i) e) [
  | inl a ↦ (let q = any_found (λ (x : Proposal). (x.round == round) && (x.sender == i)) qs a in
      let p = and_parts (q.0.round == round) (q.0.sender == i) q.2 in
      in_left round _ _ (subst (λ r. r ∈ map (λ (x : Proposal). x.round) qs) (eqb-true _ _ p.0) (map_in (λ (x : Proposal). x.round) q.0 qs q.1)))
  | inr a ↦ (let v = any_found (λ (x : Vote). (x.round == round) && (x.sender == i)) vs a in
      let p = and_parts (v.0.round == round) (v.0.sender == i) v.2 in
      in_right round _ _ (subst (λ r. r ∈ map (λ (x : Vote). x.round) vs) (eqb-true _ _ p.0) (map_in (λ (x : Vote). x.round) v.0 vs v.1)))
]

pub highest_is : (k : Kept) (best : Option ℕ) → IsHighest (λ r. is_weak k.powers (power_above k.powers k.proposals k.votes r)) best → best ≡ highest_weak k
highest_is k best h =
    let heard = λ (r : ℕ) (t : is_weak k.powers (power_above k.powers k.proposals k.votes r) ≡ true). let m = weak_member k.powers (speakers k.proposals k.votes r) t in speaks_in k.proposals k.votes r m.0 m.1 in
    highest_only (λ r. is_weak k.powers (power_above k.powers k.proposals k.votes r)) (rounds_of k) best
    (if_some best (λ r t. (heard r t, t)) h.one) (λ r i t. h.each r t)

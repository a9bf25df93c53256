-- The soonest of the proposals that pass, found round by round.
use Rattle.std.proofs.Common.{◌≡◌, ℕ, zero, suc, ◌<◌, ◌≤◌, Bool, true, false, ◌&&◌, cond, nat_lt, fold, List, [], ◌∷◌, ◌++◌, length, get_or, Option, Some, None, IfSome, option_map, refl, sym, ap, ◌∙◌, inl, inr, arith, ltb-true, lt-ltb}
use Rattle.std.specs.Prelude.{◌==◌, ◌↔◌}
use Rattle.std.specs.List.{position_from}
use Rattle.std.proofs.lemmas.Bool.{cases_Bool, cases_lt, and_parts, cond_both, eq-eqb, le-ltb, ltb-false}
use Rattle.protocol.specs.Messages.{◌∈◌, Proposal}
use Rattle.protocol.specs.Values.{id}
use Rattle.protocol.specs.State.{State}
use Rattle.protocol.specs.Order.{soonest, sooner, is_sooner, is_decidable}
use Rattle.vote_tally.specs.Kept.{IsDecisive}
use Rattle.protocol.proofs.Membership.{in_append}
use Rattle.vote_tally.proofs.Raising.{and_false}
use Rattle.round_states.specs.Steps.{nowhere}
use Rattle.round_machine.specs.declared.deciding.Place.{Place}
use Rattle.round_machine.specs.Judging.{is_sooner_than, sooner_place}
use Rattle.round_machine.proofs.InRound.{IsThere, there, none_there}

-- ---- the soonest, by its place

not_sooner : (test : Proposal → Bool) (best q : Proposal) → (test q ≡ true → best.round ≤ q.round) → sooner test (Some best) q ≡ Some best
not_sooner test best q h = elim (cases_Bool (test q)) [
  | inl t ↦ (let f : nat_lt q.round best.round ≡ false = le-ltb q.round best.round (h t) in rw (t, f) refl)
  | inr f ↦ rw f refl
]

stays : (test : Proposal → Bool) (best : Proposal) (qs : List Proposal) → ((i : ℕ) → i < length qs → test (get_or qs i nowhere) ≡ true → best.round ≤ (get_or qs i nowhere).round) → fold (sooner test) (Some best) qs ≡ Some best
stays test best [] h = refl
stays test best (q ∷ qs) h = rw (not_sooner test best q (λ t. h zero (omega arith) t)) (stays test best qs (λ i lt t. h (suc i) (omega (arith, lt)) t))

taken : (test : Proposal → Bool) (best : Option Proposal) (q : Proposal) → test q ≡ true → IfSome best (λ b. q.round < b.round) → sooner test best q ≡ Some q
taken test None q t h = rw t refl
taken test (Some b) q t h = let s : nat_lt q.round b.round ≡ true = lt-ltb q.round b.round h in rw (t, s) refl

soonest_at : (test : Proposal → Bool) (best : Option Proposal) (qs : List Proposal) (i : ℕ) → i < length qs → test (get_or qs i nowhere) ≡ true → IfSome best (λ b. (get_or qs i nowhere).round < b.round)
    → ((j : ℕ) → j < i → test (get_or qs j nowhere) ≡ true → (get_or qs i nowhere).round < (get_or qs j nowhere).round)
    → ((j : ℕ) → j < length qs → test (get_or qs j nowhere) ≡ true → (get_or qs i nowhere).round ≤ (get_or qs j nowhere).round)
    → fold (sooner test) best qs ≡ Some (get_or qs i nowhere)
soonest_at test best [] i lt t later before each = absurd (omega (arith, lt))
soonest_at test best (q ∷ qs) zero lt t later before each = rw (taken test best q t later) (stays test q qs (λ j k u. each (suc j) (omega (arith, k)) u))
soonest_at test best (q ∷ qs) (suc i) lt t later before each =
    soonest_at test (sooner test best q) qs i (omega (arith, lt)) t
    (cond_both (test q && is_sooner q best) (Some q) best (λ o. IfSome o (λ b. (get_or qs i nowhere).round < b.round)) (λ u. before zero (omega arith) (and_parts _ _ u).0) (λ _. later))
    (λ j k u. before (suc j) (omega (arith, k)) u)
    (λ j k u. each (suc j) (omega (arith, k)) u)

none_soonest : (test : Proposal → Bool) (qs : List Proposal) → ((i : ℕ) → i < length qs → test (get_or qs i nowhere) ≡ true → ⊥) → fold (sooner test) None qs ≡ None
none_soonest test [] h = refl
none_soonest test (q ∷ qs) h = elim (cases_Bool (test q)) [
  | inl t ↦ absurd (h zero (omega arith) t)
  | inr f ↦ rw f (none_soonest test qs (λ i lt t. h (suc i) (omega (arith, lt)) t))
]

-- ---- the best of some rounds

abbrev pub Reached : Option Place → ℕ → Type 0
Reached None round = ⊥
Reached (Some place) round = place.round ≤ round

-- it is the first of its round that passes, and of the lowest of these rounds in which one passes
pub record IsBest (test : Proposal → Bool) (qs : List Proposal) (rounds : List ℕ) (best : Option Place) : Type 0 where
  pub one : IfSome best (λ place. IsThere test place.round qs place.number)
  pub each : (j : ℕ) → j < length qs → test (get_or qs j nowhere) ≡ true → (get_or qs j nowhere).round ∈ rounds → Reached best (get_or qs j nowhere).round

pub none_yet : (test : Proposal → Bool) (qs : List Proposal) → IsBest test qs [] None
none_yet test qs = record { one = tt; each = λ j lt t i. absurd i }

abbrev Found : (Proposal → Bool) → List Proposal → ℕ → Option ℕ → Type 0
Found test qs r found = found ≡ position_from (λ (q : Proposal). (q.round == r) && test q) 0 qs

here_or_before : (r : ℕ) (rounds : List ℕ) (n : ℕ) (P : Type 0) → n ∈ (rounds ++ r ∷ []) → (n ∈ rounds → P) → (n ≡ r → P) → P
here_or_before r rounds n P i before here = elim (in_append n rounds (r ∷ []) i) [
  | inl a ↦ before a
  | inr (inl e) ↦ here e
  | inr (inr none) ↦ absurd none
]

pub one_round : (test : Proposal → Bool) (qs : List Proposal) (rounds : List ℕ) (best : Option Place) (r : ℕ) (found : Option ℕ) → Found test qs r found → IsBest test qs rounds best → IsBest test qs (rounds ++ r ∷ []) (sooner_place best r found)
one_round test qs rounds best r None is h = record {
  one = h.one;
  each = λ j lt t i. here_or_before r rounds _ _ i (h.each j lt t) (λ e. absurd (none_there test r qs (sym is) j lt e t));
}
one_round test qs rounds None r (Some place) is h = record {
  one = there test r qs place (sym is);
  each = λ j lt t i. here_or_before r rounds _ _ i (λ a. absurd (h.each j lt t a)) (λ e. omega (arith, e));
}
one_round test qs rounds (Some best) r (Some place) is h = elim (cases_Bool (nat_lt r best.round)) [
  | inl y ↦ (let lower : r < best.round = ltb-true r best.round y in rw y (record {
    one = there test r qs place (sym is);
    each = λ j lt t i. here_or_before r rounds _ _ i (λ a. let l = h.each j lt t a in omega (arith, l, lower)) (λ e. omega (arith, e));
  }))
  | inr y ↦ (let higher : best.round ≤ r = ltb-false r best.round y in rw y (record {
    one = h.one;
    each = λ j lt t i. here_or_before r rounds _ _ i (h.each j lt t) (λ e. omega (arith, e, higher));
  }))
]

-- one that passes before the best's place is of a higher round
before : (test : Proposal → Bool) (qs : List Proposal) (best : Place) → IsThere test best.round qs best.number → (j : ℕ) → j < best.number → test (get_or qs j nowhere) ≡ true → best.round ≤ (get_or qs j nowhere).round → (get_or qs best.number nowhere).round < (get_or qs j nowhere).round
before test qs best one j lt t le = elim (cases_lt best.round (get_or qs j nowhere).round) [
  | inl k ↦ (let own = one.round in omega (arith, k, own))
  | inr k ↦ (let same : (get_or qs j nowhere).round ≡ best.round = omega (arith, k, le) in absurd (one.first j lt (eq-eqb _ _ same) t))
]

-- where each that passes is of one of the rounds, the best is the soonest
pub soonest_of : (test : Proposal → Bool) (qs : List Proposal) (rounds : List ℕ) (best : Option Place) → IsBest test qs rounds best → ((j : ℕ) → j < length qs → test (get_or qs j nowhere) ≡ true → (get_or qs j nowhere).round ∈ rounds)
    → option_map (λ (place : Place). get_or qs place.number nowhere) best ≡ soonest test qs
soonest_of test qs rounds None h all = sym (none_soonest test qs (λ i lt t. h.each i lt t (all i lt t)))
soonest_of test qs rounds (Some best) h all =
    let one = h.one in
    let own = one.round in
    let lowest : (j : ℕ) → j < length qs → test (get_or qs j nowhere) ≡ true → best.round ≤ (get_or qs j nowhere).round = λ j lt t. h.each j lt t (all j lt t) in
    sym (soonest_at test None qs best.number one.within one.passes tt
    (λ j lt t. before test qs best one j lt t (lowest j (let w = one.within in omega (arith, lt, w)) t))
    (λ j lt t. let l = lowest j lt t in omega (arith, l, own)))

-- what may be decided is of a round in which a quorum precommitted one id
pub decidable_in : (powers : List ℕ) (me : ℕ) (s : State) (rounds : List ℕ) → ((r : ℕ) → (r ∈ rounds) ↔ IsDecisive (record { powers = powers; me = me; proposals = s.proposals; votes = s.votes; ready = None }) r) → (q : Proposal) → is_decidable powers s q ≡ true → q.round ∈ rounds
decidable_in powers me s rounds h q t = (h q.round).1 (id q.value, (and_parts _ _ t).1)

-- The rounds in which a quorum precommitted one id, one vote more.
use Rattle.std.proofs.Common.{◌≡◌, ℕ, ◌*◌, ◌<◌, Bool, true, false, ◌&&◌, not, List, [], ◌∷◌, ◌++◌, Some, None, Option, refl, sym, subst, ◌∙◌, inl, inr, arith, ltb-true, lt-ltb, eqb-true}
use Rattle.std.specs.Prelude.{◌==◌, ◌⊎◌}
use Rattle.std.specs.List.{list_any, AllByRecursion, IsDistinct}
use Rattle.std.specs.BTreeMap.{BTreeMap}
use Rattle.std.proofs.lemmas.List.Folds.{list_any-append}
use Rattle.std.proofs.lemmas.Bool.{cases_Bool, and_parts}
use Rattle.messages.specs.Equality.{content_eq}
use Rattle.messages.proofs.Equality.{content_eq_decides}
use Rattle.messages.specs.declared.body.Step.{Step}
use Rattle.messages.specs.declared.body.Step.TheVariants as steps
use Rattle.powers.specs.Power.{power, total, is_quorum}
use Rattle.powers.proofs.Quorums.{power_le, no_power}
use Rattle.protocol.specs.Messages.{◌∈◌, Vote, step_eq, step_of_vote}
use Rattle.protocol.specs.declared.types.Step.TheVariants as round_steps
use Rattle.protocol.specs.Tally.{is_vote, is_vote_for, senders, power_for}
use Rattle.protocol.proofs.Membership.{in_append, in_left, in_right, any_found}
use Rattle.vote_tally.specs.declared.totals.Topic.{Topic}
use Rattle.vote_tally.specs.declared.totals.Topic.TheVariants.{PrecommitsFor}
use Rattle.vote_tally.specs.declared.totals.Total.{Total}
use Rattle.vote_tally.specs.Totals.{total_at, is_decided, rounds_with}
use Rattle.vote_tally.specs.Told.{AreDecisive}
use Rattle.vote_tally.proofs.Raising.{and_false}
use Rattle.vote_tally.proofs.Told.{power_for_stays}

-- ---- a list of rounds, one more

still_in : (decided : Bool) (r n : ℕ) (rounds : List ℕ) → n ∈ rounds → n ∈ rounds_with decided r rounds
still_in decided r n rounds i = elim (cases_Bool (decided && not (list_any (λ other. other == r) rounds))) [
  | inl t ↦ rw t (in_left n rounds (r ∷ []) i)
  | inr f ↦ rw f i
]

own_in : (r : ℕ) (rounds : List ℕ) → r ∈ rounds_with true r rounds
own_in r rounds = elim (cases_Bool (list_any (λ other. other == r) rounds)) [
  | inl t ↦ (let y = any_found (λ other. other == r) rounds t in rw t (subst (λ n. n ∈ rounds) (eqb-true y.0 r y.2) y.1))
  | inr f ↦ rw f (in_right r rounds (r ∷ []) (inl refl))
]

in_either : (decided : Bool) (r n : ℕ) (rounds : List ℕ) → n ∈ rounds_with decided r rounds → (n ∈ rounds) ⊎ ((decided ≡ true) × (n ≡ r))
in_either decided r n rounds i = elim (cases_Bool (decided && not (list_any (λ other. other == r) rounds))) [
  | inl t ↦ (elim (in_append n rounds (r ∷ []) (rw t at i)) [
    | inl a ↦ inl a
    | inr (inl e) ↦ inr ((and_parts decided _ t).0, e)
    | inr (inr none) ↦ absurd none
  ])
  | inr f ↦ inl (rw f at i)
]

-- ---- each once

apart_last : (x r : ℕ) (rounds : List ℕ) → AllByRecursion (λ y. (x == y) ≡ false) rounds → (x == r) ≡ false → AllByRecursion (λ y. (x == y) ≡ false) (rounds ++ r ∷ [])
apart_last x r [] h e = (e, tt)
apart_last x r (y ∷ ys) h e = (h.0, apart_last x r ys h.1 e)

distinct_more : (r : ℕ) (rounds : List ℕ) → list_any (λ other. other == r) rounds ≡ false → IsDistinct (λ a b. a == b) rounds → IsDistinct (λ a b. a == b) (rounds ++ r ∷ [])
unfolding IsDistinct
distinct_more r [] f d = (tt, tt)
distinct_more r (x ∷ xs) f d = elim (cases_Bool (x == r)) [
  | inl t ↦ absurd (let g = rw t at f in cc)
  | inr e ↦ (apart_last x r xs d.0 e, distinct_more r xs (rw e at f) d.1)
]

distinct_with : (decided : Bool) (r : ℕ) (rounds : List ℕ) → IsDistinct (λ a b. a == b) rounds → IsDistinct (λ a b. a == b) (rounds_with decided r rounds)
distinct_with decided r rounds d = elim (cases_Bool (list_any (λ other. other == r) rounds)) [
  | inl t ↦ rw (t, and_false decided) d
  | inr f ↦ (elim (cases_Bool decided) [
    | inl t ↦ rw (t, f) (distinct_more r rounds f d)
    | inr e ↦ rw e d
  ])
]

-- ---- quorums, one vote more

senders_grow : (vs : List Vote) (v : Vote) (test : Vote → Bool) (i : ℕ) → senders vs test i ≡ true → senders (vs ++ v ∷ []) test i ≡ true
senders_grow vs v test i e = list_any-append (λ (w : Vote). test w && (w.sender == i)) vs (v ∷ []) ∙ rw e refl

quorum_grows : (powers : List ℕ) (vs : List Vote) (v : Vote) (test : Vote → Bool) → is_quorum powers (power powers (senders vs test)) ≡ true → is_quorum powers (power powers (senders (vs ++ v ∷ []) test)) ≡ true
unfolding is_quorum
quorum_grows powers vs v test e =
    let k : 2 * total powers < 3 * power powers (senders vs test) = ltb-true _ _ e in
    let l = power_le powers (senders vs test) (senders (vs ++ v ∷ []) test) (λ i lt t. senders_grow vs v test i t) in
    lt-ltb _ _ (omega (arith, k, l))

-- a decided vote has a quorum for its id
decided_for : (powers : List ℕ) (totals : BTreeMap Topic Total) (vs : List Vote) (step : Step) (round : ℕ) (content : Option (List ℕ)) → ((r : ℕ) (x : List ℕ) → (total_at totals (PrecommitsFor r (Some x))).power ≡ power_for powers vs r round_steps.Precommit (Some x))
    → is_decided powers totals step round content ≡ true → (x : List ℕ) × (is_quorum powers (power_for powers vs round round_steps.Precommit (Some x)) ≡ true)
decided_for powers totals vs steps.Precommit round (Some x) is e = (x, rw (← is round x) e)
decided_for powers totals vs steps.Precommit round None is e = absurd (let f : false ≡ true = e in cc)
decided_for powers totals vs steps.Prevote round content is e = absurd (let f : false ≡ true = e in cc)

-- and a vote for an id with a quorum is decided
is_decided_by : (powers : List ℕ) (totals : BTreeMap Topic Total) (vs : List Vote) (step : Step) (round : ℕ) (content : Option (List ℕ)) (x : List ℕ) → (total_at totals (PrecommitsFor round (Some x))).power ≡ power_for powers vs round round_steps.Precommit (Some x)
    → step_eq (step_of_vote step) round_steps.Precommit ≡ true → content ≡ Some x → is_quorum powers (power_for powers vs round round_steps.Precommit (Some x)) ≡ true → is_decided powers totals step round content ≡ true
is_decided_by powers totals vs steps.Precommit round content x is s e q = rw (e, is) q
is_decided_by powers totals vs steps.Prevote round content x is s e q = absurd (let f : false ≡ true = s in cc)

decided_in : (powers : List ℕ) (vs : List Vote) (v : Vote) (rounds : List ℕ) (totals : BTreeMap Topic Total) (r : ℕ) → AreDecisive powers vs rounds
    → ((n : ℕ) (x : List ℕ) → (total_at totals (PrecommitsFor n (Some x))).power ≡ power_for powers (vs ++ v ∷ []) n round_steps.Precommit (Some x))
    → r ∈ rounds_with (is_decided powers totals v.step v.round v.content) v.round rounds → (x : List ℕ) × (is_quorum powers (power_for powers (vs ++ v ∷ []) r round_steps.Precommit (Some x)) ≡ true)
decided_in powers vs v rounds totals r h is i = elim (in_either (is_decided powers totals v.step v.round v.content) v.round r rounds i) [
  | inl a ↦ (let q = (h.each r).0 a in (q.0, quorum_grows powers vs v (is_vote_for r round_steps.Precommit (Some q.0)) q.1))
  | inr a ↦ (let q = decided_for powers totals (vs ++ v ∷ []) v.step v.round v.content is a.0 in (q.0, subst (λ n. is_quorum powers (power_for powers (vs ++ v ∷ []) n round_steps.Precommit (Some q.0)) ≡ true) (sym a.1) q.1))
]

in_decided : (powers : List ℕ) (vs : List Vote) (v : Vote) (rounds : List ℕ) (totals : BTreeMap Topic Total) (r : ℕ) (x : List ℕ) → AreDecisive powers vs rounds
    → ((n : ℕ) (y : List ℕ) → (total_at totals (PrecommitsFor n (Some y))).power ≡ power_for powers (vs ++ v ∷ []) n round_steps.Precommit (Some y))
    → is_quorum powers (power_for powers (vs ++ v ∷ []) r round_steps.Precommit (Some x)) ≡ true → r ∈ rounds_with (is_decided powers totals v.step v.round v.content) v.round rounds
in_decided powers vs v rounds totals r x h is q = elim (cases_Bool (is_vote_for r round_steps.Precommit (Some x) v)) [
  | inl t ↦ (let p = and_parts (is_vote r round_steps.Precommit v) (content_eq v.content (Some x)) t in
      let s = and_parts (v.round == r) (step_eq (step_of_vote v.step) round_steps.Precommit) p.0 in
      let same : v.round ≡ r = eqb-true v.round r s.0 in
      let here = subst (λ n. is_quorum powers (power_for powers (vs ++ v ∷ []) n round_steps.Precommit (Some x)) ≡ true) (sym same) q in
      let d : is_decided powers totals v.step v.round v.content ≡ true = is_decided_by powers totals (vs ++ v ∷ []) v.step v.round v.content x (is v.round x) s.1 ((content_eq_decides v.content (Some x)).0 p.1) here in
      rw d (subst (λ n. n ∈ rounds_with true v.round rounds) same (own_in v.round rounds)))
  | inr f ↦ (let stays = power_for_stays (record { powers = powers; me = 0; proposals = []; votes = vs; ready = None }) v r round_steps.Precommit (Some x) f in
      still_in (is_decided powers totals v.step v.round v.content) v.round r rounds ((h.each r).1 (x, subst (λ n. is_quorum powers n ≡ true) stays q)))
]

pub decisive_more : (powers : List ℕ) (vs : List Vote) (v : Vote) (rounds : List ℕ) (totals : BTreeMap Topic Total) → AreDecisive powers vs rounds
    → ((r : ℕ) (x : List ℕ) → (total_at totals (PrecommitsFor r (Some x))).power ≡ power_for powers (vs ++ v ∷ []) r round_steps.Precommit (Some x))
    → AreDecisive powers (vs ++ v ∷ []) (rounds_with (is_decided powers totals v.step v.round v.content) v.round rounds)
decisive_more powers vs v rounds totals h is = record { each = λ r. (λ i. decided_in powers vs v rounds totals r h is i, λ q. in_decided powers vs v rounds totals r q.0 h is q.1); once = distinct_with (is_decided powers totals v.step v.round v.content) v.round rounds h.once }

-- nothing is decided where nothing is kept
none_decides : (powers : List ℕ) (r : ℕ) → r ∈ [] → (x : List ℕ) × (is_quorum powers (power_for powers [] r round_steps.Precommit (Some x)) ≡ true)
none_decides powers r i = absurd i

no_quorum : (powers : List ℕ) → is_quorum powers (power powers (λ i. false)) ≡ true → ⊥
unfolding is_quorum
no_quorum powers e =
    let k : 2 * total powers < 3 * power powers (λ i. false) = ltb-true _ _ e in
    let n = no_power powers in
    omega (arith, k, n)

pub decisive_nothing : (powers : List ℕ) (vs : List Vote) (rounds : List ℕ) → vs ≡ [] → rounds ≡ [] → AreDecisive powers vs rounds
unfolding IsDistinct
decisive_nothing powers vs rounds ev er = rw (ev, er) (record { each = λ r. (λ i. absurd i, λ q. absurd (no_quorum powers q.1)); once = tt })

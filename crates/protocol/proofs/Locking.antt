-- What correct validators' own votes say of one another: why no later round has a quorum for another value. A history has each validator's votes, the newest first.
use Rattle.std.proofs.Common.{◌≡◌, ℕ, zero, suc, ◌+◌, ◌*◌, ◌<◌, ◌≤◌, ◌⊎◌, inl, inr, Bool, true, false, cond, List, [], ◌∷◌, length, refl, sym, ◌∙◌, ap, subst, arith, Option, Some, None, eqb, eqb-true, eq-eqb, eq-or-lt_of_le}
use Rattle.std.proofs.lemmas.Bool.{cases_order}
use Rattle.powers.specs.Power.{IsQuorum, FewLie}
use Rattle.protocol.specs.Values.{Id}
use Rattle.protocol.specs.Messages.{Step, Propose, Prevote, Precommit, ◌∈◌}
use Rattle.protocol.specs.Laws.{place}
use Rattle.powers.proofs.Quorums.{quorums_share_honest}

-- an own message: of a proposal or a vote for a value, with its id
pub record Mark : Type 0 where
  pub step : Step
  pub height : ℕ
  pub round : ℕ
  pub content : Option Id

abbrev pub mark : Step → ℕ → ℕ → Option Id → Mark
mark step height round content = record { step = step; height = height; round = round; content = content }

abbrev pub place_of : Mark → ℕ
place_of m = place m.step m.round

-- the round and the id of the last precommit for a value at a height
abbrev pub lock_of_vote : Step → ℕ → Option Id → Option (ℕ × Id) → Option (ℕ × Id)
lock_of_vote Precommit round (Some x) before = Some (round, x)
lock_of_vote Precommit round None before = before
lock_of_vote Prevote round content before = before
lock_of_vote Propose round content before = before

abbrev pub lock_at : ℕ → List Mark → Option (ℕ × Id)
lock_at height [] = None
lock_at height (v ∷ earlier) = cond (eqb v.height height) (lock_of_vote v.step v.round v.content (lock_at height earlier)) (lock_at height earlier)

-- each validator's own votes
pub record History : Type 0 where
  pub powers : List ℕ
  pub liars : ℕ → Bool
  pub marks : ℕ → List Mark

-- some quorum, of which each correct member voted so
pub record Supported (h : History) (step : Step) (height round : ℕ) (x : Id) : Type 0 where
  pub members : ℕ → Bool
  pub enough : IsQuorum h.powers members
  pub voted : (i : ℕ) → i < length h.powers → members i ≡ true → h.liars i ≡ false → mark step height round (Some x) ∈ h.marks i

-- what a lock allows: none, or on this value, or from a round up to the one given
abbrev pub Allows : Option (ℕ × Id) → Id → ℕ → Type 0
Allows None x limit = Unit {0}
Allows (Some l) x limit = (l.1 ≡ x) ⊎ (l.0 ≤ limit)

abbrev pub AllowsAlone : Option (ℕ × Id) → Id → Type 0
AllowsAlone None x = Unit {0}
AllowsAlone (Some l) x = l.1 ≡ x

-- a quorum at an earlier round
pub record Earlier (h : History) (height round : ℕ) (x : Id) (lock : Option (ℕ × Id)) : Type 0 where
  pub valid_round : ℕ
  pub below : valid_round < round
  pub quorum : Supported h Prevote height valid_round x
  pub allowed : Allows lock x valid_round

-- why a vote for a value was cast
abbrev pub Reason : History → Step → ℕ → ℕ → Option Id → List Mark → Type 0
Reason h Prevote height round (Some x) earlier = AllowsAlone (lock_at height earlier) x ⊎ Earlier h height round x (lock_at height earlier)
Reason h Precommit height round (Some x) earlier = Supported h Prevote height round x
Reason h Prevote height round None earlier = Unit {0}
Reason h Precommit height round None earlier = Unit {0}
Reason h Propose height round content earlier = Unit {0}

-- the vote stands in the list, after these earlier ones
abbrev pub StandsAfter : List Mark → Mark → List Mark → Type 0
StandsAfter [] v earlier = ⊥
StandsAfter (w ∷ rest) v earlier = ((w ≡ v) × (rest ≡ earlier)) ⊎ StandsAfter rest v earlier

pub record Justified (h : History) (v : Mark) (earlier : List Mark) : Type 0 where
  pub grows : (w : Mark) → w ∈ earlier → w.height ≡ v.height → place_of w < place_of v
  pub reason : Reason h v.step v.height v.round v.content earlier

-- each correct validator's votes are in order, and each has its reason
abbrev pub Lawful : History → Type 0
Lawful h = (i : ℕ) → i < length h.powers → h.liars i ≡ false → (v : Mark) (earlier : List Mark) → StandsAfter (h.marks i) v earlier → Justified h v earlier

-- of two votes of one list
pub two_places : (xs : List Mark) (v w : Mark) → v ∈ xs → w ∈ xs → (v ≡ w) ⊎ (((e : List Mark) × StandsAfter xs v e × w ∈ e) ⊎ ((e : List Mark) × StandsAfter xs w e × v ∈ e))
two_places [] v w a b = absurd a
two_places (x ∷ xs) v w (inl p) (inl q) = inl (p ∙ sym q)
two_places (x ∷ xs) v w (inl p) (inr q) = inr (inl (xs, inl (sym p, refl), q))
two_places (x ∷ xs) v w (inr p) (inl q) = inr (inr (xs, inl (sym q, refl), p))
two_places (x ∷ xs) v w (inr p) (inr q) = elim (two_places xs v w p q) [
  | inl e ↦ inl e
  | inr (inl t) ↦ inr (inl (t.0, inr t.1, t.2))
  | inr (inr t) ↦ inr (inr (t.0, inr t.1, t.2))
]

-- one vote in each step of a round
pub one_vote : (h : History) → Lawful h → (i : ℕ) → i < length h.powers → h.liars i ≡ false → (v w : Mark) → v ∈ h.marks i → w ∈ h.marks i → v.height ≡ w.height → place_of v ≡ place_of w → v ≡ w
one_vote h lawful i b c v w p q eh ep = elim (two_places (h.marks i) v w p q) [
  | inl e ↦ e
  | inr (inl t) ↦ absurd (let k = (lawful i b c v t.0 t.1).grows w t.2 (sym eh) in omega arith)
  | inr (inr t) ↦ absurd (let k = (lawful i b c w t.0 t.1).grows v t.2 eh in omega arith)
]

-- two quorums for contents at one step are for one content
pub one_content : (h : History) → FewLie h.powers h.liars → Lawful h → (step : Step) (height round : ℕ) (x y : Id) → Supported h step height round x → Supported h step height round y → x ≡ y
one_content h few lawful step height round x y a b =
    let s = quorums_share_honest h.powers h.liars a.members b.members few a.enough b.enough in
    let e : mark step height round (Some x) ≡ mark step height round (Some y) = one_vote h lawful s.0 s.1 s.2 _ _ (a.voted s.0 s.1 s.3 s.2) (b.voted s.0 s.1 s.4 s.2) refl refl in
    let e' : Some x ≡ Some y = ap (λ (v : Mark). v.content) e in cc

-- a vote that stands in a list is lawful after some earlier ones
pub stands : (xs : List Mark) (v : Mark) → v ∈ xs → (e : List Mark) × StandsAfter xs v e
stands [] v p = absurd p
stands (x ∷ xs) v (inl p) = (xs, inl (sym p, refl))
stands (x ∷ xs) v (inr p) = let t = stands xs v p in (t.0, inr t.1)

-- what precommits of a correct validator rest on
pub precommit_quorum : (h : History) → FewLie h.powers h.liars → Lawful h → (height round : ℕ) (x : Id) → Supported h Precommit height round x → Supported h Prevote height round x
precommit_quorum h few lawful height round x a =
    let s = quorums_share_honest h.powers h.liars a.members a.members few a.enough a.enough in
    let p = stands (h.marks s.0) _ (a.voted s.0 s.1 s.3 s.2) in
    (lawful s.0 s.1 s.2 _ p.0 p.1).reason

-- what stands in the earlier ones stands in the list
pub within : (xs : List Mark) (v : Mark) (e : List Mark) → StandsAfter xs v e → (w : Mark) → w ∈ e → w ∈ xs
within [] v e s w p = absurd s
within (x ∷ xs) v e (inl s) w p = inr (subst (λ (l : List Mark). w ∈ l) (sym s.1) p)
within (x ∷ xs) v e (inr s) w p = inr (within xs v e s w p)

pub stands_within : (xs : List Mark) (v : Mark) (e : List Mark) → StandsAfter xs v e → (w : Mark) (f : List Mark) → StandsAfter e w f → StandsAfter xs w f
stands_within [] v e s w f p = absurd s
stands_within (x ∷ xs) v e (inl s) w f p = inr (subst (λ (l : List Mark). StandsAfter l w f) (sym s.1) p)
stands_within (x ∷ xs) v e (inr s) w f p = inr (stands_within xs v e s w f p)

-- a lock that some precommit of a list made
pub record LockFrom (height round : ℕ) (e : List Mark) : Type 0 where
  pub locked_round : ℕ
  pub locked : Id
  pub is_lock : lock_at height e ≡ Some (locked_round, locked)
  pub not_below : round ≤ locked_round
  pub by : mark Precommit height locked_round (Some locked) ∈ e

-- in a list whose votes are in order
abbrev pub InOrder : List Mark → Type 0
InOrder e = (w : Mark) (f : List Mark) → StandsAfter e w f → (z : Mark) → z ∈ f → z.height ≡ w.height → place_of z < place_of w

kept_lock : (height round : ℕ) (v : Mark) (e : List Mark) → lock_at height (v ∷ e) ≡ lock_at height e → LockFrom height round e → LockFrom height round (v ∷ e)
kept_lock height round v e same l = record {
  locked_round = l.locked_round;
  locked = l.locked;
  is_lock = same ∙ l.is_lock;
  not_below = l.not_below;
  by = inr l.by;
}

-- the newest vote makes the lock, or leaves that of the others
newest : (height round : ℕ) (h' : ℕ) (st : Step) (r : ℕ) (c : Option Id) (e : List Mark) (same : Bool) → eqb h' height ≡ same →
    (same ≡ true → 3 * round + 2 < place st r) →
    LockFrom height round e → LockFrom height round (mark st h' r c ∷ e)
newest height round h' Precommit r (Some x) e true is above l =
    let k : h' ≡ height = eqb-true h' height is in
    let a : 3 * round + 2 < 3 * r + 2 = above refl in
    record {
      locked_round = r;
      locked = x;
      is_lock = rw is refl;
      not_below = omega arith;
      by = inl (ap (λ n. mark Precommit n r (Some x)) (sym k));
    }
newest height round h' Precommit r None e true is above l = kept_lock height round (mark Precommit h' r None) e (rw is refl) l
newest height round h' Propose r c e true is above l = kept_lock height round (mark Propose h' r c) e (rw is refl) l
newest height round h' Prevote r c e true is above l = kept_lock height round (mark Prevote h' r c) e (rw is refl) l
newest height round h' st r c e false is above l = kept_lock height round (mark st h' r c) e (rw is refl) l

pub lock_from : (height round : ℕ) (x : Id) (e : List Mark) → InOrder e → mark Precommit height round (Some x) ∈ e → LockFrom height round e
lock_from height round x [] o p = absurd p
lock_from height round x (v ∷ e) o (inl p) = subst (λ (w : Mark). LockFrom height round (w ∷ e)) p (record {
  locked_round = round;
  locked = x;
  is_lock = rw (eq-eqb height height refl) refl;
  not_below = omega arith;
  by = inl refl;
})
lock_from height round x (v ∷ e) o (inr p) =
    newest height round v.height v.step v.round v.content e (eqb v.height height) refl
    (λ k. o v e (inl (refl, refl)) _ p (sym (eqb-true v.height height k)))
    (lock_from height round x e (λ w f s. o w f (inr s)) p)

-- what a correct validator of both quorums prevotes after its precommit
after_lock : (h : History) → FewLie h.powers h.liars → Lawful h → (height round : ℕ) (x : Id) → Supported h Precommit height round x
    → (bound later : ℕ) (y : Id) → later < suc bound → round < later
    → (i : ℕ) → i < length h.powers → h.liars i ≡ false → (e : List Mark) → StandsAfter (h.marks i) (mark Prevote height later (Some y)) e → mark Precommit height round (Some x) ∈ e
    → ((between : ℕ) (z : Id) → between < bound → round < between → Supported h Prevote height between z → x ≡ z)
    → x ≡ y
after_lock h few lawful height round x a bound later y low above i b c e st p earlier =
    let just = lawful i b c _ e st in
    let l = lock_from height round x e (λ w f s. (lawful i b c w f (stands_within _ _ _ st w f s)).grows) p in
    let below : 3 * l.locked_round + 2 < 3 * later + 1 = just.grows _ l.by refl in
    let mine : mark Precommit height l.locked_round (Some l.locked) ∈ h.marks i = within _ _ _ st _ l.by in
    let same : x ≡ l.locked = elim (eq-or-lt_of_le l.not_below) [
      | inl k ↦ let v : mark Precommit height round (Some x) ≡ mark Precommit height l.locked_round (Some l.locked) = one_vote h lawful i b c _ _ (within _ _ _ st _ p) mine refl (ap (place Precommit) k) in
          let v' : Some x ≡ Some l.locked = ap (λ (w : Mark). w.content) v in cc
      | inr k ↦ let f = stands (h.marks i) _ mine in earlier l.locked_round l.locked (omega arith) k (lawful i b c _ f.0 f.1).reason
    ] in
    let why : AllowsAlone (lock_at height e) y ⊎ Earlier h height later y (lock_at height e) = just.reason in
    elim why [
      | inl k ↦ let k' : AllowsAlone (Some (l.locked_round, l.locked)) y = subst (λ o. AllowsAlone o y) l.is_lock k in same ∙ k'
      | inr w ↦
          let k : Allows (Some (l.locked_round, l.locked)) y w.valid_round = subst (λ o. Allows o y w.valid_round) l.is_lock w.allowed in
          let nb = l.not_below in
          let wb = w.below in
          elim k [
            | inl m ↦ same ∙ m
            | inr m ↦
                let both : round ≤ w.valid_round = omega arith in
                elim (eq-or-lt_of_le both) [
                  | inl n ↦ one_content h few lawful Prevote height round x y (precommit_quorum h few lawful height round x a) (subst (λ r. Supported h Prevote height r y) (sym n) w.quorum)
                  | inr n ↦ earlier w.valid_round y (omega arith) n w.quorum
                ]
          ]
    ]

-- Where a quorum precommits a value, no later round has a quorum of prevotes for another.
pub no_other : (h : History) → FewLie h.powers h.liars → Lawful h → (height round : ℕ) (x : Id) → Supported h Precommit height round x
    → (bound later : ℕ) (y : Id) → later < bound → round < later → Supported h Prevote height later y → x ≡ y
no_other h few lawful height round x a zero later y low above q = absurd (omega arith)
no_other h few lawful height round x a (suc bound) later y low above q =
    let s = quorums_share_honest h.powers h.liars a.members q.members few a.enough q.enough in
    let i = s.0 in
    elim (two_places (h.marks i) _ _ (a.voted i s.1 s.3 s.2) (q.voted i s.1 s.4 s.2)) [
      | inl e ↦ absurd (let k = ap place_of e in omega arith)
      | inr (inl t) ↦ absurd (let k = (lawful i s.1 s.2 _ t.0 t.1).grows _ t.2 refl in omega arith)
      | inr (inr t) ↦ after_lock h few lawful height round x a bound later y low above i s.1 s.2 t.0 t.1 t.2 (no_other h few lawful height round x a bound)
    ]

-- Two quorums of precommits for values of one height, in any rounds, are for one value.
pub one_value : (h : History) → FewLie h.powers h.liars → Lawful h → (height r s : ℕ) (x y : Id) → Supported h Precommit height r x → Supported h Precommit height s y → x ≡ y
one_value h few lawful height r s x y a b = elim (cases_order r s) [
  | inl e ↦ one_content h few lawful Precommit height r x y a (subst (λ n. Supported h Precommit height n y) (sym e) b)
  | inr (inl k) ↦ no_other h few lawful height r x a (suc s) s y (omega arith) k (precommit_quorum h few lawful height s y b)
  | inr (inr k) ↦ sym (no_other h few lawful height s y b (suc r) r x (omega arith) k (precommit_quorum h few lawful height r x a))
]

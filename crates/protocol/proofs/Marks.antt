-- A journal as a list of marks, of which the lemmas on locks speak.
use Rattle.std.proofs.Common.{◌≡◌, ℕ, suc, ◌<◌, ◌≤◌, ◌⊎◌, inl, inr, List, [], ◌∷◌, refl, sym, ◌∙◌, ap, subst, arith, Option, Some, None, eq-eqb, ne_eqb, option_map, le_of_eq, le_of_lt}
use Rattle.messages.specs.declared.body.Step.{Step as VoteStep}
use Rattle.messages.specs.declared.body.Step.TheVariants as vote_steps
use Rattle.protocol.specs.Values.{Id, id}
use Rattle.protocol.specs.Messages.{◌∈◌, Step, Propose, Prevote, Precommit, step_of, step_of_vote, Vote, Act, Proposing, Prevoting, Precommitting, Record, Own, Decided}
use Rattle.protocol.specs.State.{ValueAt}
use Rattle.protocol.specs.Restart.{height_of, last_place, lock_of, lock_by}
use Rattle.protocol.specs.Laws.{place, IsAfter, Grows}
use Rattle.protocol.proofs.Locking.{Mark, mark, place_of, lock_at, lock_of_vote, StandsAfter}

-- ---- votes

pub not_proposing : (step : VoteStep) → step_of_vote step ≡ Propose → ⊥
not_proposing vote_steps.Prevote e = absurd (let k : Prevote ≡ Propose = e in cc)
not_proposing vote_steps.Precommit e = absurd (let k : Precommit ≡ Propose = e in cc)

pub is_prevote : (step : VoteStep) → step_of_vote step ≡ Prevote → step ≡ vote_steps.Prevote
is_prevote vote_steps.Prevote e = refl
is_prevote vote_steps.Precommit e = absurd (let k : Precommit ≡ Prevote = e in cc)

pub is_precommit : (step : VoteStep) → step_of_vote step ≡ Precommit → step ≡ vote_steps.Precommit
is_precommit vote_steps.Precommit e = refl
is_precommit vote_steps.Prevote e = absurd (let k : Prevote ≡ Precommit = e in cc)

-- votes with equal fields are equal
pub same_vote : (v u : Vote) → v.step ≡ u.step → v.height ≡ u.height → v.round ≡ u.round → v.sender ≡ u.sender → v.content ≡ u.content → v ≡ u
same_vote v u step height round sender content =
    let same : record { step = v.step; height = v.height; round = v.round; sender = v.sender; content = v.content } ≡ record { step = u.step; height = u.height; round = u.round; sender = u.sender; content = u.content } = cc (step, height, round, sender, content) in
    same

-- ---- marks

abbrev pub content_of : Act → Option Id
content_of (Proposing r v) = Some (id v)
content_of (Prevoting x) = x
content_of (Precommitting v) = option_map id v

abbrev pub mark_of : ℕ → ℕ → Act → Mark
mark_of h r act = mark (step_of act) h r (content_of act)

abbrev pub vote_mark : Vote → Mark
vote_mark v = mark (step_of_vote v.step) v.height v.round v.content

abbrev pub marks_of : List Record → List Mark
marks_of [] = []
marks_of (Own h r act ∷ rest) = mark_of h r act ∷ marks_of rest
marks_of (Decided b ∷ rest) = marks_of rest

abbrev pub IsUpTo : Option (ℕ × Step) → ℕ → Type 0
IsUpTo None n = ⊥
IsUpTo (Some last) n = n ≤ place last.1 last.0

-- every mark of a journal is of an earlier height, or at most at the last place
abbrev pub IsPast : List Record → Mark → Type 0
IsPast j m = (m.height < height_of j) ⊎ ((m.height ≡ height_of j) × IsUpTo (last_place j) (place_of m))

up_to_after : (last : Option (ℕ × Step)) (n r : ℕ) (st : Step) → IsUpTo last n → IsAfter last r st → n < place st r
up_to_after None n r st u a = absurd u
up_to_after (Some l) n r st u a = omega arith

pub past : (j : List Record) → Grows j → (m : Mark) → m ∈ marks_of j → IsPast j m
past [] g m p = absurd p
past (Own h r act ∷ rest) g m (inl p) = inr (ap (λ (k : Mark). k.height) p ∙ g.0, le_of_eq (ap place_of p))
past (Own h r act ∷ rest) g m (inr p) = elim (past rest g.2 m p) [
  | inl k ↦ inl k
  | inr k ↦ inr (k.0, le_of_lt (up_to_after (last_place rest) (place_of m) r (step_of act) k.1 g.1))
]
past (Decided b ∷ rest) g m p = elim (past rest g.1 m p) [ inl k ↦ inl (omega arith) | inr k ↦ inl (let e = k.0 in omega arith) ]

-- so marks of one height grow
pub marks_grow : (j : List Record) → Grows j → (w : Mark) (f : List Mark) → StandsAfter (marks_of j) w f → (z : Mark) → z ∈ f → z.height ≡ w.height → place_of z < place_of w
marks_grow [] g w f s z p e = absurd s
marks_grow (Own h r act ∷ rest) g w f (inl s) z p e =
    let q : z ∈ marks_of rest = subst (λ (l : List Mark). z ∈ l) (sym s.1) p in
    let hw = ap (λ (k : Mark). k.height) s.0 in
    let pw = ap place_of s.0 in
    elim (past rest g.2 z q) [
      | inl k ↦ absurd (let a = g.0 in omega arith)
      | inr k ↦ (let u = up_to_after (last_place rest) (place_of z) r (step_of act) k.1 g.1 in omega arith)
    ]
marks_grow (Own h r act ∷ rest) g w f (inr s) z p e = marks_grow rest g.2 w f s z p e
marks_grow (Decided b ∷ rest) g w f s z p e = marks_grow rest g.1 w f s z p e

-- ---- the lock

abbrev pub locked_id : Option ValueAt → Option (ℕ × Id)
locked_id None = None
locked_id (Some l) = Some (l.round, id l.value)

unlocked : (height : ℕ) (ms : List Mark) → ((m : Mark) → m ∈ ms → m.height < height) → lock_at height ms ≡ None
unlocked height [] below = refl
unlocked height (m ∷ ms) below = rw (ne_eqb m.height height (λ e. let k = below m (inl refl) in omega arith)) (unlocked height ms (λ n p. below n (inr p)))

lock_step : (r : ℕ) (act : Act) (before : Option ValueAt) → lock_of_vote (step_of act) r (content_of act) (locked_id before) ≡ locked_id (lock_by r act before)
lock_step r (Proposing vr v) before = refl
lock_step r (Prevoting x) before = refl
lock_step r (Precommitting None) before = refl
lock_step r (Precommitting (Some v)) before = refl

pub same_lock : (j : List Record) → Grows j → lock_at (height_of j) (marks_of j) ≡ locked_id (lock_of j)
same_lock [] g = refl
same_lock (Own h r act ∷ rest) g = rw (eq-eqb h (height_of rest) g.0) (ap (lock_of_vote (step_of act) r (content_of act)) (same_lock rest g.2) ∙ lock_step r act (lock_of rest))
same_lock (Decided b ∷ rest) g = unlocked (suc (height_of rest)) (marks_of rest) (λ m p. elim (past rest g.1 m p) [ inl k ↦ omega arith | inr k ↦ (let e = k.0 in omega arith) ])

-- What the order names comes before every other rule that holds: an earlier stage names nothing, and within a stage the round is the first.
use Rattle.std.proofs.Common.{◌≡◌, ℕ, suc, ◌<◌, ◌≤◌, ◌^◌, inl, inr, Bool, true, false, cond, not, ◌&&◌, List, refl, sym, ◌∙◌, ap, subst, arith, Option, Some, None, option_map, find, take, ltb-true, ltb-false, lt-ltb}
use Rattle.std.specs.Prelude.{nat_lt, ◌==◌}
use Rattle.std.proofs.lemmas.Bool.{and_from, cases_Bool, cases_eq, cond_both}
use Rattle.protocol.specs.Values.{Value}
use Rattle.protocol.specs.Messages.{Propose, step_eq, Proposal, Bundle}
use Rattle.protocol.specs.State.{Context, State, Rule, Start, PrevoteFresh, PrevoteAgain, AwaitPrevotes, Lock, PrecommitNil, AwaitPrecommits, Decide, DecideByBundle, SkipRound, TimedOut, Timeout}
use Rattle.protocol.specs.Rules.{holds, weak_at}
use Rattle.protocol.specs.Order.{soonest, highest, starting, is_decidable, deciding, rounds_of, skipping, is_fresh, prevoting, is_again, again, again_of, prevoting_again, is_lockable, locking, giving_up, awaiting_prevotes, awaiting_precommits, or_next, enabled, row, comes_before, with_first, FirstLaw}
use Rattle.protocol.proofs.Searches.{none_some, option_map_some, cond_some, soonest_least, soonest_first, find_first, highest_most}
use Rattle.protocol.proofs.Asked.{asked}
use Rattle.protocol.proofs.Order.{IsNamed, enabled_named, deciding_named, prevoting_named, prevoting_again_named, locking_named, has_begun, decidable, weak_round, no_start, no_decide, no_skip, no_prevote, no_prevote_again, no_lock, no_give_up, no_await_prevotes, no_await_precommits}

-- the round that a rule names
abbrev round_named : Rule → ℕ
round_named (Decide r v) = r
round_named (SkipRound r) = r
round_named _ = 0

-- a stage names rules of this row alone
abbrev RowIs : ℕ → Option Rule → Type 0
RowIs n None = Unit {0}
RowIs n (Some k) = row k ≡ n

row_if : (n : ℕ) (b : Bool) (o : Option Rule) → RowIs n o → RowIs n (cond b o None)
row_if n b o r = cond_both b o None (RowIs n) (λ _. r) (λ _. tt)

row_map : {X : Type 0} (n : ℕ) (f : X → Rule) (o : Option X) → ((x : X) → row (f x) ≡ n) → RowIs n (option_map f o)
row_map n f None r = tt
row_map n f (Some x) r = r x

row_again : (o : Option Proposal) → RowIs 4 (again_of o)
row_again None = tt
row_again (Some q) = by_round q.valid_round
  where
    by_round : (vr : Option ℕ) → RowIs 4 (again q vr)
    by_round None = tt
    by_round (Some r) = refl

module _ (g : Context) (s : State) where
  -- the stages, by the rows that they name
  abbrev stage : ℕ → Option Rule
  stage n =
      cond (n == 0) (starting s)
      (cond (n == 1) (deciding g.powers s)
      (cond (n == 2) (skipping g.powers s)
      (cond (n == 3) (prevoting g.powers s)
      (cond (n == 4) (prevoting_again g.powers s)
      (cond (n == 5) (locking g.powers s)
      (cond (n == 6) (giving_up g.powers s)
      (cond (n == 7) (awaiting_prevotes g.powers s)
      (awaiting_precommits g.powers s))))))))

  row_0 : RowIs 0 (starting s)
  row_0 = cond_both s.begun None (Some Start) (RowIs 0) (λ _. tt) (λ _. refl)

  row_1 : RowIs 1 (deciding g.powers s)
  row_1 = row_if 1 (nat_lt s.height (2 ^ 48)) _ (row_map 1 (λ (q : Proposal). Decide q.round q.value) (soonest (is_decidable g.powers s) s.proposals) (λ q. refl))

  row_2 : RowIs 2 (skipping g.powers s)
  row_2 = row_map 2 SkipRound (highest (λ r. nat_lt s.round r && weak_at g.powers s r) (rounds_of s)) (λ r. refl)

  row_3 : RowIs 3 (prevoting g.powers s)
  row_3 = row_if 3 _ _ (row_map 3 (λ (q : Proposal). PrevoteFresh q.value) (find (is_fresh g.powers s) s.proposals) (λ q. refl))

  row_4 : RowIs 4 (prevoting_again g.powers s)
  row_4 = row_if 4 _ _ (row_again (find (is_again g.powers s) s.proposals))

  row_5 : RowIs 5 (locking g.powers s)
  row_5 = row_if 5 _ _ (row_map 5 (λ (q : Proposal). Lock q.value) (find (is_lockable g.powers s) s.proposals) (λ q. refl))

  row_6 : RowIs 6 (giving_up g.powers s)
  row_6 = row_if 6 _ (Some PrecommitNil) refl

  row_7 : RowIs 7 (awaiting_prevotes g.powers s)
  row_7 = row_if 7 _ (Some AwaitPrevotes) refl

  row_8 : RowIs 8 (awaiting_precommits g.powers s)
  row_8 = row_if 8 _ (Some AwaitPrecommits) refl

  -- ---- where the order names a rule, the stages before name none

  abbrev NoneBelow : ℕ → Type 0
  NoneBelow i = (n : ℕ) → n < i → stage n ≡ None

  record Placed (k : Rule) : Type 0 where
    named : stage (row k) ≡ Some k
    before : NoneBelow (row k)

  none_more : (i : ℕ) → NoneBelow i → stage i ≡ None → NoneBelow (suc i)
  none_more i b e n l = elim (cases_eq n i) [ inl q ↦ subst (λ m. stage m ≡ None) (sym q) e | inr q ↦ b n (omega arith) ]

  place : (i : ℕ) (k : Rule) → RowIs i (stage i) → NoneBelow i → stage i ≡ Some k → Placed k
  place i k r b e = let at : row k ≡ i = subst (RowIs i) e r in record { named = subst (λ n. stage n ≡ Some k) (sym at) e; before = subst NoneBelow (sym at) b }

  next : (i : ℕ) (k : Rule) (other : Option Rule) → RowIs i (stage i) → NoneBelow i → (NoneBelow (suc i) → other ≡ Some k → Placed k) → or_next (stage i) other ≡ Some k → Placed k
  next i k other r b f e = by_stage (stage i) refl e
    where
      by_stage : (o : Option Rule) → stage i ≡ o → or_next o other ≡ Some k → Placed k
      by_stage None n q = f (none_more i b n) q
      by_stage (Some j) n q = place i k r b (n ∙ q)

  -- the stages after this one
  abbrev after_6 : Option Rule
  after_6 = or_next (awaiting_prevotes g.powers s) (awaiting_precommits g.powers s)

  abbrev after_5 : Option Rule
  after_5 = or_next (giving_up g.powers s) after_6

  abbrev after_4 : Option Rule
  after_4 = or_next (locking g.powers s) after_5

  abbrev after_3 : Option Rule
  after_3 = or_next (prevoting_again g.powers s) after_4

  abbrev after_2 : Option Rule
  after_2 = or_next (prevoting g.powers s) after_3

  abbrev after_1 : Option Rule
  after_1 = or_next (skipping g.powers s) after_2

  abbrev after_0 : Option Rule
  after_0 = or_next (deciding g.powers s) after_1

  placed : (k : Rule) → enabled g.powers s ≡ Some k → Placed k
  unfolding enabled
  placed k e =
      next 0 k after_0 row_0 (λ n l. absurd (omega arith)) (λ b1.
      next 1 k after_1 row_1 b1 (λ b2.
      next 2 k after_2 row_2 b2 (λ b3.
      next 3 k after_3 row_3 b3 (λ b4.
      next 4 k after_4 row_4 b4 (λ b5.
      next 5 k after_5 row_5 b5 (λ b6.
      next 6 k after_6 row_6 b6 (λ b7.
      next 7 k (awaiting_precommits g.powers s) row_7 b7 (λ b8. place 8 k row_8 b8)))))))) e

  -- ---- so no rule of an earlier row holds

  not_held : (j : Rule) → row j < 9 → stage (row j) ≡ None → holds g s j ≡ true → ⊥
  not_held Start l n e = no_start g s n e
  not_held (Decide r v) l n e = no_decide g s r v n e
  not_held (SkipRound r) l n e = no_skip g s r n e
  not_held (PrevoteFresh v) l n e = no_prevote g s v n e
  not_held (PrevoteAgain r v) l n e = no_prevote_again g s r v n e
  not_held (Lock v) l n e = no_lock g s v n e
  not_held PrecommitNil l n e = no_give_up g s n e
  not_held AwaitPrevotes l n e = no_await_prevotes g s n e
  not_held AwaitPrecommits l n e = no_await_precommits g s n e
  not_held (DecideByBundle b) l n e = absurd (omega arith)
  not_held (TimedOut t) l n e = absurd (omega arith)

  -- ---- and none of an earlier round

  no_sooner : (r q : ℕ) (v u : Value) → deciding g.powers s ≡ Some (Decide q u) → r < q → holds g s (Decide r v) ≡ true → ⊥
  no_sooner r q v u n l e =
      let d = decidable g s r v e in
      let o = cond_some (nat_lt s.height (2 ^ 48)) (option_map (λ (p : Proposal). Decide p.round p.value) (soonest (is_decidable g.powers s) s.proposals)) (Decide q u) n in
      let f = option_map_some (λ (p : Proposal). Decide p.round p.value) (soonest (is_decidable g.powers s) s.proposals) (Decide q u) o in
      let at : f.0.round ≡ q = ap round_named f.2 in
      let least : f.0.round ≤ d.proposal.round = soonest_least (is_decidable g.powers s) s.proposals f.0 f.1 d.proposal d.there d.passes in
      let here : d.proposal.round ≡ r = d.round_is in
      absurd (omega arith)

  no_higher : (r q : ℕ) → skipping g.powers s ≡ Some (SkipRound q) → q < r → holds g s (SkipRound r) ≡ true → ⊥
  no_higher r q n l e =
      let a = asked g s (SkipRound r) e in
      let test : ℕ → Bool = λ m. nat_lt s.round m && weak_at g.powers s m in
      let f = option_map_some SkipRound (highest test (rounds_of s)) (SkipRound q) n in
      let at : f.0 ≡ q = ap round_named f.2 in
      let most : r ≤ f.0 = highest_most test (rounds_of s) f.0 f.1 r (weak_round g.powers s r a.weak) (and_from _ _ (lt-ltb _ _ a.above) a.weak) in
      absurd (omega arith)

  -- ---- so none that comes before holds

  before_row : (j k : Rule) → comes_before j k ≡ true → row j ≤ row k
  before_row (Decide r v) (Decide q u) b = omega arith
  before_row (SkipRound r) (SkipRound q) b = omega arith
  before_row j k b = let l = ltb-true (row j) (row k) b in omega arith

  first_holds : (j k : Rule) → Placed k → row j < 9 → comes_before j k ≡ true → holds g s j ≡ true → ⊥
  first_holds (Decide r v) (Decide q u) p l b h = no_sooner r q v u p.named (ltb-true _ _ b) h
  first_holds (SkipRound r) (SkipRound q) p l b h = no_higher r q p.named (ltb-true _ _ b) h
  first_holds j k p l b h = not_held j l (p.before (row j) (ltb-true _ _ b)) h

-- ---- of those of which neither comes before the other, the one whose proposal was kept first

-- what a stage names when the first proposals were kept, it names now
stage_first : (stage : Option Proposal → Option Rule) → stage None ≡ None → (test : Proposal → Bool) (n : ℕ) (qs : List Proposal) (k : Rule) → stage (find test (take n qs)) ≡ Some k → stage (find test qs) ≡ Some k
stage_first stage empty test n qs k e = elim (find_first test n qs) [
  | inl none ↦ absurd (none_some k (sym empty ∙ (sym (ap stage none) ∙ e)))
  | inr same ↦ sym (ap stage same) ∙ e
]

if_none : (b : Bool) (o : Option Rule) → o ≡ None → cond b o None ≡ None
if_none true o e = e
if_none false o e = refl

-- the stage names a rule that held then, and so does the one that it names now
held_then : (g : Context) (t : State) (then now : Option Rule) (k : Rule) → (then ≡ None → ⊥) → ((i : Rule) → then ≡ Some i → now ≡ Some i) → now ≡ Some k → IsNamed g t then → holds g t k ≡ true
held_then g t None now k some more e named = absurd (some refl)
held_then g t (Some i) now k some more e named = let same : Some i ≡ Some k = sym (more i refl) ∙ e in let l : i ≡ k = cc in subst (λ r. holds g t r ≡ true) l named.0

-- a timeout's and a bundle's rules come last
before_bundle : (k : Rule) (b : Bundle) → row k < 9 → comes_before k (DecideByBundle b) ≡ false → ⊥
before_bundle Start b l e = absurd cc
before_bundle k b l e = let c = ltb-false (row k) 9 e in absurd (omega (arith, l))

before_timeout : (k : Rule) (t : Timeout) → row k < 9 → comes_before k (TimedOut t) ≡ false → ⊥
before_timeout Start t l e = absurd cc
before_timeout k t l e = let c = ltb-false (row k) 9 e in absurd (omega (arith, l))

module _ (g : Context) (s : State) (n : ℕ) where
  abbrev early : State
  early = with_first n s

  decide_first : (r q : ℕ) (v u : Value) → r ≡ q → deciding g.powers s ≡ Some (Decide q u) → holds g early (Decide r v) ≡ true → holds g early (Decide q u) ≡ true
  decide_first r q v u same now h = held_then g early (deciding g.powers early) (deciding g.powers s) (Decide q u) (λ e. no_decide g early r v e h) more now (deciding_named g early)
    where
      more : (i : Rule) → deciding g.powers early ≡ Some i → deciding g.powers s ≡ Some i
      more i e =
          let test : Proposal → Bool = is_decidable g.powers s in
          let d = decidable g early r v h in
          let a = option_map_some (λ (p : Proposal). Decide p.round p.value) (soonest test s.proposals) (Decide q u) (cond_some (nat_lt s.height (2 ^ 48)) _ (Decide q u) now) in
          let b = option_map_some (λ (p : Proposal). Decide p.round p.value) (soonest test early.proposals) i (cond_some (nat_lt s.height (2 ^ 48)) _ i e) in
          let at : a.0.round ≡ q = ap round_named a.2 in
          let least : b.0.round ≤ d.proposal.round = soonest_least test early.proposals b.0 b.1 d.proposal d.there d.passes in
          let here : d.proposal.round ≡ r = d.round_is in
          let l : b.0 ≡ a.0 = soonest_first test n s.proposals b.0 a.0 b.1 a.1 (omega arith) in
          let k : Decide q u ≡ i = sym a.2 ∙ (sym (ap (λ (p : Proposal). Decide p.round p.value) l) ∙ b.2) in
          now ∙ ap (λ x. Some x) k

  fresh_first : (v u : Value) → s.begun ≡ true → prevoting g.powers s ≡ Some (PrevoteFresh u) → holds g early (PrevoteFresh v) ≡ true → holds g early (PrevoteFresh u) ≡ true
  fresh_first v u begun now h = held_then g early (prevoting g.powers early) (prevoting g.powers s) (PrevoteFresh u) (λ e. no_prevote g early v e h)
      (stage_first (λ o. cond (step_eq s.step Propose) (option_map (λ (q : Proposal). PrevoteFresh q.value) o) None) (if_none _ None refl) (is_fresh g.powers s) n s.proposals) now (prevoting_named g early begun)

  again_first : (r q : ℕ) (v u : Value) → s.begun ≡ true → prevoting_again g.powers s ≡ Some (PrevoteAgain q u) → holds g early (PrevoteAgain r v) ≡ true → holds g early (PrevoteAgain q u) ≡ true
  again_first r q v u begun now h = held_then g early (prevoting_again g.powers early) (prevoting_again g.powers s) (PrevoteAgain q u) (λ e. no_prevote_again g early r v e h)
      (stage_first (λ o. cond (step_eq s.step Propose) (again_of o) None) (if_none _ None refl) (is_again g.powers s) n s.proposals) now (prevoting_again_named g early begun)

  lock_first : (v u : Value) → s.begun ≡ true → locking g.powers s ≡ Some (Lock u) → holds g early (Lock v) ≡ true → holds g early (Lock u) ≡ true
  lock_first v u begun now h = held_then g early (locking g.powers early) (locking g.powers s) (Lock u) (λ e. no_lock g early v e h)
      (stage_first (λ o. cond (not (step_eq s.step Propose) && not s.value_found) (option_map (λ (q : Proposal). Lock q.value) o) None) (if_none _ None refl) (is_lockable g.powers s) n s.proposals) now (locking_named g early begun)

  same_round : (r q : ℕ) → nat_lt r q ≡ false → nat_lt q r ≡ false → r ≡ q
  same_round r q a b = let c = ltb-false r q a in let d = ltb-false q r b in omega arith

  begun_at : (k : Rule) → Placed g s k → 0 < row k → s.begun ≡ true
  begun_at k p l = has_begun g s (p.before 0 l)

  first_kept : (j k : Rule) → Placed g s k → row k < 9 → comes_before j k ≡ false → comes_before k j ≡ false → holds g early j ≡ true → holds g early k ≡ true
  first_kept (Decide r v) (Decide q u) p l a b h = decide_first r q v u (same_round r q a b) p.named h
  first_kept (SkipRound r) (SkipRound q) p l a b h = subst (λ m. holds g early (SkipRound m) ≡ true) (same_round r q b a) h
  first_kept (PrevoteFresh v) (PrevoteFresh u) p l a b h = fresh_first v u (begun_at (PrevoteFresh u) p (omega arith)) p.named h
  first_kept (PrevoteAgain r v) (PrevoteAgain q u) p l a b h = again_first r q v u (begun_at (PrevoteAgain q u) p (omega arith)) p.named h
  first_kept (Lock v) (Lock u) p l a b h = lock_first v u (begun_at (Lock u) p (omega arith)) p.named h
  first_kept Start Start p l a b h = h
  first_kept PrecommitNil PrecommitNil p l a b h = h
  first_kept AwaitPrevotes AwaitPrevotes p l a b h = h
  first_kept AwaitPrecommits AwaitPrecommits p l a b h = h
  first_kept (DecideByBundle d) k p l a b h = absurd (before_bundle k d l b)
  first_kept (TimedOut t) k p l a b h = absurd (before_timeout k t l b)
  first_kept j k p l a b h = absurd (let c = ltb-false (row j) (row k) a in let d = ltb-false (row k) (row j) b in omega (arith, l))

pub first_law : FirstLaw
first_law g s j k e =
    let p = placed g s k e in
    let l = (enabled_named g s k e).1 in (
      λ b. elim (cases_Bool (holds g s j)) [ inl t ↦ absurd (first_holds g s j k p (let m = before_row g s j k b in omega arith) b t) | inr f ↦ f ],
      λ a b n h. first_kept g s n j k p l a b h,
    )

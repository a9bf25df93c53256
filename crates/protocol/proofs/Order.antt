-- The order of firing: what it names holds, and where it names nothing no rule holds but a timeout's or a bundle's.
use Rattle.std.proofs.Common.{◌≡◌, ℕ, ◌*◌, ◌<◌, ◌^◌, inl, inr, Bool, true, false, cond, not, ◌&&◌, List, refl, sym, ◌∙◌, subst, arith, Option, Some, None, map, find, option_map, ltb-true, lt-ltb, eqb-true}
use Rattle.std.specs.Prelude.{nat_lt, is_none, ◌==◌}
use Rattle.std.proofs.lemmas.Bool.{and_parts, and_from, or_cases, cases_Bool, cond_both}
use Rattle.powers.specs.Power.{power, total, is_weak}
use Rattle.powers.proofs.Quorums.{some_outside, no_power}
use Rattle.transactions.proofs.Equality.{value_eq_decides}
use Rattle.messages.proofs.Equality.{round_eq_decides}
use Rattle.protocol.specs.Values.{Value, id, valid, value_eq}
use Rattle.protocol.specs.Messages.{◌∈◌, Propose, Prevote, Precommit, step_eq, round_eq, Proposal, Vote}
use Rattle.protocol.specs.Tally.{senders, proposers, speakers}
use Rattle.protocol.specs.State.{Context, State, Rule, Start, PrevoteFresh, PrevoteAgain, AwaitPrevotes, Lock, PrecommitNil, AwaitPrecommits, Decide, DecideByBundle, SkipRound, TimedOut}
use Rattle.protocol.specs.Rules.{holds, stands_at, is_proposed, is_proposed_from, quorum_for, quorum_any, weak_at}
use Rattle.protocol.specs.Order.{soonest, highest, starting, is_decidable, deciding, rounds_of, skipping, is_fresh, prevoting, is_backed, is_again, again, again_of, prevoting_again, is_lockable, locking, giving_up, awaiting_prevotes, awaiting_precommits, or_next, enabled, row, QuietLaw, EnabledLaw}
use Rattle.protocol.proofs.Membership.{in_left, in_right, map_in, any_found, any_in, found_in, found_none}
use Rattle.protocol.proofs.Searches.{none_some, option_map_none, soonest_passes, soonest_none, highest_passes, highest_none}
use Rattle.protocol.proofs.Asked.{asked}

-- ---- small words

cond_none : {X : Type 0} (b : Bool) (o : Option X) → cond b o None ≡ None → b ≡ true → o ≡ None
cond_none b o e t = let f : cond b o None ≡ None = e in rw t at f

negated : (b : Bool) → b ≡ false → not b ≡ true
negated b e = rw e refl

same_value : (v : Value) → value_eq v v ≡ true
same_value v = (value_eq_decides v v).1 refl

none_round : (o : Option ℕ) → is_none o ≡ true → round_eq o None ≡ true
none_round None e = refl
none_round (Some r) e = absurd (let f : false ≡ true = e in cc)

round_none : (o : Option ℕ) → round_eq o None ≡ true → is_none o ≡ true
round_none None e = refl
round_none (Some r) e = absurd (let f : false ≡ true = e in cc)

stands_again : (powers : List ℕ) (s : State) (round : ℕ) (q : Proposal) → stands_at powers s round q ≡ true → stands_at powers s q.round q ≡ true
stands_again powers s round q e = subst (λ r. stands_at powers s r q ≡ true) (sym (eqb-true _ _ (and_parts _ _ e).0)) e

-- ---- what a stage names holds

abbrev pub IsNamed : Context → State → Option Rule → Type 0
IsNamed g s None = Unit {0}
IsNamed g s (Some k) = (holds g s k ≡ true) × (row k < 9)

module _ (g : Context) (s : State) where
  named_if : (b : Bool) (o : Option Rule) → (b ≡ true → IsNamed g s o) → IsNamed g s (cond b o None)
  named_if b o f = cond_both b o None (IsNamed g s) f (λ _. tt)

  pub named_next : (o other : Option Rule) → IsNamed g s o → (o ≡ None → IsNamed g s other) → IsNamed g s (or_next o other)
  named_next None other k f = f refl
  named_next (Some r) other k f = k

  named_map : {X : Type 0} (f : X → Rule) (o : Option X) → ((x : X) → o ≡ Some x → (holds g s (f x) ≡ true) × (row (f x) < 9)) → IsNamed g s (option_map f o)
  named_map f None k = tt
  named_map f (Some x) k = k x refl

  proposed : (round : ℕ) (q : Proposal) → q ∈ s.proposals → stands_at g.powers s round q ≡ true → is_proposed g.powers s round q.value ≡ true
  proposed round q i e = any_in _ q s.proposals i (and_from _ _ e (same_value q.value))

  proposed_from : (round : ℕ) (vr : Option ℕ) (q : Proposal) → q ∈ s.proposals → stands_at g.powers s round q ≡ true → round_eq q.valid_round vr ≡ true → is_proposed_from g.powers s round vr q.value ≡ true
  proposed_from round vr q i e r = any_in _ q s.proposals i (and_from _ _ (and_from _ _ e r) (same_value q.value))

  pub deciding_named : IsNamed g s (deciding g.powers s)
  deciding_named = named_if (nat_lt s.height (2 ^ 48)) _ (λ room. named_map (λ (q : Proposal). Decide q.round q.value) (soonest (is_decidable g.powers s) s.proposals) (λ q e.
      let f = soonest_passes (is_decidable g.powers s) s.proposals q e in
      let a = and_parts _ _ f.passes in
      let b = and_parts _ _ a.0 in
      (and_from _ _ (and_from _ _ (and_from _ _ room (proposed q.round q f.there b.0)) a.1) b.1, omega arith)))

  module _ (begun : s.begun ≡ true) where
    pub skipping_named : IsNamed g s (skipping g.powers s)
    skipping_named = named_map SkipRound (highest (λ r. nat_lt s.round r && weak_at g.powers s r) (rounds_of s)) (λ r e.
        let a = and_parts _ _ (highest_passes (λ n. nat_lt s.round n && weak_at g.powers s n) (rounds_of s) r e) in
        (and_from _ _ (and_from _ _ begun a.0) a.1, omega arith))

    pub prevoting_named : IsNamed g s (prevoting g.powers s)
    prevoting_named = named_if (step_eq s.step Propose) _ (λ at. named_map (λ (q : Proposal). PrevoteFresh q.value) (find (is_fresh g.powers s) s.proposals) (λ q e.
        let f = found_in (is_fresh g.powers s) s.proposals q e in
        let a = and_parts _ _ f.passes in
        (and_from _ _ (and_from _ _ begun at) (proposed_from s.round None q f.there a.0 (none_round q.valid_round a.1)), omega arith)))

    again_named : (q : Proposal) → q ∈ s.proposals → stands_at g.powers s s.round q ≡ true → step_eq s.step Propose ≡ true → (vr : Option ℕ) → q.valid_round ≡ vr → is_backed g.powers s q.value vr ≡ true → IsNamed g s (again q vr)
    again_named q i st at None e b = absurd (let f : false ≡ true = b in cc)
    again_named q i st at (Some r) e b =
        let a = and_parts _ _ b in
        (and_from _ _ (and_from _ _ (and_from _ _ (and_from _ _ begun at) a.0) (proposed_from s.round (Some r) q i st ((round_eq_decides q.valid_round (Some r)).1 e))) a.1, omega arith)

    again_of_named : (o : Option Proposal) → find (is_again g.powers s) s.proposals ≡ o → step_eq s.step Propose ≡ true → IsNamed g s (again_of o)
    again_of_named None e at = tt
    again_of_named (Some q) e at =
        let f = found_in (is_again g.powers s) s.proposals q e in
        let a = and_parts _ _ f.passes in
        again_named q f.there a.0 at q.valid_round refl a.1

    pub prevoting_again_named : IsNamed g s (prevoting_again g.powers s)
    prevoting_again_named = named_if (step_eq s.step Propose) _ (λ at. again_of_named (find (is_again g.powers s) s.proposals) refl at)

    pub locking_named : IsNamed g s (locking g.powers s)
    locking_named = named_if (not (step_eq s.step Propose) && not s.value_found) _ (λ at. named_map (λ (q : Proposal). Lock q.value) (find (is_lockable g.powers s) s.proposals) (λ q e.
        let f = found_in (is_lockable g.powers s) s.proposals q e in
        let t = and_parts _ _ at in
        let a = and_parts _ _ f.passes in
        let b = and_parts _ _ a.0 in
        (and_from _ _ (and_from _ _ (and_from _ _ (and_from _ _ (and_from _ _ begun t.0) (proposed s.round q f.there b.0)) a.1) b.1) t.1, omega arith)))

    pub giving_up_named : IsNamed g s (giving_up g.powers s)
    giving_up_named = named_if (step_eq s.step Prevote && quorum_for g.powers s s.round Prevote None) _ (λ at. let a = and_parts _ _ at in (and_from _ _ (and_from _ _ begun a.0) a.1, omega arith))

    pub awaiting_prevotes_named : IsNamed g s (awaiting_prevotes g.powers s)
    awaiting_prevotes_named = named_if (step_eq s.step Prevote && not s.prevotes_awaited && quorum_any g.powers s s.round Prevote) _ (λ at.
        let a = and_parts _ _ at in
        let b = and_parts _ _ a.0 in
        (and_from _ _ (and_from _ _ (and_from _ _ begun b.0) a.1) b.1, omega arith))

    pub awaiting_precommits_named : IsNamed g s (awaiting_precommits g.powers s)
    awaiting_precommits_named = named_if (not s.precommits_awaited && quorum_any g.powers s s.round Precommit) _ (λ at. let a = and_parts _ _ at in (and_from _ _ (and_from _ _ begun a.1) a.0, omega arith))

  pub starting_named : (b : Bool) → s.begun ≡ b → IsNamed g s (cond b None (Some Start))
  starting_named true e = tt
  starting_named false e = (rw e refl, omega arith)

  pub has_begun : starting s ≡ None → s.begun ≡ true
  has_begun e = elim (cases_Bool s.begun) [ inl t ↦ t | inr t ↦ absurd (let f : cond s.begun None (Some Start) ≡ None = e in let k : Some Start ≡ None = rw t at f in none_some Start (sym k)) ]

  pub all_named : IsNamed g s (enabled g.powers s)
  unfolding enabled
  all_named = named_next (starting s) _ (starting_named s.begun refl) (λ n. let b = has_begun n in
      named_next (deciding g.powers s) _ deciding_named (λ _.
      named_next (skipping g.powers s) _ (skipping_named b) (λ _.
      named_next (prevoting g.powers s) _ (prevoting_named b) (λ _.
      named_next (prevoting_again g.powers s) _ (prevoting_again_named b) (λ _.
      named_next (locking g.powers s) _ (locking_named b) (λ _.
      named_next (giving_up g.powers s) _ (giving_up_named b) (λ _.
      named_next (awaiting_prevotes g.powers s) (awaiting_precommits g.powers s) (awaiting_prevotes_named b) (λ _. awaiting_precommits_named b))))))))

pub enabled_named : (g : Context) (s : State) (k : Rule) → enabled g.powers s ≡ Some k → (holds g s k ≡ true) × (row k < 9)
enabled_named g s k e = subst (IsNamed g s) e (all_named g s)

pub enabled_law : EnabledLaw
enabled_law g s k e = let n = enabled_named g s k e in (n.1, n.0)

-- ---- where no stage names a rule

none_next : (o other : Option Rule) → or_next o other ≡ None → (o ≡ None) × (other ≡ None)
none_next None other e = (refl, e)
none_next (Some k) other e = absurd (none_some k (sym e))

-- who speaks in a round has a kept message of it
in_rounds : (s : State) (round i : ℕ) → speakers s.proposals s.votes round i ≡ true → round ∈ rounds_of s
in_rounds s round i e =
    let of_proposals = map (λ (x : Proposal). x.round) s.proposals in
    let of_votes = map (λ (x : Vote). x.round) s.votes in
    elim (or_cases (proposers s.proposals round i) (senders s.votes (λ (v : Vote). v.round == round) i) e) [
      | inl a ↦ (let q = any_found (λ (x : Proposal). (x.round == round) && (x.sender == i)) s.proposals a in
          in_left round of_proposals of_votes (subst (λ r. r ∈ of_proposals) (eqb-true _ _ (and_parts (q.0.round == round) (q.0.sender == i) q.2).0) (map_in (λ (x : Proposal). x.round) q.0 s.proposals q.1)))
      | inr a ↦ (let v = any_found (λ (x : Vote). (x.round == round) && (x.sender == i)) s.votes a in
          in_right round of_proposals of_votes (subst (λ r. r ∈ of_votes) (eqb-true _ _ (and_parts (v.0.round == round) (v.0.sender == i) v.2).0) (map_in (λ (x : Vote). x.round) v.0 s.votes v.1)))
    ]

pub weak_round : (powers : List ℕ) (s : State) (round : ℕ) → weak_at powers s round ≡ true → round ∈ rounds_of s
unfolding is_weak
weak_round powers s round e =
    let k : total powers < 3 * power powers (speakers s.proposals s.votes round) = ltb-true _ _ e in
    let z = no_power powers in
    let f = some_outside powers (λ _. false) (speakers s.proposals s.votes round) (omega arith) in
    in_rounds s round f.0 f.3

-- a kept proposal of this round and value
pub record Kept (powers : List ℕ) (s : State) (round : ℕ) (v : Value) : Type 0 where
  pub proposal : Proposal
  pub there : proposal ∈ s.proposals
  pub stands : stands_at powers s round proposal ≡ true
  pub value : proposal.value ≡ v

kept_proposal : (powers : List ℕ) (s : State) (round : ℕ) (v : Value) → is_proposed powers s round v ≡ true → Kept powers s round v
kept_proposal powers s round v e = let f = any_found _ s.proposals e in let a = and_parts _ _ f.2 in record { proposal = f.0; there = f.1; stands = a.0; value = (value_eq_decides f.0.value v).0 a.1 }

pub record KeptFrom (powers : List ℕ) (s : State) (round : ℕ) (vr : Option ℕ) (v : Value) : Type 0 where
  pub kept : Kept powers s round v
  pub valid_round : kept.proposal.valid_round ≡ vr

kept_from : (powers : List ℕ) (s : State) (round : ℕ) (vr : Option ℕ) (v : Value) → is_proposed_from powers s round vr v ≡ true → KeptFrom powers s round vr v
kept_from powers s round vr v e =
    let f = any_found _ s.proposals e in
    let a = and_parts _ _ f.2 in
    let b = and_parts _ _ a.0 in
    record { kept = record { proposal = f.0; there = f.1; stands = b.0; value = (value_eq_decides f.0.value v).0 a.1 }; valid_round = (round_eq_decides f.0.valid_round vr).0 b.1 }

module _ (g : Context) (s : State) where
  -- a kept proposal of this round that the first stages may decide
  pub record Decidable (round : ℕ) : Type 0 where
    pub proposal : Proposal
    pub there : proposal ∈ s.proposals
    pub passes : is_decidable g.powers s proposal ≡ true
    pub round_is : proposal.round ≡ round

  pub decidable : (r : ℕ) (v : Value) → holds g s (Decide r v) ≡ true → Decidable r
  decidable r v e =
      let a = asked g s (Decide r v) e in
      let k = kept_proposal g.powers s r v a.proposed in
      let q = k.proposal in
      let same : q.round ≡ r = eqb-true _ _ (and_parts _ _ k.stands).0 in
      let is_valid : valid s.delivered q.value ≡ true = subst (λ u. valid s.delivered u ≡ true) (sym k.value) a.is_valid in
      let quorum : quorum_for g.powers s q.round Precommit (Some (id q.value)) ≡ true = subst (λ u. quorum_for g.powers s q.round Precommit (Some (id u)) ≡ true) (sym k.value) (subst (λ n. quorum_for g.powers s n Precommit (Some (id v)) ≡ true) (sym same) a.quorum) in
      record { proposal = q; there = k.there; passes = and_from _ _ (and_from _ _ (stands_again g.powers s r q k.stands) is_valid) quorum; round_is = same }

  pub no_start : starting s ≡ None → holds g s Start ≡ true → ⊥
  no_start n e = let a : s.begun ≡ false = asked g s Start e in let b : s.begun ≡ true = has_begun g s n in let f : true ≡ false = sym b ∙ a in cc

  pub no_decide : (r : ℕ) (v : Value) → deciding g.powers s ≡ None → holds g s (Decide r v) ≡ true → ⊥
  no_decide r v n e =
      let a = asked g s (Decide r v) e in
      let d = decidable r v e in
      let none = option_map_none (λ (p : Proposal). Decide p.round p.value) (soonest (is_decidable g.powers s) s.proposals) (cond_none (nat_lt s.height (2 ^ 48)) _ n (lt-ltb _ _ a.room)) in
      soonest_none (is_decidable g.powers s) s.proposals none d.proposal d.there d.passes

  pub no_skip : (r : ℕ) → skipping g.powers s ≡ None → holds g s (SkipRound r) ≡ true → ⊥
  no_skip r n e =
      let a = asked g s (SkipRound r) e in
      let none = option_map_none SkipRound (highest (λ m. nat_lt s.round m && weak_at g.powers s m) (rounds_of s)) n in
      highest_none (λ m. nat_lt s.round m && weak_at g.powers s m) (rounds_of s) none r (weak_round g.powers s r a.weak) (and_from _ _ (lt-ltb _ _ a.above) a.weak)

  pub no_prevote : (v : Value) → prevoting g.powers s ≡ None → holds g s (PrevoteFresh v) ≡ true → ⊥
  no_prevote v n e =
      let a = asked g s (PrevoteFresh v) e in
      let k = kept_from g.powers s s.round None v a.proposed in
      let none = option_map_none (λ (p : Proposal). PrevoteFresh p.value) (find (is_fresh g.powers s) s.proposals) (cond_none (step_eq s.step Propose) _ n (and_parts _ _ a.at).1) in
      found_none (is_fresh g.powers s) s.proposals none k.kept.proposal k.kept.there (and_from _ _ k.kept.stands (subst (λ o. is_none o ≡ true) (sym k.valid_round) refl))

  again_none : (o : Option Proposal) → find (is_again g.powers s) s.proposals ≡ o → again_of o ≡ None → o ≡ None
  again_none None f e = refl
  again_none (Some q) f e = absurd (by_round q.valid_round (and_parts _ _ (found_in (is_again g.powers s) s.proposals q f).passes).1 e)
    where
      by_round : (vr : Option ℕ) → is_backed g.powers s q.value vr ≡ true → again q vr ≡ None → ⊥
      by_round None b e = let f : false ≡ true = b in cc
      by_round (Some r) b e = none_some (PrevoteAgain r q.value) (sym e)

  pub no_prevote_again : (r : ℕ) (v : Value) → prevoting_again g.powers s ≡ None → holds g s (PrevoteAgain r v) ≡ true → ⊥
  no_prevote_again r v n e =
      let a = asked g s (PrevoteAgain r v) e in
      let k = kept_from g.powers s s.round (Some r) v a.proposed in
      let q = k.kept.proposal in
      let backed : is_backed g.powers s v (Some r) ≡ true = and_from _ _ (lt-ltb _ _ a.earlier) a.quorum in
      let backed_here : is_backed g.powers s q.value q.valid_round ≡ true = subst (λ o. is_backed g.powers s q.value o ≡ true) (sym k.valid_round) (subst (λ u. is_backed g.powers s u (Some r) ≡ true) (sym k.kept.value) backed) in
      let none = again_none (find (is_again g.powers s) s.proposals) refl (cond_none (step_eq s.step Propose) _ n (and_parts _ _ a.at).1) in
      found_none (is_again g.powers s) s.proposals none q k.kept.there (and_from _ _ k.kept.stands backed_here)

  pub no_lock : (v : Value) → locking g.powers s ≡ None → holds g s (Lock v) ≡ true → ⊥
  no_lock v n e =
      let a = asked g s (Lock v) e in
      let k = kept_proposal g.powers s s.round v a.proposed in
      let is_valid : valid s.delivered k.proposal.value ≡ true = subst (λ u. valid s.delivered u ≡ true) (sym k.value) a.is_valid in
      let quorum : quorum_for g.powers s s.round Prevote (Some (id k.proposal.value)) ≡ true = subst (λ u. quorum_for g.powers s s.round Prevote (Some (id u)) ≡ true) (sym k.value) a.quorum in
      let test : not (step_eq s.step Propose) && not s.value_found ≡ true = rw (a.voting, a.first) refl in
      let none = option_map_none (λ (p : Proposal). Lock p.value) (find (is_lockable g.powers s) s.proposals) (cond_none _ _ n test) in
      found_none (is_lockable g.powers s) s.proposals none k.proposal k.there (and_from _ _ (and_from _ _ k.stands is_valid) quorum)

  no_last : (b : Bool) (k : Rule) → cond b (Some k) None ≡ None → b ≡ true → ⊥
  no_last b k n e = none_some k (sym (cond_none b (Some k) n e))

  pub no_give_up : giving_up g.powers s ≡ None → holds g s PrecommitNil ≡ true → ⊥
  no_give_up n e = let a = asked g s PrecommitNil e in no_last _ PrecommitNil n (and_from _ _ (and_parts _ _ a.at).1 a.quorum)

  pub no_await_prevotes : awaiting_prevotes g.powers s ≡ None → holds g s AwaitPrevotes ≡ true → ⊥
  no_await_prevotes n e = let a = asked g s AwaitPrevotes e in no_last _ AwaitPrevotes n (and_from _ _ (and_from _ _ (and_parts _ _ a.at).1 (negated _ a.first)) a.quorum)

  pub no_await_precommits : awaiting_precommits g.powers s ≡ None → holds g s AwaitPrecommits ≡ true → ⊥
  no_await_precommits n e = let a = asked g s AwaitPrecommits e in no_last _ AwaitPrecommits n (and_from _ _ (negated _ a.first) a.quorum)

  -- no stage names a rule
  record NoStage : Type 0 where
    starts : starting s ≡ None
    decides : deciding g.powers s ≡ None
    skips : skipping g.powers s ≡ None
    prevotes : prevoting g.powers s ≡ None
    prevotes_again : prevoting_again g.powers s ≡ None
    locks : locking g.powers s ≡ None
    gives_up : giving_up g.powers s ≡ None
    awaits_prevotes : awaiting_prevotes g.powers s ≡ None
    awaits_precommits : awaiting_precommits g.powers s ≡ None

  no_stage : enabled g.powers s ≡ None → NoStage
  unfolding enabled
  no_stage e =
      let a = none_next (starting s) _ e in
      let b = none_next (deciding g.powers s) _ a.1 in
      let c = none_next (skipping g.powers s) _ b.1 in
      let d = none_next (prevoting g.powers s) _ c.1 in
      let f = none_next (prevoting_again g.powers s) _ d.1 in
      let l = none_next (locking g.powers s) _ f.1 in
      let u = none_next (giving_up g.powers s) _ l.1 in
      let w = none_next (awaiting_prevotes g.powers s) (awaiting_precommits g.powers s) u.1 in
      record { starts = a.0; decides = b.0; skips = c.0; prevotes = d.0; prevotes_again = f.0; locks = l.0; gives_up = u.0; awaits_prevotes = w.0; awaits_precommits = w.1 }

  no_rule : NoStage → (k : Rule) → row k < 9 → holds g s k ≡ true → ⊥
  no_rule n Start i e = no_start n.starts e
  no_rule n (Decide r v) i e = no_decide r v n.decides e
  no_rule n (SkipRound r) i e = no_skip r n.skips e
  no_rule n (PrevoteFresh v) i e = no_prevote v n.prevotes e
  no_rule n (PrevoteAgain r v) i e = no_prevote_again r v n.prevotes_again e
  no_rule n (Lock v) i e = no_lock v n.locks e
  no_rule n PrecommitNil i e = no_give_up n.gives_up e
  no_rule n AwaitPrevotes i e = no_await_prevotes n.awaits_prevotes e
  no_rule n AwaitPrecommits i e = no_await_precommits n.awaits_precommits e
  no_rule n (DecideByBundle b) i e = absurd (omega arith)
  no_rule n (TimedOut t) i e = absurd (omega arith)

pub quiet_law : QuietLaw
quiet_law g s none k i = elim (cases_Bool (holds g s k)) [ inl t ↦ absurd (no_rule g s (no_stage g s none) k i t) | inr f ↦ f ]

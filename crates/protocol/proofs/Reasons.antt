-- What a firing saves has its reason: an earlier quorum that is in the journals, or a lock that allows the vote.
use Rattle.std.proofs.Common.{◌≡◌, ℕ, suc, inl, inr, Bool, true, false, ◌&&◌, List, [], ◌++◌, refl, sym, ◌∙◌, ap, subst, Option, Some, None, option_to_list, leb-true}
use Rattle.std.specs.Prelude.{◌==◌}
use Rattle.std.proofs.lemmas.Bool.{and_parts, or_cases, cond_both}
use Rattle.powers.specs.Power.{proposer}
use Rattle.transactions.proofs.Equality.{value_eq_decides}
use Rattle.protocol.specs.Values.{Value, id, valid}
use Rattle.protocol.specs.Tags.{Setting, genuine}
use Rattle.protocol.specs.Messages.{◌∈◌, Step, Propose, Prevote, Precommit, step_eq, step_of, Precommitting, Record, Own, Decided, Bundle}
use Rattle.protocol.specs.State.{State, ValueAt, Rule, Start, PrevoteFresh, PrevoteAgain, AwaitPrevotes, Lock, PrecommitNil, AwaitPrecommits, Decide, DecideByBundle, SkipRound, TimedOut}
use Rattle.protocol.specs.Rules.{holds, saved, changed, started, starts, proposal_of, lock_is, lock_allows, times_out, content_if}
use Rattle.protocol.specs.Refusals.{context, bundle_senders}
use Rattle.protocol.specs.Premises.{Honesty, IsCorrect}
use Rattle.protocol.specs.Lawful.{Tied}
use Rattle.protocol.proofs.Asked.{asked}
use Rattle.protocol.proofs.Locking.{Mark, mark, Supported, Reason, Allows, AllowsAlone, lock_at}
use Rattle.protocol.proofs.Marks.{content_of, marks_of, same_lock, locked_id}
use Rattle.protocol.proofs.Backing.{Marks, history, KeepsWell, IsBacked, kept_quorum}

module _ (c : Setting) (h : Honesty) where
  -- what a firing saves has its reason, and the votes that were kept stay or, after a decision, go
  abbrev pub HasReason : Marks c h → State → List Record → State → Option Record → Type 0
  HasReason marks s j t None = (t.votes ≡ s.votes) × (t.height ≡ s.height)
  HasReason marks s j t (Some (Own height round act)) = (t.votes ≡ s.votes) × (t.height ≡ s.height) × (height ≡ s.height) × Reason (history c h marks) (step_of act) height round (content_of act) (marks_of j)
  HasReason marks s j t (Some (Decided b)) = (t.votes ≡ []) × Supported (history c h marks) Precommit b.height b.round (id b.value)

  -- each correct member of a bundle's quorum precommitted
  abbrev pub IsBundleCovered : Marks c h → ℕ → Bundle → Type 0
  IsBundleCovered marks p b = (i : ℕ) → IsCorrect c h i → bundle_senders c p b i ≡ true → mark Precommit b.height b.round (Some b.id) ∈ marks i

  abbrev pub IsRuleCovered : Marks c h → ℕ → Rule → Type 0
  IsRuleCovered marks p (DecideByBundle b) = IsBundleCovered marks p b
  IsRuleCovered marks p _ = Unit {0}

  prevote_reason : (marks : Marks c h) (height round : ℕ) (v : Value) (e : List Mark) (b : Bool) → (b ≡ true → Reason (history c h marks) Prevote height round (Some (id v)) e) → Reason (history c h marks) Prevote height round (content_if b v) e
  prevote_reason marks height round v e true k = k refl
  prevote_reason marks height round v e false k = tt

  -- ---- the lock

  alone : (lock : Option ValueAt) (v : Value) → lock_is lock v ≡ true → AllowsAlone (locked_id lock) (id v)
  alone None v e = tt
  alone (Some l) v e = ap id ((value_eq_decides l.value v).0 e)

  allowed : (lock : Option ValueAt) (limit : ℕ) (v : Value) → lock_allows lock limit v ≡ true → Allows (locked_id lock) (id v) limit
  allowed None limit v e = tt
  allowed (Some l) limit v e = elim (or_cases _ _ e) [ inl k ↦ inr (leb-true _ _ k) | inr k ↦ inl (ap id ((value_eq_decides l.value v).0 k)) ]

  the_lock : (s : State) (j : List Record) → Tied s j → lock_at s.height (marks_of j) ≡ locked_id s.lock
  the_lock s j t = ap (λ n. lock_at n (marks_of j)) t.height ∙ same_lock j t.grows ∙ ap locked_id (sym t.lock)

  -- ---- each rule

  starts_reason : (marks : Marks c h) (p : ℕ) (picked : Value) (s : State) (j : List Record) (r : ℕ) → HasReason marks s j (started s r) (starts (context c p) s r picked)
  starts_reason marks p picked s j r = cond_both (proposer c.powers s.height r == p) _ _ (λ o. HasReason marks s j (started s r) o) (λ _. by_value s.valid_value) (λ _. (refl, refl))
    where
      by_value : (o : Option ValueAt) → HasReason marks s j (started s r) (Some (proposal_of s r picked o))
      by_value None = (refl, refl, refl, tt)
      by_value (Some l) = (refl, refl, refl, tt)

  timed_reason : (marks : Marks c h) (p : ℕ) (picked : Value) (s : State) (j : List Record) (kind : Step) → HasReason marks s j (times_out s kind).next ((times_out s kind).saves (context c p) picked)
  timed_reason marks p picked s j Propose = (refl, refl, refl, tt)
  timed_reason marks p picked s j Prevote = (refl, refl, refl, tt)
  timed_reason marks p picked s j Precommit = starts_reason marks p picked s j (suc s.round)

  pub has_reason : (marks : Marks c h) (p : ℕ) (picked : Value) (s : State) (j : List Record) → Tied s j → KeepsWell c h marks s.height s.votes → (k : Rule) → holds (context c p) s k ≡ true → IsRuleCovered marks p k
      → HasReason marks s j (changed s k) (saved (context c p) picked s k)
  has_reason marks p picked s j t w Start e u = starts_reason marks p picked s j 0
  has_reason marks p picked s j t w (PrevoteFresh v) e u = (
    refl,
    refl,
    refl,
    prevote_reason marks s.height s.round v _ (valid s.delivered v && genuine c p v && lock_is s.lock v)
        (λ k. inl (subst (λ o. AllowsAlone o (id v)) (sym (the_lock s j t)) (alone s.lock v (and_parts _ _ k).1))),
  )
  has_reason marks p picked s j t w (PrevoteAgain r v) e u =
      let a = asked (context c p) s (PrevoteAgain r v) e in (
        refl,
        refl,
        refl,
        prevote_reason marks s.height s.round v _ (valid s.delivered v && lock_allows s.lock r v)
            (λ k. inr (record {
              valid_round = r;
              below = a.earlier;
              quorum = kept_quorum c h marks s w r Prevote (id v) a.quorum;
              allowed = subst (λ o. Allows o (id v) r) (sym (the_lock s j t)) (allowed s.lock r v (and_parts _ _ k).1);
            })),
      )
  has_reason marks p picked s j t w AwaitPrevotes e u = (refl, refl)
  has_reason marks p picked s j t w (Lock v) e u =
      let q = kept_quorum c h marks s w s.round Prevote (id v) (asked (context c p) s (Lock v) e).quorum in
      cond_both (step_eq s.step Prevote) (Some (Own s.height s.round (Precommitting (Some v)))) None (λ o. HasReason marks s j (changed s (Lock v)) o) (λ _. (refl, refl, refl, q)) (λ _. (refl, refl))
  has_reason marks p picked s j t w PrecommitNil e u = (refl, refl, refl, tt)
  has_reason marks p picked s j t w AwaitPrecommits e u = (refl, refl)
  has_reason marks p picked s j t w (Decide r v) e u = (refl, kept_quorum c h marks s w r Precommit (id v) (asked (context c p) s (Decide r v) e).quorum)
  has_reason marks p picked s j t w (DecideByBundle b) e u =
      let k = asked (context c p) s (DecideByBundle b) e in
      (refl, record { members = bundle_senders c p b; enough = k.quorum; voted = λ i a m d. subst (λ x. mark Precommit b.height b.round (Some x) ∈ marks i) k.digest (u i (a, d) m) })
  has_reason marks p picked s j t w (SkipRound r) e u = starts_reason marks p picked s j r
  has_reason marks p picked s j t w (TimedOut a) e u = timed_reason marks p picked s j a.kind

  -- so the longer journal is backed
  pub saved_backed : (marks : Marks c h) (s t : State) (o : Option Record) (j : List Record) → HasReason marks s j t o → IsBacked c h (history c h marks) j → IsBacked c h (history c h marks) (option_to_list o ++ j)
  saved_backed marks s t None j r b = b
  saved_backed marks s t (Some (Own height round act)) j r b = (r.3, b)
  saved_backed marks s t (Some (Decided d)) j r b = (r.1, b)

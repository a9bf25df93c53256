-- Nothing stands against a bundle exactly where its rule may fire.
use Rattle.std.proofs.Common.{◌≡◌, ℕ, Bool, true, false, not, None, List, [], ◌∷◌, refl, ap, eq-eqb, lt-ltb}
use Rattle.std.specs.Prelude.{◌==◌, is_none}
use Rattle.std.proofs.lemmas.Bool.{and_parts, and_from, not-false}
use Rattle.std.proofs.lemmas.Slice.Eq.{bytes_eq-Decides}
use Rattle.powers.proofs.Quorums.{quorum_more}
use Rattle.protocol.specs.Tags.{Setting}
use Rattle.protocol.specs.Messages.{Signed, Bundle}
use Rattle.protocol.specs.State.{DecideByBundle}
use Rattle.protocol.specs.Refusals.{context, Cause, first_cause, judge_causes, bundle_senders, named_senders}
use Rattle.protocol.specs.Laws.{JudgeLaw}
use Rattle.protocol.proofs.Membership.{any_found, any_in}
use Rattle.protocol.proofs.Arrivals.{NoneStand, none_stand}
use Rattle.protocol.proofs.Asked.{asked}

causes_none : {R : Type 0} (xs : List (Cause R)) → NoneStand xs → first_cause xs ≡ None
causes_none [] k = refl
causes_none (x ∷ xs) k = rw k.0 (causes_none xs k.1)

not_standing : (b : Bool) → b ≡ true → not b ≡ false
not_standing b e = rw e refl

-- who has a right precommit in the bundle is named in it
vouched_named : (c : Setting) (p : ℕ) (b : Bundle) (i : ℕ) → bundle_senders c p b i ≡ true → named_senders b i ≡ true
unfolding bundle_senders
vouched_named c p b i e = let f = any_found _ b.precommits e in any_in (λ (s : Signed). s.sender == i) f.0 b.precommits f.1 (and_parts _ _ f.2).0

pub judge_law : JudgeLaw
judge_law c p s b room height = (
  λ e. let k = none_stand (judge_causes c p s.delivered b) (ap is_none e) in
      and_from _ _ (and_from _ _ (and_from _ _ (and_from _ _ (lt-ltb _ _ room) (eq-eqb _ _ height)) (not-false _ k.0)) (not-false _ k.1.1.0)) (not-false _ k.1.1.1.0),
  λ e. let a = asked (context c p) s (DecideByBundle b) e in
      causes_none (judge_causes c p s.delivered b) (
        not_standing _ ((bytes_eq-Decides _ _).1 a.digest),
        (
          not_standing _ (quorum_more c.powers (bundle_senders c p b) (named_senders b) (λ i _ t. vouched_named c p b i t) a.quorum),
          (not_standing _ a.quorum, (not_standing _ a.is_valid, tt)),
        ),
      ),
)

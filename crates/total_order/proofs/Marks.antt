-- The votes of one height as marks of height 0, of which the lemmas on locks speak.
use Rattle.std.proofs.Common.{◌≡◌, ℕ, suc, ◌<◌, inl, inr, List, [], ◌∷◌, map, refl, ◌∙◌, ap, subst, arith, Option, Some, None}
use Rattle.protocol.specs.Values.{Id}
use Rattle.protocol.specs.declared.types.Step.{Step}
use Rattle.protocol.specs.declared.types.Step.TheVariants.{Propose, Prevote, Precommit}
use Rattle.protocol.specs.Messages.{◌∈◌}
use Rattle.protocol.specs.Laws.{place}
use Rattle.protocol.proofs.Membership.{in_map, map_in}
use Rattle.protocol.proofs.Locking.{Mark, mark, place_of, History, Supported, Allows, AllowsAlone, Reason, lock_of_vote, lock_at, StandsAfter, Justified, Lawful, no_other, one_value}
use Rattle.total_order.specs.Locks.{Cast, cast, Votes, QuorumFor, locking, lock, IsFree, IsOlder, HasReason, ComesAfter, IsInOrder, AreLawful, LocksLaw, OneDecisionLaw}

abbrev pub to_mark : Cast → Mark
to_mark v = mark v.step 0 v.round v.content

abbrev pub history : Votes → History
history votes = record { powers = votes.powers; liars = votes.liars; marks = λ i. map to_mark (votes.by i) }

same_locking : (step : Step) (round : ℕ) (content : Option Id) (before : Option (ℕ × Id)) → locking step round content before ≡ lock_of_vote step round content before
same_locking Precommit round (Some x) before = refl
same_locking Precommit round None before = refl
same_locking Prevote round content before = refl
same_locking Propose round content before = refl

same_lock : (vs : List Cast) → lock vs ≡ lock_at 0 (map to_mark vs)
same_lock [] = refl
same_lock (v ∷ vs) = ap (locking v.step v.round v.content) (same_lock vs) ∙ same_locking v.step v.round v.content (lock_at 0 (map to_mark vs))

-- the votes that a list of marks was made from
pub record Unmapped (xs : List Cast) (m : Mark) (earlier : List Mark) : Type 0 where
  pub vote : Cast
  pub before : List Cast
  pub comes : ComesAfter xs vote before
  pub is_mark : to_mark vote ≡ m
  pub are_marks : map to_mark before ≡ earlier

unmapped : (xs : List Cast) (m : Mark) (earlier : List Mark) → StandsAfter (map to_mark xs) m earlier → Unmapped xs m earlier
unmapped [] m earlier s = absurd s
unmapped (x ∷ xs) m earlier (inl e) = record { vote = x; before = xs; comes = inl (refl, refl); is_mark = e.0; are_marks = e.1 }
unmapped (x ∷ xs) m earlier (inr s) = let u = unmapped xs m earlier s in record { vote = u.vote; before = u.before; comes = inr u.comes; is_mark = u.is_mark; are_marks = u.are_marks }

supported : (votes : Votes) (step : Step) (round : ℕ) (x : Id) → QuorumFor votes step round x → Supported (history votes) step 0 round x
supported votes step round x q = record {
  members = q.members;
  enough = q.enough;
  voted = λ i low is honest. map_in to_mark (cast step round x) (votes.by i) (q.voted i low is honest);
}

free : (locked : Option (ℕ × Id)) (x : Id) → IsFree locked x → AllowsAlone locked x
free None x f = f
free (Some l) x f = f

older : (locked : Option (ℕ × Id)) (x : Id) (round : ℕ) → IsOlder locked x round → Allows locked x round
older None x round f = f
older (Some l) x round f = f

reason : (votes : Votes) (step : Step) (round : ℕ) (content : Option Id) (earlier : List Cast) → HasReason votes step round content earlier → Reason (history votes) step 0 round content (map to_mark earlier)
reason votes Prevote round (Some x) earlier (inl f) = inl (subst (λ (l : Option (ℕ × Id)). AllowsAlone l x) (same_lock earlier) (free (lock earlier) x f))
reason votes Prevote round (Some x) earlier (inr u) = inr (record {
  valid_round = u.earlier;
  below = u.before;
  quorum = supported votes Prevote u.earlier x u.quorum;
  allowed = subst (λ (l : Option (ℕ × Id)). Allows l x u.earlier) (same_lock earlier) (older (lock earlier) x u.earlier u.allowed);
})
reason votes Precommit round (Some x) earlier q = supported votes Prevote round x q
reason votes Prevote round None earlier r = tt
reason votes Precommit round None earlier r = tt
reason votes Propose round content earlier r = tt

later_marks : (v : Cast) (earlier : List Cast) → ((w : Cast) → w ∈ earlier → place w.step w.round < place v.step v.round) → (m : Mark) → m ∈ map to_mark earlier → place_of m < place_of (to_mark v)
later_marks v earlier later m is = let f = in_map to_mark m earlier is in subst (λ (n : Mark). place_of n < place_of (to_mark v)) f.2 (later f.0 f.1)

justified : (votes : Votes) (v : Cast) (earlier : List Cast) → IsInOrder votes v earlier → Justified (history votes) (to_mark v) (map to_mark earlier)
justified votes v earlier o = record {
  grows = λ m is _. later_marks v earlier o.later m is;
  reason = reason votes v.step v.round v.content earlier o.reason;
}

lawful : (votes : Votes) → AreLawful votes → Lawful (history votes)
lawful votes are i low honest m earlier s =
    let u = unmapped (votes.by i) m earlier s in
    subst (λ (es : List Mark). Justified (history votes) m es) u.are_marks
    (subst (λ (n : Mark). Justified (history votes) n (map to_mark u.before)) u.is_mark (justified votes u.vote u.before (are i low honest u.vote u.before u.comes)))

pub locks_law : LocksLaw
locks_law votes few are round later x y above a b = no_other (history votes) few (lawful votes are) 0 round x (supported votes Precommit round x a) (suc later) later y (omega arith) above (supported votes Prevote later y b)

pub one_decision_law : OneDecisionLaw
one_decision_law votes few are round other x y a b = one_value (history votes) few (lawful votes are) 0 round other x y (supported votes Precommit round x a) (supported votes Precommit other y b)

-- What a tally knows of its messages, one message more.
use Rattle.std.proofs.Common.{◌≡◌, ℕ, ◌+◌, ◌<◌, ◌≤◌, Bool, true, false, ◌&&◌, ◌||◌, cond, nat_le, min, List, [], ◌∷◌, ◌++◌, length, Option, Some, None, refl, sym, ap, subst, ◌∙◌, inl, inr, arith, eqb-true}
use Rattle.std.specs.Prelude.{◌==◌, slice_index_or}
use Rattle.std.specs.List.{list_any, list_all, count_by, filter}
use Rattle.std.proofs.lemmas.List.Sums.{sum_by-append, length-filter}
use Rattle.std.specs.BTreeMap.{BTreeMap}
use Rattle.std.proofs.lemmas.List.Folds.{list_any-append, list_all-append}
use Rattle.std.proofs.lemmas.Bool.{cases_Bool, cases_eq, cases_lt, and_parts, eq-eqb, ne_eqb, false≢true, le-leb, lt-leb}
use Rattle.messages.specs.declared.body.Step.{Step}
use Rattle.messages.specs.declared.body.Step.TheVariants as steps
use Rattle.messages.specs.Equality.{vote_eq, content_eq, proposal_eq}
use Rattle.messages.proofs.Equality.{vote_eq_decides, content_eq_decides, proposal_eq_decides}
use Rattle.powers.specs.Power.{power, is_weak}
use Rattle.powers.proofs.Quorums.{power_agrees, no_power}
use Rattle.protocol.specs.Messages.{Proposal, Vote, step_eq, step_of_vote}
use Rattle.protocol.specs.Order.{higher}
use Rattle.protocol.specs.Tally.{is_vote, is_vote_for, senders, proposers, speakers, power_above}
use Rattle.vote_tally.specs.declared.heights.Heights.{Heights}
use Rattle.vote_tally.specs.declared.heights.Heights.TheVariants.{Nothing, One, Several}
use Rattle.vote_tally.specs.declared.totals.Topic.{Topic}
use Rattle.vote_tally.specs.declared.totals.Topic.TheVariants.{Round, Prevotes, Precommits, PrevotesFor, PrecommitsFor, Proposals, SecondProposals}
use Rattle.vote_tally.specs.declared.totals.Total.{Total}
use Rattle.vote_tally.specs.Totals.{has, nothing, IsSmall, IsTotal, AreTotals, topic_of, topic_for, speaks, is_about, is_proposed, total_at}
use Rattle.vote_tally.specs.Kept.{Kept, with_vote, with_proposal}
use Rattle.vote_tally.specs.Kept as kept
use Rattle.protocol.specs.declared.types.Step.{Step as RoundStep}
use Rattle.vote_tally.specs.Told.{sent, with_height, AreHeights, IsHighest, IsTold}
use Rattle.vote_tally.proofs.Raising.{has_nothing, or_true, or_false, and_true, and_false, or_assoc}
use Rattle.vote_tally.proofs.Highest.{highest_more, weak_grows, weak_member}

-- ---- lists, one element more

senders_more : (vs : List Vote) (v : Vote) (test : Vote → Bool) (i : ℕ) → senders (vs ++ v ∷ []) test i ≡ (senders vs test i || (test v && (v.sender == i)))
senders_more vs v test i = list_any-append (λ (w : Vote). test w && (w.sender == i)) vs (v ∷ []) ∙ ap (λ (b : Bool). senders vs test i || b) (or_false (test v && (v.sender == i)))

proposers_more : (qs : List Proposal) (q : Proposal) (r i : ℕ) → proposers (qs ++ q ∷ []) r i ≡ (proposers qs r i || ((q.round == r) && (q.sender == i)))
proposers_more qs q r i = list_any-append (λ (p : Proposal). (p.round == r) && (p.sender == i)) qs (q ∷ []) ∙ ap (λ (b : Bool). proposers qs r i || b) (or_false ((q.round == r) && (q.sender == i)))

count_more : {X : Type 0} (p : X → Bool) (xs : List X) (y : X) → count_by p (xs ++ y ∷ []) ≡ count_by p xs + cond (p y) 1 0
count_more p xs y =
    let one : 0 + cond (p y) 1 0 ≡ cond (p y) 1 0 = omega arith in
    sum_by-append (λ x. cond (p x) 1 0) xs (y ∷ []) ∙ ap (λ n. count_by p xs + n) one

-- one of them passes exactly where some pass
any_filter : {X : Type 0} (p : X → Bool) (xs : List X) → list_any p xs ≡ nat_le 1 (length (filter p xs))
any_filter p [] = refl
any_filter p (x ∷ xs) = elim (cases_Bool (p x)) [
  | inl t ↦ rw t (sym (le-leb 1 (length (x ∷ filter p xs)) (omega arith)))
  | inr f ↦ rw f (any_filter p xs)
]

any_count : {X : Type 0} (p : X → Bool) (xs : List X) → list_any p xs ≡ nat_le 1 (count_by p xs)
any_count p xs = any_filter p xs ∙ ap (λ n. nat_le 1 n) (length-filter p xs)

two_more : (n : ℕ) → nat_le 2 (n + 1) ≡ (nat_le 2 n || nat_le 1 n)
two_more n = elim (cases_lt n 1) [
  | inl k ↦ rw (lt-leb 2 (n + 1) (omega (arith, k)), lt-leb 2 n (omega (arith, k)), lt-leb 1 n (omega (arith, k))) refl
  | inr k ↦ rw (le-leb 2 (n + 1) (omega (arith, k)), le-leb 1 n k) (sym (or_true _))
]

-- ---- who speaks, one message more

pub speaks_vote : (qs : List Proposal) (vs : List Vote) (v : Vote) (t : Topic) (i : ℕ) → speaks qs (vs ++ v ∷ []) t i ≡ (speaks qs vs t i || (is_about t v && (v.sender == i)))
speaks_vote qs vs v (Round r) i = rw (senders_more vs v (λ (w : Vote). w.round == r) i) (sym (or_assoc (proposers qs r i) _ _))
speaks_vote qs vs v (Prevotes r) i = senders_more vs v _ i
speaks_vote qs vs v (Precommits r) i = senders_more vs v _ i
speaks_vote qs vs v (PrevotesFor r x) i = senders_more vs v _ i
speaks_vote qs vs v (PrecommitsFor r x) i = senders_more vs v _ i
speaks_vote qs vs v (Proposals r) i = sym (or_false _)
speaks_vote qs vs v (SecondProposals r) i = sym (or_false _)

or_swap : (a b e : Bool) → ((a || e) || b) ≡ ((a || b) || e)
or_swap true b e = refl
or_swap false true e = or_true e
or_swap false false e = or_false e

-- a second proposal is one where some were made
second_more : (qs : List Proposal) (q : Proposal) (r i : ℕ) → nat_le 2 (count_by (λ (p : Proposal). (p.round == r) && (p.sender == i)) (qs ++ q ∷ [])) ≡ (nat_le 2 (count_by (λ (p : Proposal). (p.round == r) && (p.sender == i)) qs) || (((q.round == r) && proposers qs q.round q.sender) && (q.sender == i)))
second_more qs q r i = elim (cases_eq q.round r) [
  | inl same ↦ elim (cases_eq q.sender i) [
    | inl own ↦ rw (count_more (λ (p : Proposal). (p.round == r) && (p.sender == i)) qs q, eq-eqb q.round r same, eq-eqb q.sender i own, and_true (proposers qs q.round q.sender), same, own, any_count (λ (p : Proposal). (p.round == r) && (p.sender == i)) qs) (two_more _)
    | inr other ↦ rw (count_more (λ (p : Proposal). (p.round == r) && (p.sender == i)) qs q, ne_eqb q.sender i other, and_false (q.round == r), and_false ((q.round == r) && proposers qs q.round q.sender), or_false (nat_le 2 (count_by (λ (p : Proposal). (p.round == r) && (p.sender == i)) qs))) (ap (λ n. nat_le 2 n) (omega arith))
  ]
  | inr apart ↦ rw (count_more (λ (p : Proposal). (p.round == r) && (p.sender == i)) qs q, ne_eqb q.round r apart, or_false (nat_le 2 (count_by (λ (p : Proposal). (p.round == r) && (p.sender == i)) qs))) (ap (λ n. nat_le 2 n) (omega arith))
]

pub speaks_proposal : (qs : List Proposal) (vs : List Vote) (q : Proposal) (t : Topic) (i : ℕ) → speaks (qs ++ q ∷ []) vs t i ≡ (speaks qs vs t i || (is_proposed t q.round (proposers qs q.round q.sender) && (q.sender == i)))
speaks_proposal qs vs q (Round r) i = rw (proposers_more qs q r i) (or_swap (proposers qs r i) _ _)
speaks_proposal qs vs q (Prevotes r) i = sym (or_false _)
speaks_proposal qs vs q (Precommits r) i = sym (or_false _)
speaks_proposal qs vs q (PrevotesFor r x) i = sym (or_false _)
speaks_proposal qs vs q (PrecommitsFor r x) i = sym (or_false _)
speaks_proposal qs vs q (Proposals r) i = proposers_more qs q r i
speaks_proposal qs vs q (SecondProposals r) i = second_more qs q r i

-- ---- heights

pub heights_more : (heights : Heights) (vs : List Vote) (v : Vote) → AreHeights heights vs → AreHeights (with_height heights v.height) (vs ++ v ∷ [])
heights_more Nothing vs v h = rw (h, eq-eqb v.height v.height refl) refl
heights_more (One only) vs v h = elim (cases_Bool (only == v.height)) [
  | inl y ↦ (let e : only ≡ v.height = eqb-true only v.height y in
      rw (y, list_all-append (λ (w : Vote). w.height == only) vs (v ∷ []), h, eq-eqb v.height only (sym e)) refl)
  | inr apart ↦ rw apart tt
]
heights_more Several vs v h = tt

-- ---- the power of those who speak

pub power_is : (powers : List ℕ) (o : Total) (set : ℕ → Bool) → length powers ≤ 128 → IsTotal powers o → ((i : ℕ) → i < 128 → has o.voters i ≡ set i) → o.power ≡ power powers set
power_is powers o set few is same = is ∙ power_agrees powers (has o.voters) set (λ i lt. same i (omega (arith, lt, few)))

or_left : (a b : Bool) → a ≡ true → (a || b) ≡ true
or_left a b e = rw e refl

-- the highest round of a weak quorum, where a round's speakers grew by a message
highest_grown : (powers : List ℕ) (qs pqs : List Proposal) (vs pvs : List Vote) (round : ℕ) (best : Option ℕ) (o : Total) (more : ℕ → ℕ → Bool)
    → IsHighest (λ r. is_weak powers (power_above powers qs vs r)) best → ((r i : ℕ) → speakers pqs pvs r i ≡ (speakers qs vs r i || more r i)) → ((r i : ℕ) → (round ≡ r → ⊥) → more r i ≡ false)
    → o.power ≡ power powers (speakers pqs pvs round)
    → IsHighest (λ r. is_weak powers (power_above powers pqs pvs r)) (cond (is_weak powers o.power) (Some (higher best round)) best)
highest_grown powers qs pqs vs pvs round best o more h grown others is =
    highest_more (λ r. is_weak powers (power_above powers qs vs r)) (λ r. is_weak powers (power_above powers pqs pvs r)) best round (is_weak powers o.power) h
    (ap (λ n. is_weak powers n) is)
    (λ r ne. ap (λ n. is_weak powers n) (power_agrees powers (speakers pqs pvs r) (speakers qs vs r) (λ i lt. grown r i ∙ ap (λ (b : Bool). speakers qs vs r i || b) (others r i ne) ∙ or_false _)))
    (λ r t. weak_grows powers (speakers qs vs r) (speakers pqs pvs r) (λ i e. grown r i ∙ or_left _ _ e) t)

-- ---- all of it

-- room for a topic changes nothing
pub told_same : (powers : List ℕ) (qs : List Proposal) (vs : List Vote) (m n : BTreeMap Topic Total) (counts : List ℕ) (heights : Heights) (highest : Option ℕ) → IsTold powers qs vs m counts heights highest → ((t : Topic) → total_at n t ≡ total_at m t) → IsTold powers qs vs n counts heights highest
told_same powers qs vs m n counts heights highest h e = record {
  small = h.small;
  totals = λ t. subst (λ (o : Total). IsTotal powers o) (sym (e t)) (h.totals t);
  voters = λ t i lt. ap (λ (o : Total). has o.voters i) (e t) ∙ h.voters t i lt;
  counts = h.counts;
  heights = h.heights;
  highest = h.highest;
}

-- a count, one message more
count_is : (m n c d : ℕ) (b : Bool) → c ≡ min m 65535 → n ≡ m + cond b 1 0 → d ≡ cond b (min (c + 1) 65535) c → d ≡ min n 65535
count_is m n c d true ec en ed = omega (arith, ec, en, ed)
count_is m n c d false ec en ed = omega (arith, ec, en, ed)

sent_vote : (qs : List Proposal) (vs : List Vote) (v : Vote) (i : ℕ) → sent qs (vs ++ v ∷ []) i ≡ sent qs vs i + cond (v.sender == i) 1 0
sent_vote qs vs v i = rw (count_more (λ (w : Vote). w.sender == i) vs v) (omega arith)

sent_proposal : (qs : List Proposal) (vs : List Vote) (q : Proposal) (i : ℕ) → sent (qs ++ q ∷ []) vs i ≡ sent qs vs i + cond (q.sender == i) 1 0
sent_proposal qs vs q i = rw (count_more (λ (p : Proposal). p.sender == i) qs q) (omega arith)

pub told_vote : (powers : List ℕ) (qs : List Proposal) (vs : List Vote) (m n : BTreeMap Topic Total) (counts counted : List ℕ) (heights : Heights) (highest : Option ℕ) (v : Vote) → IsTold powers qs vs m counts heights highest
    → AreTotals powers n → ((t : Topic) (i : ℕ) → i < 128 → has (total_at n t).voters i ≡ (has (total_at m t).voters i || (is_about t v && (v.sender == i))))
    → ((i : ℕ) → i < 128 → slice_index_or counted i 0 ≡ cond (v.sender == i) (min (slice_index_or counts i 0 + 1) 65535) (slice_index_or counts i 0))
    → IsTold powers qs (vs ++ v ∷ []) n counted (with_height heights v.height) (cond (is_weak powers (total_at n (Round v.round)).power) (Some (higher highest v.round)) highest)
told_vote powers qs vs m n counts counted heights highest v h totals voters each =
    let voters_are : (t : Topic) (i : ℕ) → i < 128 → has (total_at n t).voters i ≡ speaks qs (vs ++ v ∷ []) t i = λ t i lt. voters t i lt ∙ ap (λ (b : Bool). b || (is_about t v && (v.sender == i))) (h.voters t i lt) ∙ sym (speaks_vote qs vs v t i) in
    record {
      small = h.small;
      totals = totals;
      voters = voters_are;
      counts = λ i lt. count_is (sent qs vs i) (sent qs (vs ++ v ∷ []) i) (slice_index_or counts i 0) (slice_index_or counted i 0) (v.sender == i) (h.counts i lt) (sent_vote qs vs v i) (each i lt);
      heights = heights_more heights vs v h.heights;
      highest = highest_grown powers qs qs vs (vs ++ v ∷ []) v.round highest (total_at n (Round v.round)) (λ r i. (v.round == r) && (v.sender == i)) h.highest
          (λ r i. speaks_vote qs vs v (Round r) i) (λ r i ne. rw (ne_eqb v.round r ne) refl)
          (power_is powers (total_at n (Round v.round)) (speakers qs (vs ++ v ∷ []) v.round) h.small.few (totals (Round v.round)) (voters_are (Round v.round)));
    }

-- whether its sender made another proposal is asked of validators alone
same_second : (qs : List Proposal) (q : Proposal) (t : Topic) (i : ℕ) (known : Bool) → (q.sender < 128 → known ≡ proposers qs q.round q.sender) → i < 128 → (is_proposed t q.round known && (q.sender == i)) ≡ (is_proposed t q.round (proposers qs q.round q.sender) && (q.sender == i))
same_second qs q t i known is lt = elim (cases_eq q.sender i) [
  | inl e ↦ ap (λ (b : Bool). is_proposed t q.round b && (q.sender == i)) (is (omega (arith, e, lt)))
  | inr ne ↦ rw (ne_eqb q.sender i ne, and_false (is_proposed t q.round known), and_false (is_proposed t q.round (proposers qs q.round q.sender))) refl
]

pub told_proposal : (powers : List ℕ) (qs : List Proposal) (vs : List Vote) (m n : BTreeMap Topic Total) (counts counted : List ℕ) (heights : Heights) (highest : Option ℕ) (q : Proposal) → IsTold powers qs vs m counts heights highest
    → AreTotals powers n → ((t : Topic) (i : ℕ) → i < 128 → has (total_at n t).voters i ≡ (has (total_at m t).voters i || (is_proposed t q.round (has (total_at m (Proposals q.round)).voters q.sender) && (q.sender == i))))
    → ((i : ℕ) → i < 128 → slice_index_or counted i 0 ≡ cond (q.sender == i) (min (slice_index_or counts i 0 + 1) 65535) (slice_index_or counts i 0))
    → IsTold powers (qs ++ q ∷ []) vs n counted heights (cond (is_weak powers (total_at n (Round q.round)).power) (Some (higher highest q.round)) highest)
told_proposal powers qs vs m n counts counted heights highest q h totals voters each =
    let voters_are : (t : Topic) (i : ℕ) → i < 128 → has (total_at n t).voters i ≡ speaks (qs ++ q ∷ []) vs t i = λ t i lt. voters t i lt ∙ ap (λ (b : Bool). b || (is_proposed t q.round (has (total_at m (Proposals q.round)).voters q.sender) && (q.sender == i))) (h.voters t i lt)
    ∙ ap (λ (b : Bool). speaks qs vs t i || b) (same_second qs q t i (has (total_at m (Proposals q.round)).voters q.sender) (λ small. h.voters (Proposals q.round) q.sender small) lt) ∙ sym (speaks_proposal qs vs q t i) in
    record {
      small = h.small;
      totals = totals;
      voters = voters_are;
      counts = λ i lt. count_is (sent qs vs i) (sent (qs ++ q ∷ []) vs i) (slice_index_or counts i 0) (slice_index_or counted i 0) (q.sender == i) (h.counts i lt) (sent_proposal qs vs q i) (each i lt);
      heights = h.heights;
      highest = highest_grown powers qs (qs ++ q ∷ []) vs vs q.round highest (total_at n (Round q.round)) (λ r i. (q.round == r) && (q.sender == i)) h.highest
          (λ r i. speaks_proposal qs vs q (Round r) i) (λ r i ne. rw (ne_eqb q.round r ne) refl)
          (power_is powers (total_at n (Round q.round)) (speakers (qs ++ q ∷ []) vs q.round) h.small.few (totals (Round q.round)) (voters_are (Round q.round)));
    }

-- ---- what the totals tell

same_bool : (a b : Bool) → (a ≡ true → b ≡ true) → (b ≡ true → a ≡ true) → a ≡ b
same_bool true true f g = refl
same_bool true false f g = sym (f refl)
same_bool false true f g = g refl
same_bool false false f g = refl

steps_same : (s t : Step) → step_eq (step_of_vote s) (step_of_vote t) ≡ true → s ≡ t
steps_same steps.Prevote steps.Prevote e = refl
steps_same steps.Precommit steps.Precommit e = refl
steps_same steps.Prevote steps.Precommit e = absurd cc
steps_same steps.Precommit steps.Prevote e = absurd cc

step_itself : (s : Step) → step_eq (step_of_vote s) (step_of_vote s) ≡ true
step_itself steps.Prevote = refl
step_itself steps.Precommit = refl

votes_same : (a b : Vote) → a.step ≡ b.step → a.height ≡ b.height → a.round ≡ b.round → a.sender ≡ b.sender → a.content ≡ b.content → a ≡ b
votes_same a b et eh er es ec = rw (et, eh, er, es, ec) refl

-- of votes of one height the sums tell which are the same
one_height_at : (v w : Vote) → v.height ≡ w.height → vote_eq v w ≡ (is_vote_for v.round (step_of_vote v.step) v.content w && (w.sender == v.sender))
one_height_at v w h = same_bool (vote_eq v w) (is_vote_for v.round (step_of_vote v.step) v.content w && (w.sender == v.sender))
    (λ e. let same : v ≡ w = (vote_eq_decides v w).0 e in
    subst (λ (u : Vote). (is_vote_for v.round (step_of_vote v.step) v.content u && (u.sender == v.sender)) ≡ true) same
    (rw (eq-eqb v.round v.round refl, step_itself v.step, (content_eq_decides v.content v.content).1 refl, eq-eqb v.sender v.sender refl) refl))
    (λ e. let p = and_parts (is_vote_for v.round (step_of_vote v.step) v.content w) (w.sender == v.sender) e in
    let q = and_parts (is_vote v.round (step_of_vote v.step) w) (content_eq w.content v.content) p.0 in
    let s = and_parts (w.round == v.round) (step_eq (step_of_vote w.step) (step_of_vote v.step)) q.0 in
    (vote_eq_decides v w).1 (votes_same v w (sym (steps_same w.step v.step s.1)) h (sym (eqb-true _ _ s.0)) (sym (eqb-true _ _ p.1)) (sym ((content_eq_decides w.content v.content).0 q.1))))

other_height_at : (v w : Vote) → (v.height ≡ w.height → ⊥) → vote_eq v w ≡ false
other_height_at v w ne = same_bool (vote_eq v w) false (λ e. absurd (ne (ap (λ (u : Vote). u.height) ((vote_eq_decides v w).0 e)))) (λ e. absurd cc)

-- whether a vote is among votes of one height
pub one_height : (h : ℕ) (v : Vote) (vs : List Vote) → list_all (λ (w : Vote). w.height == h) vs ≡ true → list_any (vote_eq v) vs ≡ ((h == v.height) && senders vs (is_vote_for v.round (step_of_vote v.step) v.content) v.sender)
one_height h v [] all = sym (and_false (h == v.height))
one_height h v (w ∷ ws) all =
    let p = and_parts (w.height == h) (list_all (λ (u : Vote). u.height == h) ws) all in
    let is : w.height ≡ h = eqb-true w.height h p.0 in
    let rest = one_height h v ws p.1 in
    elim (cases_eq h v.height) [
      | inl e ↦ rw (one_height_at v w (sym e ∙ sym is), rest, eq-eqb h v.height e) refl
      | inr ne ↦ rw (other_height_at v w (λ e. ne (sym is ∙ sym e)), rest, ne_eqb h v.height ne) refl
    ]

-- who proposed nothing in a round proposed nothing the same
pub not_proposed : (q : Proposal) (qs : List Proposal) → proposers qs q.round q.sender ≡ false → list_any (proposal_eq q) qs ≡ false
not_proposed q [] e = refl
not_proposed q (p ∷ ps) e = elim (cases_Bool (proposal_eq q p)) [
  | inl t ↦ (let same : q ≡ p = (proposal_eq_decides q p).0 t in
      let there : ((p.round == q.round) && (p.sender == q.sender)) ≡ true = subst (λ (u : Proposal). ((u.round == q.round) && (u.sender == q.sender)) ≡ true) same (rw (eq-eqb q.round q.round refl, eq-eqb q.sender q.sender refl) refl) in
      absurd (let f = rw there at e in cc))
  | inr f ↦ (elim (cases_Bool ((p.round == q.round) && (p.sender == q.sender))) [
    | inl t ↦ absurd (let g = rw t at e in cc)
    | inr g ↦ rw f (not_proposed q ps (rw g at e))
  ])
]

-- ---- where nothing is kept

total_of_nobody : (m : BTreeMap Topic Total) → m.entries ≡ [] → (t : Topic) → total_at m t ≡ nothing
total_of_nobody m e t = rw e refl

nobody_speaks : (t : Topic) (i : ℕ) → speaks [] [] t i ≡ false
nobody_speaks (Round r) i = refl
nobody_speaks (Prevotes r) i = refl
nobody_speaks (Precommits r) i = refl
nobody_speaks (PrevotesFor r x) i = refl
nobody_speaks (PrecommitsFor r x) i = refl
nobody_speaks (Proposals r) i = refl
nobody_speaks (SecondProposals r) i = refl

nobody_told : (powers : List ℕ) (m : BTreeMap Topic Total) (counts : List ℕ) → IsSmall powers → m.entries ≡ [] → ((i : ℕ) → i < 128 → slice_index_or counts i 0 ≡ 0) → IsTold powers [] [] m counts Nothing None
nobody_told powers m counts small empty zeros = record {
  small = small;
  totals = λ t. rw (total_of_nobody m empty t) (sym (power_agrees powers (has nothing.voters) (λ _. false) (λ i lt. has_nothing i) ∙ no_power powers));
  voters = λ t i lt. ap (λ (o : Total). has o.voters i) (total_of_nobody m empty t) ∙ has_nothing i ∙ sym (nobody_speaks t i);
  counts = λ i lt. rw (zeros i lt) refl;
  heights = refl;
  highest = record { each = λ r t. absurd (let w = weak_member powers (speakers [] [] r) t in false≢true w.1); one = tt };
}

pub told_nothing : (powers : List ℕ) (qs : List Proposal) (vs : List Vote) (m : BTreeMap Topic Total) (counts : List ℕ) → IsSmall powers → qs ≡ [] → vs ≡ [] → m.entries ≡ [] → ((i : ℕ) → i < 128 → slice_index_or counts i 0 ≡ 0) → IsTold powers qs vs m counts Nothing None
told_nothing powers qs vs m counts small eq ev empty zeros = rw (eq, ev) (nobody_told powers m counts small empty zeros)

-- ---- sums

pub power_told : {powers : List ℕ} {qs : List Proposal} {vs : List Vote} {known : BTreeMap Topic Total} {counted : List ℕ} {those : Heights} {best : Option ℕ} → IsTold powers qs vs known counted those best → (t : Topic) → (total_at known t).power ≡ power powers (speaks qs vs t)
power_told {powers} {qs} {vs} {known} h t = power_is powers (total_at known t) (speaks qs vs t) h.small.few (h.totals t) (h.voters t)

pub power_of_step : {powers : List ℕ} {qs : List Proposal} {vs : List Vote} {known : BTreeMap Topic Total} {counted : List ℕ} {those : Heights} {best : Option ℕ} → IsTold powers qs vs known counted those best → (r : ℕ) (s : Step)
    → (total_at known (topic_of r s)).power ≡ power powers (senders vs (is_vote r (step_of_vote s)))
power_of_step h r steps.Prevote = power_told h (Prevotes r)
power_of_step h r steps.Precommit = power_told h (Precommits r)

pub power_of_content : {powers : List ℕ} {qs : List Proposal} {vs : List Vote} {known : BTreeMap Topic Total} {counted : List ℕ} {those : Heights} {best : Option ℕ} → IsTold powers qs vs known counted those best → (r : ℕ) (s : Step) (x : Option (List ℕ))
    → (total_at known (topic_for r s x)).power ≡ power powers (senders vs (is_vote_for r (step_of_vote s) x))
power_of_content h r steps.Prevote x = power_told h (PrevotesFor r x)
power_of_content h r steps.Precommit x = power_told h (PrecommitsFor r x)

pub of_one_height : (those : Heights) (h : ℕ) (vs : List Vote) → those ≡ One h → AreHeights those vs → list_all (λ (w : Vote). w.height == h) vs ≡ true
of_one_height those h vs e a = subst (λ (o : Heights). AreHeights o vs) e a

-- ---- other sums stay

senders_stay : (vs : List Vote) (v : Vote) (test : Vote → Bool) (i : ℕ) → test v ≡ false → senders (vs ++ v ∷ []) test i ≡ senders vs test i
senders_stay vs v test i e = senders_more vs v test i ∙ rw e (or_false _)

pub power_for_stays : (k : Kept) (v : Vote) (r : ℕ) (s : RoundStep) (x : Option (List ℕ)) → is_vote_for r s x v ≡ false → kept.power_for (with_vote k v) r s x ≡ kept.power_for k r s x
power_for_stays k v r s x e = power_agrees k.powers (senders (k.votes ++ v ∷ []) (is_vote_for r s x)) (senders k.votes (is_vote_for r s x)) (λ i lt. senders_stay k.votes v (is_vote_for r s x) i e)

pub power_any_stays : (k : Kept) (v : Vote) (r : ℕ) (s : RoundStep) → is_vote r s v ≡ false → kept.power_any (with_vote k v) r s ≡ kept.power_any k r s
power_any_stays k v r s e = power_agrees k.powers (senders (k.votes ++ v ∷ []) (is_vote r s)) (senders k.votes (is_vote r s)) (λ i lt. senders_stay k.votes v (is_vote r s) i e)

pub power_above_stays : (k : Kept) (v : Vote) (r : ℕ) → (v.round == r) ≡ false → kept.power_above (with_vote k v) r ≡ kept.power_above k r
power_above_stays k v r e = power_agrees k.powers (speakers k.proposals (k.votes ++ v ∷ []) r) (speakers k.proposals k.votes r) (λ i lt. ap (λ (b : Bool). proposers k.proposals r i || b) (senders_stay k.votes v (λ (w : Vote). w.round == r) i e))

pub power_above_kept : (k : Kept) (q : Proposal) (r : ℕ) → (q.round == r) ≡ false → kept.power_above (with_proposal k q) r ≡ kept.power_above k r
power_above_kept k q r e = power_agrees k.powers (speakers (k.proposals ++ q ∷ []) k.votes r) (speakers k.proposals k.votes r) (λ i lt. ap (λ (b : Bool). b || senders k.votes (λ (w : Vote). w.round == r) i) (proposers_more k.proposals q r i ∙ rw e (or_false _)))

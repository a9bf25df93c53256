-- Masks, totals and topics, one voter more.
use Rattle.std.proofs.Common.{◌≡◌, ℕ, zero, suc, ◌+◌, ◌*◌, ◌%◌, ◌^◌, ◌<◌, ◌≤◌, Bool, true, false, ◌&&◌, ◌||◌, cond, nat_lt, List, [], ◌∷◌, length, get_or, Option, Some, None, refl, sym, ap, subst, ◌∙◌, inl, inr, arith, lt-ltb, eqb-true}
use Rattle.std.specs.Prelude.{◌==◌, unwrap_or}
use Rattle.std.specs.Int.{bit_at}
use Rattle.std.specs.Int.RustNames.{bit_or}
use Rattle.std.specs.BTreeMap as tree
use Rattle.std.specs.BTreeMap.{BTreeMap}
use Rattle.std.specs.declared.cmp.Ordering.{Ordering}
use Rattle.std.specs.declared.cmp.Ordering.TheVariants.{Less, Equal, Greater}
use Rattle.std.specs.Ordering.{is_eq, nat_cmp, ordering_then}
use Rattle.std.specs.Option.{option_cmp, is_some}
use Rattle.std.specs.Cmp.{unsigned_ties}
use Rattle.std.specs.Cmp.Lexicographic.{slice_cmp}
use Rattle.std.specs.Int.{w128}
use Rattle.std.proofs.lemmas.Bool.{cases_Bool, cases_eq, and_parts, eq-eqb, ne_eqb, false≢true}
use Rattle.std.proofs.lemmas.Map.Text.{is_eq-slice_cmp}
use Rattle.std.proofs.lemmas.Nat.Bits.{bit_at-zero, bit_at_set_same, bit_at_set_other}
use Rattle.messages.specs.Equality.{content_eq}
use Rattle.messages.proofs.Equality.{content_eq_decides}
use Rattle.powers.specs.Power.{power, total}
use Rattle.powers.proofs.Quorums.{power_agrees, power_le}
use Rattle.vote_tally.specs.declared.voters.Voters.{Voters}
use Rattle.vote_tally.specs.declared.totals.Topic.{Topic}
use Rattle.vote_tally.specs.declared.totals.Topic.TheVariants.{Round, Prevotes, Precommits, PrevotesFor, PrecommitsFor, Proposals, SecondProposals}
use Rattle.vote_tally.specs.declared.totals.Total.{Total}
use Rattle.protocol.specs.Messages.{Vote}
use Rattle.messages.specs.declared.body.Step.{Step}
use Rattle.messages.specs.declared.body.Step.TheVariants as steps
use Rattle.vote_tally.specs.Totals.{has, nothing, topic_cmp, topic_of, topic_for, same_topic, total_at, is_about, is_proposed}

-- ---- masks

pub or_true : (b : Bool) → (b || true) ≡ true
or_true true = refl
or_true false = refl

pub or_false : (b : Bool) → (b || false) ≡ b
or_false true = refl
or_false false = refl

pub and_true : (b : Bool) → (b && true) ≡ b
and_true true = refl
and_true false = refl

pub and_false : (b : Bool) → (b && false) ≡ false
and_false true = refl
and_false false = refl

-- nobody is in the empty mask
pub has_nothing : (i : ℕ) → has nothing.voters i ≡ false
has_nothing i = rw (bit_at-zero i) (and_false (nat_lt i 128))

-- a mask with one bit more
pub with_has : (n v i : ℕ) → v < 128 → i < 128 → has (record { bits = bit_or n (1 * 2 ^ v % 340282366920938463463374607431768211456) }) i ≡ (has (record { bits = n }) i || (v == i))
with_has n v i lv li = elim (cases_eq v i) [
  | inl e ↦ (let s : bit_at (bit_or n (1 * 2 ^ v % 340282366920938463463374607431768211456)) i ≡ 1 = subst (λ k. bit_at (bit_or n (1 * 2 ^ v % 340282366920938463463374607431768211456)) k ≡ 1) e (bit_at_set_same w128 n v lv) in
      rw (lt-ltb i 128 li, s, eq-eqb v i e) (sym (or_true _)))
  | inr ne ↦ (let s : bit_at (bit_or n (1 * 2 ^ v % 340282366920938463463374607431768211456)) i ≡ bit_at n i = bit_at_set_other w128 n v lv i (λ e. ne (sym e)) in
      rw (lt-ltb i 128 li, s, ne_eqb v i ne) (sym (or_false _)))
]

-- a mask stays where the validator has no bit
pub past_has : (a : Voters) (v i : ℕ) → 128 ≤ v → i < 128 → has a i ≡ (has a i || (v == i))
past_has a v i lv li = rw (ne_eqb v i (λ e. omega (arith, e))) (sym (or_false _))

-- ---- totals

-- a set with one member more has that much more power
pub power_with : (ps : List ℕ) (a b : ℕ → Bool) (v : ℕ) → a v ≡ false → (v < length ps → b v ≡ true) → ((i : ℕ) → i < length ps → (v ≡ i → ⊥) → b i ≡ a i) → power ps b ≡ power ps a + get_or ps v 0
power_with [] a b v apart into others = omega arith
power_with (p ∷ ps) a b zero apart into others =
    let here : b 0 ≡ true = into (omega arith) in
    let rest : power ps (λ i. b (suc i)) ≡ power ps (λ i. a (suc i)) = power_agrees ps (λ i. b (suc i)) (λ i. a (suc i)) (λ i lt. others (suc i) (omega arith) (λ e. omega (arith, e))) in
    rw (here, apart, rest) (omega arith)
power_with (p ∷ ps) a b (suc v) apart into others =
    let here : b 0 ≡ a 0 = others 0 (omega arith) (λ e. omega (arith, e)) in
    let rest : power ps (λ i. b (suc i)) ≡ power ps (λ i. a (suc i)) + get_or ps v 0 = power_with ps (λ i. a (suc i)) (λ i. b (suc i)) v apart (λ lt. into (omega arith)) (λ i lt ne. others (suc i) (omega arith) (λ e. ne (omega (arith, e)))) in
    rw (here, rest) (omega arith)

-- a total with one voter more
pub total_with : (ps : List ℕ) (a b : ℕ → Bool) (v n p : ℕ) → length ps ≤ 128 → n ≡ power ps a → a v ≡ false → ((i : ℕ) → i < 128 → b i ≡ (a i || (v == i))) → p ≡ get_or ps v 0 → n + p ≡ power ps b
total_with ps a b v n p few is apart more e =
    let grown = power_with ps a b v apart
    (λ lt. more v (omega (arith, lt, few)) ∙ rw (eq-eqb v v refl) (or_true (a v)))
    (λ i lt ne. more i (omega (arith, lt, few)) ∙ rw (ne_eqb v i ne) (or_false (a i))) in
    rw (is, e) (sym grown)

-- no set has more than everyone
pub within : (ps : List ℕ) (a : ℕ → Bool) → power ps a ≤ total ps
within ps a = power_le ps a (λ _. true) (λ i lt e. refl)

-- ---- topics

both_eq : (a b : Ordering) → is_eq (ordering_then a b) ≡ (is_eq a && is_eq b)
both_eq Less b = refl
both_eq Equal b = refl
both_eq Greater b = refl

content_cmp_is : (x y : Option (List ℕ)) → is_eq (option_cmp (slice_cmp nat_cmp) x y) ≡ content_eq x y
content_cmp_is None None = refl
content_cmp_is (Some x) (Some y) = is_eq-slice_cmp x y
content_cmp_is None (Some y) = refl
content_cmp_is (Some x) None = refl

round_and_content : (r s : ℕ) (x y : Option (List ℕ)) → is_eq (ordering_then (nat_cmp r s) (option_cmp (slice_cmp nat_cmp) x y)) ≡ ((r == s) && content_eq x y)
round_and_content r s x y = both_eq (nat_cmp r s) (option_cmp (slice_cmp nat_cmp) x y) ∙ rw (← unsigned_ties r s, content_cmp_is x y) refl

-- the order of topics tells all of them apart
pub topic_cmp_is : (t u : Topic) → is_eq (topic_cmp t u) ≡ same_topic t u
topic_cmp_is (Round r) (Round s) = sym (unsigned_ties r s)
topic_cmp_is (Prevotes r) (Prevotes s) = sym (unsigned_ties r s)
topic_cmp_is (Precommits r) (Precommits s) = sym (unsigned_ties r s)
topic_cmp_is (PrevotesFor r x) (PrevotesFor s y) = round_and_content r s x y
topic_cmp_is (PrecommitsFor r x) (PrecommitsFor s y) = round_and_content r s x y
topic_cmp_is (Proposals r) (Proposals s) = sym (unsigned_ties r s)
topic_cmp_is (SecondProposals r) (SecondProposals s) = sym (unsigned_ties r s)
topic_cmp_is _ _ = refl

about_content : (f : ℕ → Option (List ℕ) → Topic) (r s : ℕ) (x y : Option (List ℕ)) → ((r == s) && content_eq x y) ≡ true → f r x ≡ f s y
about_content f r s x y e =
    let p = and_parts (r == s) (content_eq x y) e in
    rw (eqb-true r s p.0, (content_eq_decides x y).0 p.1) refl

pub topics_same : (t u : Topic) → same_topic t u ≡ true → t ≡ u
topics_same (Round r) (Round s) e = ap Round (eqb-true r s e)
topics_same (Prevotes r) (Prevotes s) e = ap Prevotes (eqb-true r s e)
topics_same (Precommits r) (Precommits s) e = ap Precommits (eqb-true r s e)
topics_same (PrevotesFor r x) (PrevotesFor s y) e = about_content (λ n z. PrevotesFor n z) r s x y e
topics_same (PrecommitsFor r x) (PrecommitsFor s y) e = about_content (λ n z. PrecommitsFor n z) r s x y e
topics_same (Proposals r) (Proposals s) e = ap Proposals (eqb-true r s e)
topics_same (SecondProposals r) (SecondProposals s) e = ap SecondProposals (eqb-true r s e)
topics_same _ _ e = absurd (false≢true e)

-- ---- one topic raised

-- the map n is m with w at k
pub raised : (m n : BTreeMap Topic Total) (k : Topic) (w : Total) → ((q : Topic) → tree.get topic_cmp n q ≡ cond (is_eq (topic_cmp k q)) (Some w) (tree.get topic_cmp m q)) → (t : Topic) → total_at n t ≡ cond (same_topic k t) w (total_at m t)
raised m n k w h t = elim (cases_Bool (same_topic k t)) [
  | inl y ↦ (let e : is_eq (topic_cmp k t) ≡ true = topic_cmp_is k t ∙ y in
      let f : tree.get topic_cmp n t ≡ Some w = h t ∙ rw e refl in
      rw (f, y) refl)
  | inr apart ↦ (let e : is_eq (topic_cmp k t) ≡ false = topic_cmp_is k t ∙ apart in
      let f : tree.get topic_cmp n t ≡ tree.get topic_cmp m t = h t ∙ rw e refl in
      rw (f, apart) refl)
]

some_not : {X : Type 0} (o : Option X) → is_some o ≡ false → o ≡ None
some_not None e = refl
some_not (Some x) e = absurd cc

-- room for a topic that had none
pub room_made : (m n : BTreeMap Topic Total) (k : Topic) → ((q : Topic) → tree.get topic_cmp n q ≡ cond (is_eq (topic_cmp k q)) (Some nothing) (tree.get topic_cmp m q)) → is_some (tree.get topic_cmp m k) ≡ false → (t : Topic) → total_at n t ≡ total_at m t
room_made m n k h none t = elim (cases_Bool (same_topic k t)) [
  | inl y ↦ (let e : total_at n t ≡ nothing = raised m n k nothing h t ∙ rw y refl in
      let f : total_at m k ≡ nothing = ap (λ (o : Option Total). unwrap_or o nothing) (some_not (tree.get topic_cmp m k) none) in
      e ∙ sym f ∙ ap (λ (u : Topic). total_at m u) (topics_same k t y))
  | inr apart ↦ (raised m n k nothing h t ∙ rw apart refl)
]

pub raised_has : (m n : BTreeMap Topic Total) (k : Topic) (w old : Total) (v : ℕ) → ((q : Topic) → tree.get topic_cmp n q ≡ cond (is_eq (topic_cmp k q)) (Some w) (tree.get topic_cmp m q))
    → total_at m k ≡ old → ((i : ℕ) → i < 128 → has w.voters i ≡ (has old.voters i || (v == i)))
    → (t : Topic) (i : ℕ) → i < 128 → has (total_at n t).voters i ≡ (has (total_at m t).voters i || (same_topic k t && (v == i)))
raised_has m n k w old v h was more t i lt = elim (cases_Bool (same_topic k t)) [
  | inl y ↦ (let e : total_at n t ≡ w = raised m n k w h t ∙ rw y refl in
      let f : total_at m t ≡ old = ap (λ (u : Topic). total_at m u) (sym (topics_same k t y)) ∙ was in
      ap (λ (o : Total). has o.voters i) e ∙ more i lt ∙ rw y (ap (λ (o : Total). has o.voters i || (v == i)) (sym f)))
  | inr apart ↦ (let e : total_at n t ≡ total_at m t = raised m n k w h t ∙ rw apart refl in
      ap (λ (o : Total). has o.voters i) e ∙ rw apart (sym (or_false _)))
]

-- ---- several topics raised

pub or_assoc : (a b c : Bool) → ((a || b) || c) ≡ (a || (b || c))
or_assoc true b c = refl
or_assoc false b c = refl

pub raised_twice : (a s t e : Bool) → ((a || (s && e)) || (t && e)) ≡ (a || ((s || t) && e))
raised_twice a s t true = rw (and_true s, and_true t, and_true (s || t)) (or_assoc a s t)
raised_twice a s t false = rw (and_false s, and_false t, and_false (s || t)) (or_false (a || false))

-- a vote's topics
topics_at : (t : Topic) (v : Vote) (s : Step) → v.step ≡ s → is_about t v ≡ ((same_topic (Round v.round) t || same_topic (topic_of v.round v.step) t) || same_topic (topic_for v.round v.step v.content) t)
topics_at (Round r) v steps.Prevote e = rw e (sym (or_false _ ∙ or_false _))
topics_at (Round r) v steps.Precommit e = rw e (sym (or_false _ ∙ or_false _))
topics_at (Prevotes r) v steps.Prevote e = rw e (and_true _ ∙ sym (or_false _))
topics_at (Prevotes r) v steps.Precommit e = rw e (and_false _)
topics_at (Precommits r) v steps.Prevote e = rw e (and_false _)
topics_at (Precommits r) v steps.Precommit e = rw e (and_true _ ∙ sym (or_false _))
topics_at (PrevotesFor r x) v steps.Prevote e = rw e (ap (λ (b : Bool). b && content_eq v.content x) (and_true _))
topics_at (PrevotesFor r x) v steps.Precommit e = rw e (ap (λ (b : Bool). b && content_eq v.content x) (and_false _))
topics_at (PrecommitsFor r x) v steps.Prevote e = rw e (ap (λ (b : Bool). b && content_eq v.content x) (and_false _))
topics_at (PrecommitsFor r x) v steps.Precommit e = rw e (ap (λ (b : Bool). b && content_eq v.content x) (and_true _))
topics_at (Proposals r) v steps.Prevote e = rw e refl
topics_at (Proposals r) v steps.Precommit e = rw e refl
topics_at (SecondProposals r) v steps.Prevote e = rw e refl
topics_at (SecondProposals r) v steps.Precommit e = rw e refl

pub vote_topics : (t : Topic) (v : Vote) → is_about t v ≡ ((same_topic (Round v.round) t || same_topic (topic_of v.round v.step) t) || same_topic (topic_for v.round v.step v.content) t)
vote_topics t v = topics_at t v v.step refl

-- three topics raised in turn
pub raised_for_vote : (t : Topic) (v : Vote) (i : ℕ) (a b c d : Bool) → b ≡ (a || (same_topic (Round v.round) t && (v.sender == i))) → c ≡ (b || (same_topic (topic_of v.round v.step) t && (v.sender == i))) → d ≡ (c || (same_topic (topic_for v.round v.step v.content) t && (v.sender == i)))
    → d ≡ (a || (is_about t v && (v.sender == i)))
raised_for_vote t v i a b c d eb ec ed =
    let one = same_topic (Round v.round) t in
    let two = same_topic (topic_of v.round v.step) t in
    let three = same_topic (topic_for v.round v.step v.content) t in
    let e = v.sender == i in
    ed ∙ ap (λ (x : Bool). x || (three && e)) (ec ∙ ap (λ (x : Bool). x || (two && e)) eb ∙ raised_twice a one two e)
    ∙ raised_twice a (one || two) three e ∙ ap (λ (x : Bool). a || (x && e)) (sym (vote_topics t v))

-- a proposal's topics, where its sender made another and where not
second_topics : (t : Topic) (r : ℕ) → is_proposed t r true ≡ ((same_topic (Round r) t || same_topic (Proposals r) t) || same_topic (SecondProposals r) t)
second_topics (Round s) r = sym (or_false _ ∙ or_false _)
second_topics (Prevotes s) r = refl
second_topics (Precommits s) r = refl
second_topics (PrevotesFor s x) r = refl
second_topics (PrecommitsFor s x) r = refl
second_topics (Proposals s) r = sym (or_false _)
second_topics (SecondProposals s) r = and_true _

first_topics : (t : Topic) (r : ℕ) → is_proposed t r false ≡ (same_topic (Round r) t || same_topic (Proposals r) t)
first_topics (Round s) r = sym (or_false _)
first_topics (Prevotes s) r = refl
first_topics (Precommits s) r = refl
first_topics (PrevotesFor s x) r = refl
first_topics (PrecommitsFor s x) r = refl
first_topics (Proposals s) r = refl
first_topics (SecondProposals s) r = and_false _

pub raised_first : (t : Topic) (r : ℕ) (second e a b c : Bool) → second ≡ false → b ≡ (a || (same_topic (Round r) t && e)) → c ≡ (b || (same_topic (Proposals r) t && e)) → c ≡ (a || (is_proposed t r second && e))
raised_first t r second e a b c apart eb ec =
    let one = same_topic (Round r) t in
    let two = same_topic (Proposals r) t in
    ec ∙ ap (λ (x : Bool). x || (two && e)) eb ∙ raised_twice a one two e ∙ ap (λ (x : Bool). a || (x && e)) (sym (first_topics t r)) ∙ ap (λ (x : Bool). a || (is_proposed t r x && e)) (sym apart)

pub raised_second : (t : Topic) (r : ℕ) (second e a b c d : Bool) → second ≡ true → b ≡ (a || (same_topic (Round r) t && e)) → c ≡ (b || (same_topic (Proposals r) t && e)) → d ≡ (c || (same_topic (SecondProposals r) t && e)) → d ≡ (a || (is_proposed t r second && e))
raised_second t r second e a b c d into eb ec ed =
    let one = same_topic (Round r) t in
    let two = same_topic (Proposals r) t in
    let three = same_topic (SecondProposals r) t in
    ed ∙ ap (λ (x : Bool). x || (three && e)) (ec ∙ ap (λ (x : Bool). x || (two && e)) eb ∙ raised_twice a one two e)
    ∙ raised_twice a (one || two) three e ∙ ap (λ (x : Bool). a || (x && e)) (sym (second_topics t r)) ∙ ap (λ (x : Bool). a || (is_proposed t r x && e)) (sym into)

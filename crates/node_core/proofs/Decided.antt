-- A decision can be spelled: its precommits are at most one of each validator, and have their tags.
use Rattle.std.proofs.Common.{◌≡◌, ℕ, zero, suc, ◌<◌, ◌≤◌, ◌^◌, List, [], ◌∷◌, ◌++◌, map, length, flat_map, All, Option, Some, None, inl, inr, refl, sym, ap, subst, ◌∙◌, find, option_to_list, eqb-true, length-append, arith}
use Rattle.std.specs.Prelude.{◌==◌}
use Rattle.std.specs.List.{AllByRecursion}
use Rattle.std.proofs.lemmas.List.{append-nil, append_assoc}
use Rattle.std.proofs.lemmas.Bool.{cond_both, and_parts}
use Rattle.messages.specs.Grammar.{IsPrecommit, IsBundle}
use Rattle.protocol.specs.Tags.{Setting}
use Rattle.protocol.specs.Values.{Id}
use Rattle.protocol.specs.Messages.{◌∈◌, Signed, Bundle, OfVote, precommit, below}
use Rattle.protocol.specs.declared.types.Step.TheVariants.{Precommit}
use Rattle.protocol.specs.declared.types.Stamp.{Stamp}
use Rattle.protocol.specs.State.{State}
use Rattle.protocol.specs.Tally.{senders, is_vote_for}
use Rattle.protocol.specs.Rules.{certificate, signed_by, is_stamp}
use Rattle.protocol.specs.Refusals.{context, is_vouching, certified}
use Rattle.protocol.proofs.Membership.{found_in}
use Rattle.protocol.proofs.Tagging.{tagged_tags}
use Rattle.node_core.specs.Core.{IsStamp}

-- at most one, and that one can be spelled
pub record IsOne (P : Signed → Type 0) (xs : List Signed) : Type 0 where
  pub few : length xs ≤ 1
  pub each : AllByRecursion P xs

join_all : (P : Signed → Type 0) (xs ys : List Signed) → AllByRecursion P xs → AllByRecursion P ys → AllByRecursion P (xs ++ ys)
join_all P [] ys a b = b
join_all P (x ∷ xs) ys a b = (a.0, join_all P xs ys a.1 b)

-- one of each number below n
pub one_each : (P : Signed → Type 0) (f : ℕ → List Signed) (n : ℕ) → ((i : ℕ) → i < n → IsOne P (f i)) → (length (flat_map f (below n)) ≤ n) × AllByRecursion P (flat_map f (below n))
unfolding below
one_each P f zero one = (omega arith, tt)
one_each P f (suc n) one =
    let rest = one_each P f n (λ i lt. one i (omega arith)) in
    let last = one n (omega arith) in
    let same : flat_map f (below n ++ n ∷ []) ≡ flat_map f (below n) ++ f n = joined f (below n) n in
    (rw same (omega (arith, rest.0, last.few, length-append (flat_map f (below n)) (f n))), rw same (join_all P (flat_map f (below n)) (f n) rest.1 last.each))
  where
    joined : (g : ℕ → List Signed) (is : List ℕ) (i : ℕ) → flat_map g (is ++ i ∷ []) ≡ flat_map g is ++ g i
    joined g [] i = append-nil (g i)
    joined g (j ∷ is) i = ap (λ l. g j ++ l) (joined g is i) ∙ sym (append_assoc (g j) (flat_map g is) (g i))

-- ---- of kept precommits

one_precommit : (P : Signed → Type 0) (x : Signed) → P x → IsOne P (x ∷ [])
one_precommit P x h = record { few = omega arith; each = (h, tt) }

no_precommit : (P : Signed → Type 0) → IsOne P []
no_precommit P = record { few = omega arith; each = tt }

all_there : (P : Stamp → Type 0) (x : Stamp) (xs : List Stamp) → All P xs → x ∈ xs → P x
all_there P x [] all i = absurd i
all_there P x (y ∷ xs) all (inl e) = subst P (sym e) (all 0 x (omega arith))
all_there P x (y ∷ xs) all (inr k) = all_there P x xs (λ i d lt. all (suc i) d (omega arith)) k

-- the stamp that was found, if any
stamp_spelled : (stamps : List Stamp) (r : ℕ) (x : Id) (i : ℕ) (o : Option Stamp) → All IsStamp stamps → i < 2 ^ 16 → find (is_stamp r x i) stamps ≡ o → IsOne IsPrecommit (map (λ (stamp : Stamp). stamp.signed) (option_to_list o))
stamp_spelled stamps r x i None all lt e = no_precommit IsPrecommit
stamp_spelled stamps r x i (Some stamp) all lt e =
    let f = found_in (is_stamp r x i) stamps stamp e in
    let is : stamp.signed.sender ≡ i = eqb-true stamp.signed.sender i (and_parts _ _ f.passes).1 in
    one_precommit IsPrecommit stamp.signed (record { sender = rw is lt; tags = all_there IsStamp stamp stamps all f.there })

kept_spelled : (c : Setting) (p : ℕ) (s : State) (r : ℕ) (x : Id) → All IsStamp s.stamps → 1 ≤ length c.powers → length c.powers ≤ 128 → (i : ℕ) → i < length c.powers → IsOne IsPrecommit (signed_by (context c p) s r x i)
kept_spelled c p s r x all some few i lt =
    cond_both (senders s.votes (is_vote_for r Precommit (Some x)) i) _ [] (IsOne IsPrecommit)
    (λ _. cond_both (i == p) _ _ (IsOne IsPrecommit)
    (λ _. one_precommit IsPrecommit _ (record { sender = omega arith; tags = tagged_tags c (OfVote (precommit s.height r p (Some x))) some few }))
    (λ _. stamp_spelled s.stamps r x i (find (is_stamp r x i) s.stamps) all (omega arith) refl))
    (λ _. no_precommit IsPrecommit)

pub certificate_spelled : (c : Setting) (p : ℕ) (s : State) (r : ℕ) (x : Id) → All IsStamp s.stamps → 1 ≤ length c.powers → length c.powers ≤ 128 → (length (certificate (context c p) s r x) ≤ 128) × AllByRecursion IsPrecommit (certificate (context c p) s r x)
certificate_spelled c p s r x all some few =
    let h = one_each IsPrecommit (signed_by (context c p) s r x) (length c.powers) (kept_spelled c p s r x all some few) in
    (omega (arith, h.0), h.1)

-- ---- of a bundle that came

precommit_there : (P : Signed → Type 0) (x : Signed) (xs : List Signed) → AllByRecursion P xs → x ∈ xs → P x
precommit_there P x [] all i = absurd i
precommit_there P x (y ∷ xs) all (inl e) = subst P (sym e) all.0
precommit_there P x (y ∷ xs) all (inr k) = precommit_there P x xs all.1 k

vouching_spelled : (c : Setting) (p : ℕ) (b : Bundle) → IsBundle b → (i : ℕ) (o : Option Signed) → find (is_vouching c p b i) b.precommits ≡ o → IsOne IsPrecommit (option_to_list o)
vouching_spelled c p b h i None e = no_precommit IsPrecommit
vouching_spelled c p b h i (Some x) e = one_precommit IsPrecommit x (precommit_there IsPrecommit x b.precommits h.each (found_in (is_vouching c p b i) b.precommits x e).there)

pub certified_spelled : (c : Setting) (p : ℕ) (b : Bundle) → IsBundle b → length c.powers ≤ 128 → (length (certified c p b) ≤ 128) × AllByRecursion IsPrecommit (certified c p b)
unfolding certified
certified_spelled c p b h few =
    let k = one_each IsPrecommit (λ i. option_to_list (find (is_vouching c p b i) b.precommits)) (length c.powers) (λ i lt. vouching_spelled c p b h i (find (is_vouching c p b i) b.precommits) refl) in
    (omega (arith, k.0), k.1)

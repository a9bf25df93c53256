-- What a validator of any run saves as a decision is under its own number, of its value's id, and its precommits are in order of sender, each once.
use Rattle.std.proofs.Common.{◌≡◌, ℕ, zero, suc, ◌<◌, inl, inr, true, List, [], ◌∷◌, ◌++◌, length, ◌⊎◌, map, flat_map, refl, sym, ap, subst, ◌∙◌, Option, Some, None, find, option_to_list, eqb-true, lt-ltb, arith}
use Rattle.std.specs.Prelude.{◌==◌, nat_lt}
use Rattle.std.proofs.lemmas.Bool.{cond_both, and_parts, and_from}
use Rattle.std.proofs.lemmas.List.{append-nil, append_assoc}
use Rattle.protocol.specs.Values.{Id}
use Rattle.protocol.specs.Tags.{Setting}
use Rattle.protocol.specs.Messages.{Signed, Bundle, below}
use Rattle.protocol.specs.declared.types.Step.TheVariants.{Precommit}
use Rattle.protocol.specs.declared.types.Stamp.{Stamp}
use Rattle.protocol.specs.State.{State}
use Rattle.protocol.specs.Tally.{senders, is_vote_for}
use Rattle.protocol.specs.Rules.{certificate, signed_by, is_stamp}
use Rattle.protocol.specs.Refusals.{context, is_vouching, certified}
use Rattle.protocol.proofs.Membership.{found_in}
use Rattle.vote_journal.specs.Grammar.{is_rising}

-- ---- lists of at most one of each number

-- none, or one of this sender
abbrev IsOneOf : ℕ → List Signed → Type 0
IsOneOf i xs = (xs ≡ []) ⊎ ((x : Signed) × (x.sender ≡ i) × (xs ≡ x ∷ []))

abbrev AllBelow : ℕ → List Signed → Type 0
AllBelow n [] = Unit {0}
AllBelow n (x ∷ xs) = (x.sender < n) × AllBelow n xs

below_more : (n : ℕ) (xs : List Signed) → AllBelow n xs → AllBelow (suc n) xs
below_more n [] b = tt
below_more n (x ∷ xs) b = (omega (arith, b.0), below_more n xs b.1)

below_last : (n : ℕ) (xs : List Signed) (x : Signed) → AllBelow n xs → x.sender ≡ n → AllBelow (suc n) (xs ++ x ∷ [])
below_last n [] x b e = (omega (arith, e), tt)
below_last n (y ∷ ys) x b e = (omega (arith, b.0), below_last n ys x b.1 e)

rising_last : (n : ℕ) (xs : List Signed) (x : Signed) → is_rising xs ≡ true → AllBelow n xs → x.sender ≡ n → is_rising (xs ++ x ∷ []) ≡ true
rising_last n [] x r b e = refl
rising_last n (y ∷ []) x r b e = and_from (nat_lt y.sender x.sender) true (lt-ltb y.sender x.sender (omega (arith, b.0, e))) refl
rising_last n (y ∷ z ∷ ys) x r b e = let a = and_parts (nat_lt y.sender z.sender) (is_rising (z ∷ ys)) r in and_from _ _ a.0 (rising_last n (z ∷ ys) x a.1 b.1 e)

joined : (f : ℕ → List Signed) (is : List ℕ) (i : ℕ) → flat_map f (is ++ i ∷ []) ≡ flat_map f is ++ f i
joined f [] i = append-nil (f i)
joined f (j ∷ is) i = ap (λ l. f j ++ l) (joined f is i) ∙ sym (append_assoc (f j) (flat_map f is) (f i))

-- they rise, and each is below n
abbrev IsRisingBelow : ℕ → List Signed → Type 0
IsRisingBelow n xs = (is_rising xs ≡ true) × AllBelow n xs

one_more : (n : ℕ) (xs ys : List Signed) → IsRisingBelow n xs → IsOneOf n ys → IsRisingBelow (suc n) (xs ++ ys)
one_more n xs ys h (inl none) = subst (λ l. IsRisingBelow (suc n) (xs ++ l)) (sym none) (subst (IsRisingBelow (suc n)) (sym (append-nil xs)) (h.0, below_more n xs h.1))
one_more n xs ys h (inr one) = subst (λ l. IsRisingBelow (suc n) (xs ++ l)) (sym one.2) (rising_last n xs one.0 h.0 h.1 one.1, below_last n xs one.0 h.1 one.1)

rising_each : (f : ℕ → List Signed) (n : ℕ) → ((i : ℕ) → IsOneOf i (f i)) → IsRisingBelow n (flat_map f (below n))
unfolding below
rising_each f zero one = (refl, tt)
rising_each f (suc n) one = subst (IsRisingBelow (suc n)) (sym (joined f (below n) n)) (one_more n (flat_map f (below n)) (f n) (rising_each f n one) (one n))

-- ---- certificates

stamp_one : (stamps : List Stamp) (r : ℕ) (x : Id) (i : ℕ) (o : Option Stamp) → find (is_stamp r x i) stamps ≡ o → IsOneOf i (map (λ (stamp : Stamp). stamp.signed) (option_to_list o))
stamp_one stamps r x i None e = inl refl
stamp_one stamps r x i (Some stamp) e = inr (stamp.signed, eqb-true stamp.signed.sender i (and_parts _ _ (found_in (is_stamp r x i) stamps stamp e).passes).1, refl)

signed_one : (c : Setting) (p : ℕ) (s : State) (r : ℕ) (x : Id) (i : ℕ) → IsOneOf i (signed_by (context c p) s r x i)
signed_one c p s r x i =
    cond_both (senders s.votes (is_vote_for r Precommit (Some x)) i) _ [] (IsOneOf i)
    (λ _. cond_both (i == p) _ _ (IsOneOf i) (λ _. inr (_, refl, refl)) (λ _. stamp_one s.stamps r x i (find (is_stamp r x i) s.stamps) refl))
    (λ _. inl refl)

pub certificate_rising : (c : Setting) (p : ℕ) (s : State) (r : ℕ) (x : Id) → is_rising (certificate (context c p) s r x) ≡ true
certificate_rising c p s r x = (rising_each (signed_by (context c p) s r x) (length c.powers) (signed_one c p s r x)).0

vouching_one : (c : Setting) (p : ℕ) (b : Bundle) (i : ℕ) (o : Option Signed) → find (is_vouching c p b i) b.precommits ≡ o → IsOneOf i (option_to_list o)
vouching_one c p b i None e = inl refl
vouching_one c p b i (Some x) e = inr (x, eqb-true x.sender i (and_parts _ _ (found_in (is_vouching c p b i) b.precommits x e).passes).0, refl)

pub certified_rising : (c : Setting) (p : ℕ) (b : Bundle) → is_rising (certified c p b) ≡ true
unfolding certified
certified_rising c p b = (rising_each (λ i. option_to_list (find (is_vouching c p b i) b.precommits)) (length c.powers) (λ i. vouching_one c p b i (find (is_vouching c p b i) b.precommits) refl)).0

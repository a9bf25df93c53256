-- The right precommits of a bundle, as the keys of a ring find them.
use Rattle.std.proofs.Common.{◌≡◌, ℕ, suc, ◌+◌, ◌<◌, Bool, ◌&&◌, Bor, Option, Some, None, inl, inr, List, [], ◌∷◌, ◌++◌, length, refl, ◌∙◌, ap, add-one, arith}
use Rattle.std.specs.Prelude.{◌==◌, is_some}
use Rattle.std.specs.List.{find, list_any, flat_map}
use Rattle.std.specs.Option.{option_copied, option_to_list}
use Rattle.std.proofs.lemmas.Bool.{cases_Bool}
use Rattle.std.proofs.lemmas.List.{append-nil}
use Rattle.std.proofs.lemmas.List.Concat.{flat_map-append}
use Rattle.powers.specs.Power.{power}
use Rattle.messages.specs.Grammar.{body_spelling}
use Rattle.messages.specs.declared.body.Precommit.{Precommit}
use Rattle.messages.specs.declared.body.Bundle.{Bundle}
use Rattle.protocol.specs.Tags.{Setting, Validator, is_right, right}
use Rattle.protocol.specs.Messages.{OfVote, precommit, below}
use Rattle.protocol.specs.Refusals.{is_vouching, bundle_senders}

-- what a validator signs
abbrev pub signed_bytes : Bundle → ℕ → List ℕ
signed_bytes b i = body_spelling (OfVote (precommit b.height b.round i (Some b.id)))

-- the test, with what the ring gives
abbrev pub is_right_of : ℕ → ℕ → List ℕ → ℕ → List ℕ → Precommit → Bool
is_right_of i count key me bytes s = (s.sender == i) && is_right count key me bytes s.tags

pub same_test : (c : Setting) (p : ℕ) (b : Bundle) (i count me : ℕ) (key bytes : List ℕ) → count ≡ length c.powers → key ≡ c.key (Validator i) p → me ≡ p → bytes ≡ signed_bytes b i
    → (s : Precommit) → is_right_of i count key me bytes s ≡ is_vouching c p b i s
unfolding right
same_test c p b i count me key bytes n k m e s = rw (n, k, m, e) refl

some_found : (test : Precommit → Bool) (ps : List Precommit) → is_some (find test ps) ≡ list_any test ps
some_found test [] = refl
some_found test (s ∷ ps) = elim (cases_Bool (test s)) [ inl y ↦ rw y refl | inr n ↦ rw n (some_found test ps) ]

-- whether one is found, behind a reference too
pub same_some : (o : Option (Bor Precommit)) → is_some (option_copied o) ≡ is_some o
same_some None = refl
same_some (Some s) = refl

-- a validator vouches where one of its precommits is right
pub vouches : (c : Setting) (p : ℕ) (b : Bundle) (i : ℕ) → is_some (find (is_vouching c p b i) b.precommits) ≡ bundle_senders c p b i
unfolding bundle_senders
vouches c p b i = some_found (is_vouching c p b i) b.precommits

-- the first right precommit of a validator, if there is one
abbrev pub right_of : Setting → ℕ → Bundle → ℕ → List Precommit
right_of c p b i = option_to_list (find (is_vouching c p b i) b.precommits)

-- what one more validator adds
pub one_more : (f : ℕ → List Precommit) (i : ℕ) → flat_map f (below (suc i)) ≡ flat_map f (below i) ++ f i
unfolding below
one_more f i = flat_map-append f (below i) (i ∷ []) ∙ ap (λ (w : List Precommit). flat_map f (below i) ++ w) (append-nil (f i))

-- the list with one more validator's precommit, if it has a right one
pub grown : (f : ℕ → List Precommit) (i : ℕ) (so_far more : List Precommit) (found : Option Precommit) → so_far ≡ flat_map f (below i) → option_to_list found ≡ f i → more ≡ so_far ++ option_to_list found
    → more ≡ flat_map f (below (i + 1))
grown f i so_far more found e g h = rw (add-one, one_more f i, ← e, ← g) h

-- sets of the same validators have one power
pub power_same : (ps : List ℕ) (one other : ℕ → Bool) → ((i : ℕ) → i < length ps → one i ≡ other i) → power ps one ≡ power ps other
power_same [] one other same = refl
power_same (p ∷ ps) one other same = rw (same 0 (omega arith), power_same ps (λ i. one (suc i)) (λ i. other (suc i)) (λ i l. same (suc i) (omega arith))) refl

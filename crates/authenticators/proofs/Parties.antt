-- `==` of parties.
use Rattle.std.proofs.Common.{◌≡◌, ℕ, true, false, refl, ap}
use Rattle.std.proofs.lemmas.Bool.{eq-eqb, eqb-true}
use Rattle.authenticators.specs.Keys.{same_party}
use Rattle.authenticators.specs.declared.party.Party.{Party}
use Rattle.authenticators.specs.declared.party.Party.TheVariants.{Validator, Client}
use Rattle.authenticators.specs.contracts.party.PartyPartialEq.TheImpl as party_impl

pub eq_is_same : (a b : Party) → party_impl.eq-value.it a b ≡ same_party a b
eq_is_same (Validator a) (Validator b) = refl
eq_is_same (Validator a) (Client b) = refl
eq_is_same (Client a) (Validator b) = refl
eq_is_same (Client a) (Client b) = refl

pub same_is : (a b : Party) → same_party a b ≡ true → a ≡ b
same_is (Validator a) (Validator b) h = ap (λ (n : ℕ). Validator n) (eqb-true a b h)
same_is (Validator a) (Client b) h = absurd (let f : false ≡ true = h in cc)
same_is (Client a) (Validator b) h = absurd (let f : false ≡ true = h in cc)
same_is (Client a) (Client b) h = ap (λ (n : ℕ). Client n) (eqb-true a b h)

pub is_same : (a b : Party) → a ≡ b → same_party a b ≡ true
is_same a b e = rw e (itself b)
  where
    itself : (party : Party) → same_party party party ≡ true
    itself (Validator number) = eq-eqb number number refl
    itself (Client number) = eq-eqb number number refl

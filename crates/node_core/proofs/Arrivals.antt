-- What comes as bytes, by its message and the causes against it.
use Rattle.std.proofs.Common.{◌≡◌, ℕ, List, [], ◌∷◌, ◌++◌, Some, None, Ok, inl, inr, refl}
use Rattle.std.proofs.lemmas.Bool.{cases_Bool}
use Rattle.messages.specs.Framing.{message_of}
use Rattle.messages.specs.declared.body.Message.{Message}
use Rattle.protocol.specs.Tags.{Setting}
use Rattle.protocol.specs.State.{Node}
use Rattle.protocol.specs.Refusals.{Cause, first_cause, causes, answer}
use Rattle.protocol.specs.Arrivals.{arrival, received}

-- the causes before, and then those behind
pub none_before : {R : Type 0} (xs ys : List (Cause R)) → first_cause xs ≡ None → first_cause (xs ++ ys) ≡ first_cause ys
none_before [] ys e = refl
none_before (x ∷ xs) ys e = elim (cases_Bool x.stands) [
  | inl t ↦ (let f : Some x.answer ≡ None = rw t at e in absurd cc)
  | inr t ↦ (let f : first_cause xs ≡ None = rw t at e in rw t (none_before xs ys f))
]

pub some_before : {R : Type 0} (xs ys : List (Cause R)) (r : R) → first_cause xs ≡ Some r → first_cause (xs ++ ys) ≡ Some r
some_before [] ys r e = absurd cc
some_before (x ∷ xs) ys r e = elim (cases_Bool x.stands) [
  | inl t ↦ (let f : Some x.answer ≡ Some r = rw t at e in rw t f)
  | inr t ↦ (let f : first_cause xs ≡ Some r = rw t at e in rw t (some_before xs ys r f))
]

-- bytes against whose message nothing stands are taken in
pub comes_in : (c : Setting) (p : ℕ) (n : Node) (bytes : List ℕ) (m : Message) → message_of bytes ≡ Ok m → first_cause (causes c p n m m.body) ≡ None → arrival c p n bytes ≡ received c p n m m.body
comes_in c p n bytes m e none = rw (e, none) refl

pub answers_by : (c : Setting) (p : ℕ) (n : Node) (bytes : List ℕ) (m : Message) → message_of bytes ≡ Ok m → answer c p n bytes ≡ first_cause (causes c p n m m.body)
answers_by c p n bytes m e = rw e refl

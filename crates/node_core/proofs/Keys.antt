-- A whole ring is the ring of the setting that it tells of.
use Rattle.std.proofs.Common.{◌≡◌, ℕ, zero, suc, ◌<◌, ◌≤◌, true, cond, List, [], ◌∷◌, ◌++◌, map, length, get_or, take, Option, Some, None, IsSome, is_some, inl, inr, refl, sym, ap, ◌∙◌, eqb-true, eq-eqb, arith}
use Rattle.std.specs.Prelude.{◌==◌}
use Rattle.std.specs.List.{slice_get}
use Rattle.std.proofs.Math.Seq.{take-suc, take-length}
use Rattle.std.proofs.lemmas.Bool.{cases_Bool}
use Rattle.std.proofs.lemmas.Option.{slice_get-get_or}
use Rattle.authenticators.specs.Ring.{Ring, incoming, outgoing, IsWhole}
use Rattle.protocol.specs.Tags.{Validator, Client}
use Rattle.protocol.specs.Messages.{below}
use Rattle.protocol.specs.Rings.{IsRingOf}
use Rattle.node_core.specs.Core.{or_empty, setting}

some_of : (o : Option (List ℕ)) → IsSome o → o ≡ Some (or_empty o)
some_of None s = absurd cc
some_of (Some k) s = refl

some_if : (o : Option (List ℕ)) → o ≡ cond (is_some o) (Some (or_empty o)) None
some_if None = refl
some_if (Some k) = refl

-- keys by number, for each number below n, are the first n keys
first_keys : (keys : List (List ℕ)) (f : ℕ → List ℕ) (n : ℕ) → n ≤ length keys → ((q : ℕ) → q < length keys → f q ≡ or_empty (slice_get keys q)) → take n keys ≡ map f (below n)
unfolding below
first_keys keys f zero lt same = refl
first_keys keys f (suc n) lt same =
    let at : slice_get keys n ≡ Some (get_or keys n []) = slice_get-get_or keys n [] (omega arith) in
    let last : f n ≡ get_or keys n [] = same n (omega arith) ∙ ap or_empty at in
    take-suc keys n [] (omega arith) ∙ ap (λ l. l ++ get_or keys n [] ∷ []) (first_keys keys f n (omega arith) same) ∙ ap (λ x. map f (below n) ++ x ∷ []) (sym last) ∙ sym (map_last f (below n) n)
  where
    map_last : (g : ℕ → List ℕ) (xs : List ℕ) (x : ℕ) → map g (xs ++ x ∷ []) ≡ map g xs ++ g x ∷ []
    map_last g [] x = refl
    map_last g (y ∷ xs) x = ap (λ l. g y ∷ l) (map_last g xs x)

from_validator : (powers : List ℕ) (me : ℕ) (ring : Ring) → ring.me ≡ Validator me → ring.count ≡ length powers → IsWhole ring → (i : ℕ) → i < length powers → incoming ring (Validator i) ≡ Some ((setting powers me ring).key (Validator i) me)
unfolding setting
from_validator powers me ring owner count whole i lt = elim (cases_Bool (i == me)) [
  | inl t ↦ (
      let e : i ≡ me = eqb-true i me t in
      rw t (ap (λ j. incoming ring (Validator j)) e ∙ whole.own me owner ∙ some_of (outgoing ring me) (whole.sends me (omega (arith, e)))))
  | inr t ↦ rw t (some_of (incoming ring (Validator i)) (whole.receives me i owner (omega arith)))
]

pub is_ring_of : (powers : List ℕ) (me : ℕ) (ring : Ring) → ring.me ≡ Validator me → ring.count ≡ length powers → IsWhole ring → IsRingOf (setting powers me ring) me ring
unfolding setting
is_ring_of powers me ring owner count whole = record {
  me = owner;
  count = count;
  from_validators = from_validator powers me ring owner count whole;
  from_clients = λ i. some_if (incoming ring (Client i));
  to_validators = own_keys;
}
  where
    own_keys : ring.to_validators ≡ map ((setting powers me ring).key (Validator me)) (below (length powers))
    own_keys =
        let t : me == me ≡ true = eq-eqb me me refl in
        let n : length powers ≡ length ring.to_validators = sym count ∙ sym whole.all in
        sym (take-length ring.to_validators) ∙ first_keys ring.to_validators ((setting powers me ring).key (Validator me)) (length ring.to_validators) (omega arith) (λ q lt. rw t refl) ∙ ap (λ m. map ((setting powers me ring).key (Validator me)) (below m)) (sym n)

-- A ring has the keys that its validator sees.
use Rattle.std.proofs.Common.{◌≡◌, ℕ, zero, suc, ◌<◌, inl, inr, Bool, true, false, cond, List, [], ◌∷◌, ◌++◌, length, get_or, Option, Some, None, is_some, option_map, refl, sym, ap, ◌∙◌, subst, arith, length-append}
use Rattle.std.specs.List.{slice_get}
use Rattle.std.proofs.Math.Seq.{get_or-append_seam}
use Rattle.std.proofs.lemmas.List.{get_or_append_left}
use Rattle.std.proofs.lemmas.Bool.{cases_eq}
use Rattle.std.proofs.lemmas.Option.{slice_get-get_or, slice_get-map}
use Rattle.authenticators.specs.Ring.{Ring, outgoing}
use Rattle.protocol.specs.Tags.{Setting, Validator}
use Rattle.protocol.specs.Messages.{below}
use Rattle.protocol.specs.Rings.{IsRingOf}
use Rattle.world_schedule.specs.Rings.{RingLaw}

-- ---- the keys of a ring by number

length-below : (n : ℕ) → length (below n) ≡ n
unfolding below
length-below zero = refl
length-below (suc n) = let e = length-below n in omega (arith, length-append (below n) (n ∷ []))

get_or-below : (n i : ℕ) → i < n → get_or (below n) i 0 ≡ i
unfolding below
get_or-below zero i l = absurd (omega arith)
get_or-below (suc n) i l = elim (cases_eq i n) [
  | inl e ↦ subst (λ k. get_or (below n ++ n ∷ []) k 0 ≡ k) (length-below n ∙ sym e) (get_or-append_seam (below n) n [] 0 ∙ sym (length-below n))
  | inr e ↦ (let less : i < n = omega arith in let size = length-below n in get_or_append_left (below n) (n ∷ []) 0 i (omega arith) ∙ get_or-below n i less)
]

slice_get-below : (n i : ℕ) → i < n → slice_get (below n) i ≡ Some i
slice_get-below n i l = let size = length-below n in slice_get-get_or (below n) i 0 (omega arith) ∙ ap Some (get_or-below n i l)

pub sends_with : (c : Setting) (p : ℕ) (ring : Ring) → IsRingOf c p ring → (q : ℕ) → q < length c.powers → outgoing ring q ≡ Some (c.key (Validator p) q)
sends_with c p ring k q l = ap (λ keys. slice_get keys q) k.to_validators ∙ slice_get-map (c.key (Validator p)) (below (length c.powers)) q ∙ ap (option_map (c.key (Validator p))) (slice_get-below (length c.powers) q l)

-- ---- two settings

some_same : {x y : List ℕ} → Some x ≡ Some y → x ≡ y
some_same e = cc

-- a client has keys where the ring has one
client_seen : (o : Option (List ℕ)) (b : Bool) (k : List ℕ) → o ≡ cond b (Some k) None → is_some o ≡ b
client_seen o true k e = ap is_some e
client_seen o false k e = ap is_some e

-- and this is its key
client_key : (o : Option (List ℕ)) (b : Bool) (k : List ℕ) → o ≡ cond b (Some k) None → b ≡ true → o ≡ Some k
client_key o true k e t = e
client_key o false k e t = absurd (let f : false ≡ true = t in cc)

pub ring_law : RingLaw
ring_law p c d ring same of_c of_d =
    let counts : length c.powers ≡ length d.powers = ap length same in
    let clients : (i : ℕ) → c.clients i ≡ d.clients i = λ i. sym (client_seen _ _ _ (of_c.from_clients i)) ∙ client_seen _ _ _ (of_d.from_clients i) in record {
      powers = same;
      clients = clients;
      from_validators = λ i l. some_same (sym (of_c.from_validators i l) ∙ of_d.from_validators i (subst (λ n. i < n) counts l));
      from_clients = λ i t. some_same (sym (client_key _ _ _ (of_c.from_clients i) t) ∙ client_key _ _ _ (of_d.from_clients i) (sym (clients i) ∙ t));
      to_validators = λ q l. some_same (sym (sends_with c p ring of_c q l) ∙ sends_with d p ring of_d q (subst (λ n. q < n) counts l));
    }

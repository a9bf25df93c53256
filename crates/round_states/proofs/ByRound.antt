-- The places of a round's proposals, one proposal after the other.
use Rattle.std.proofs.Common.{◌≡◌, ℕ, zero, suc, ◌+◌, ◌<◌, ◌≤◌, cond, All, map, List, [], ◌∷◌, ◌++◌, length, take, get_or, refl, sym, ap, ◌∙◌, inl, inr, arith}
use Rattle.std.specs.Prelude.{◌==◌, filter}
use Rattle.std.proofs.lemmas.Bool.{cases_Bool}
use Rattle.std.proofs.lemmas.List.{append-nil, take_more, length-take-le, length-map, map-append}
use Rattle.std.proofs.lemmas.List.Elements.{filter-append, All-append, All-filter}
use Rattle.std.proofs.Math.Seq.{take-length}
use Rattle.protocol.specs.Messages.{Proposal, below}
use Rattle.round_states.specs.Found.{proposal_in}
use Rattle.round_states.specs.declared.state.KeptProposal.{KeptProposal}
use Rattle.round_states.specs.Steps.{nowhere}
use Rattle.round_states.specs.Places.{places_of}

-- the places of a round in a list that begins at place n
abbrev pub places_from : ℕ → ℕ → List Proposal → List ℕ
places_from round n [] = []
places_from round n (q ∷ qs) = cond (q.round == round) (n ∷ places_from round (n + 1) qs) (places_from round (n + 1) qs)

from_more : (r n : ℕ) (qs : List Proposal) (q : Proposal) → places_from r n (qs ++ q ∷ []) ≡ places_from r n qs ++ cond (q.round == r) ((n + length qs) ∷ []) []
from_more r n [] q = let e : n + 0 ≡ n = omega arith in elim (cases_Bool (q.round == r)) [
  | inl t ↦ rw (t, e) refl
  | inr f ↦ rw f refl
]
from_more r n (p ∷ ps) q =
    let e : n + 1 + length ps ≡ n + suc (length ps) = omega arith in
    let more = from_more r (n + 1) ps q in
    elim (cases_Bool (p.round == r)) [
      | inl t ↦ rw (t, ← e) (ap (λ (xs : List ℕ). n ∷ xs) more)
      | inr f ↦ rw (f, ← e) more
    ]

first_places : (r : ℕ) (qs : List Proposal) (n : ℕ) → n ≤ length qs → filter (λ place. (get_or qs place nowhere).round == r) (below n) ≡ places_from r 0 (take n qs)
unfolding below
first_places r qs zero le = refl
first_places r qs (suc n) le =
    let test = λ (place : ℕ). (get_or qs place nowhere).round == r in
    let within : n < length qs = omega (arith, le) in
    let fits : n ≤ length qs = omega (arith, le) in
    let next : n + 1 ≡ suc n = omega arith in
    let len : 0 + length (take n qs) ≡ n = let l = length-take-le n qs fits in omega (arith, l) in
    let more : take (n + 1) qs ≡ take n qs ++ get_or qs n nowhere ∷ [] = take_more qs n nowhere within in
    filter-append test (below n) (n ∷ [])
    ∙ ap (λ (xs : List ℕ). xs ++ cond (test n) (n ∷ []) []) (first_places r qs n fits)
    ∙ ap (λ (k : ℕ). places_from r 0 (take n qs) ++ cond (test n) (k ∷ []) []) (sym len)
    ∙ sym (from_more r 0 (take n qs) (get_or qs n nowhere))
    ∙ ap (λ (xs : List Proposal). places_from r 0 xs) (sym more ∙ ap (λ (k : ℕ). take k qs) next)

pub places_is : (r : ℕ) (qs : List Proposal) → places_of r qs ≡ places_from r 0 qs
places_is r qs = first_places r qs (length qs) (omega arith) ∙ ap (λ (xs : List Proposal). places_from r 0 xs) (take-length qs)

with_place : (n r q : ℕ) (xs : List ℕ) → xs ++ cond (q == r) (n ∷ []) [] ≡ cond (q == r) (xs ++ n ∷ []) xs
with_place n r q xs = elim (cases_Bool (q == r)) [
  | inl t ↦ rw t refl
  | inr f ↦ rw f (append-nil xs)
]

pub places_more : (r : ℕ) (qs : List Proposal) (q : Proposal) → places_of r (qs ++ q ∷ []) ≡ cond (q.round == r) (places_of r qs ++ length qs ∷ []) (places_of r qs)
places_more r qs q =
    let e : 0 + length qs ≡ length qs = omega arith in
    places_is r (qs ++ q ∷ []) ∙ from_more r 0 qs q ∙ ap (λ (k : ℕ). places_from r 0 qs ++ cond (q.round == r) (k ∷ []) []) e
    ∙ ap (λ (xs : List ℕ). xs ++ cond (q.round == r) (length qs ∷ []) []) (sym (places_is r qs)) ∙ with_place (length qs) r q.round (places_of r qs)

pub no_places : (r : ℕ) → places_of r [] ≡ []
unfolding below
no_places r = refl

all_below : (n : ℕ) → All (λ place. place < n) (below n)
unfolding below
all_below zero = λ i d lt. absurd (omega (arith, lt))
all_below (suc n) = All-append (λ place. place < suc n) (below n) (n ∷ []) (λ i d lt. let h = all_below n i d lt in omega (arith, h)) (λ i d lt. let e : i ≡ 0 = omega (arith, lt) in rw e (omega arith))

-- each is a place in the list
pub places_within : (r : ℕ) (qs : List Proposal) → All (λ place. place < length qs) (places_of r qs)
places_within r qs = All-filter _ (λ place. place < length qs) (below (length qs)) (all_below (length qs))

-- one kept proposal more
pub places_kept : (r place : ℕ) (old mid new : List ℕ) (ks : List KeptProposal) (k : KeptProposal) → new ≡ cond (k.proposal.round == r) (mid ++ place ∷ []) mid → mid ≡ old → old ≡ places_of r (map proposal_in ks) → place ≡ length ks
    → new ≡ places_of r (map proposal_in (ks ++ k ∷ []))
places_kept r place old mid new ks k is same h at =
    let len : place ≡ length (map proposal_in ks) = rw length-map at in
    is ∙ ap (λ (xs : List ℕ). cond (k.proposal.round == r) (xs ++ place ∷ []) xs) (same ∙ h) ∙ ap (λ (p : ℕ). cond (k.proposal.round == r) (places_of r (map proposal_in ks) ++ p ∷ []) (places_of r (map proposal_in ks))) len
    ∙ sym (places_more r (map proposal_in ks) k.proposal) ∙ ap (λ (qs : List Proposal). places_of r qs) (sym (map-append proposal_in ks (k ∷ [])))

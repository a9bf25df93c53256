-- When one more item keeps the clients' order, and which item stands in the middle of a list that does.
use Rattle.std.proofs.Common.{◌≡◌, ℕ, ◌⊎◌, inl, inr, Bool, true, false, List, [], ◌∷◌, ◌++◌, refl, sym, ◌∙◌, ap, subst, eqb-true, eq-eqb}
use Rattle.std.specs.Prelude.{◌==◌}
use Rattle.std.specs.List.{list_all}
use Rattle.std.proofs.lemmas.Bool.{and_parts, and_from, cases_Bool}
use Rattle.std.proofs.lemmas.List.{append-nil}
use Rattle.std.proofs.lemmas.List.Elements.{filter-append}
use Rattle.protocol.specs.declared.standing.Standing.{Standing}
use Rattle.protocol.specs.Values.{Item, of, fresh, fits, left_by, left_after, in_turn, fifo}
use Rattle.protocol.specs.Queues.{standing_of}
use Rattle.protocol.proofs.Numbers.{turn_push}

-- ---- the items of one client

pub left_last : (s : Standing) (l : List Item) (t : Item) → left_after s (l ++ t ∷ []) ≡ left_by t
left_last s [] t = refl
left_last s (x ∷ l) t = left_last (left_by x) l t

in_turn_middle : (s : Standing) (l : List Item) (t : Item) (m : List Item) → in_turn s (l ++ t ∷ m) ≡ true → fits (left_after s l) t ≡ true
in_turn_middle s [] t m h = (and_parts (fits s t) (in_turn (left_by t) m) h).0
in_turn_middle s (x ∷ l) t m h = in_turn_middle (left_by x) l t m (and_parts (fits s x) (in_turn (left_by x) (l ++ t ∷ m)) h).1

in_turn_beginning : (s : Standing) (l m : List Item) → in_turn s (l ++ m) ≡ true → in_turn s l ≡ true
in_turn_beginning s [] m h = refl
in_turn_beginning s (x ∷ l) m h = let k = and_parts (fits s x) (in_turn (left_by x) (l ++ m)) h in and_from _ _ k.0 (in_turn_beginning (left_by x) l m k.1)

-- ---- every client

from_own : (d e : List Item) (client : ℕ) → list_all (λ (t : Item). in_turn fresh (of t.client e)) d ≡ true → (in_turn fresh (of client e) ≡ true) ⊎ (of client d ≡ [])
from_own [] e client h = inr refl
from_own (t ∷ d) e client h =
    let k = and_parts _ _ h in
    elim (cases_Bool (t.client == client)) [
      | inl y ↦ inl (subst (λ n. in_turn fresh (of n e) ≡ true) (eqb-true _ _ y) k.0)
      | inr n ↦ elim (from_own d e client k.1) [ inl z ↦ inl z | inr z ↦ inr (rw n z) ]
    ]

-- the items of each client, also of one that has none, are in turn
pub every_client : (d : List Item) → fifo d ≡ true → (client : ℕ) → in_turn fresh (of client d) ≡ true
unfolding fifo
every_client d f client = elim (from_own d d client f) [ inl k ↦ k | inr k ↦ rw k refl ]

all_pass : (test : Item → Bool) (d : List Item) → ((t : Item) → test t ≡ true) → list_all test d ≡ true
all_pass test [] h = refl
all_pass test (t ∷ d) h = and_from _ _ (h t) (all_pass test d h)

pub from_clients : (d : List Item) → ((client : ℕ) → in_turn fresh (of client d) ≡ true) → fifo d ≡ true
unfolding fifo
from_clients d h = all_pass (λ (t : Item). in_turn fresh (of t.client d)) d (λ t. h t.client)

pub of_append : (client : ℕ) (d e : List Item) → of client (d ++ e) ≡ of client d ++ of client e
of_append client d e = filter-append (λ (t : Item). t.client == client) d e

pub of_own : (client : ℕ) (d : List Item) (t : Item) (e : List Item) → (t.client == client) ≡ true → of client (d ++ t ∷ e) ≡ of client d ++ t ∷ of client e
of_own client d t e y = of_append client d (t ∷ e) ∙ rw y refl

pub of_other : (client : ℕ) (d : List Item) (t : Item) → (t.client == client) ≡ false → of client (d ++ t ∷ []) ≡ of client d
of_other client d t n = of_append client d (t ∷ []) ∙ rw n (append-nil (of client d))

-- one more item
pub fifo_more : (d : List Item) (t : Item) → fifo d ≡ true → fits (standing_of t.client d) t ≡ true → fifo (d ++ t ∷ []) ≡ true
fifo_more d t f h = from_clients (d ++ t ∷ []) each
  where
    each : (client : ℕ) → in_turn fresh (of client (d ++ t ∷ [])) ≡ true
    each client = elim (cases_Bool (t.client == client)) [
      | inl y ↦ rw (of_own client d t [] y) (turn_push fresh (of client d) t (every_client d f client) (subst (λ n. fits (standing_of n d) t ≡ true) (eqb-true _ _ y) h))
      | inr n ↦ rw (of_other client d t n) (every_client d f client)
    ]

-- an item in the middle
pub fifo_middle : (d : List Item) (t : Item) (e : List Item) → fifo (d ++ t ∷ e) ≡ true → fits (standing_of t.client d) t ≡ true
fifo_middle d t e f =
    let own = of_own t.client d t e (eq-eqb _ _ refl) in
    in_turn_middle fresh (of t.client d) t (of t.client e) (subst (λ l. in_turn fresh l ≡ true) own (every_client (d ++ t ∷ e) f t.client))

-- a beginning of a list that keeps the clients' order keeps it
pub fifo_beginning : (d e : List Item) → fifo (d ++ e) ≡ true → fifo d ≡ true
fifo_beginning d e f = from_clients d (λ client. in_turn_beginning fresh (of client d) (of client e) (subst (λ l. in_turn fresh l ≡ true) (of_append client d e) (every_client (d ++ e) f client)))

-- A list goes on in the clients' order where each item fits the standings before it.
use Rattle.std.proofs.Common.{◌≡◌, ℕ, suc, ◌+◌, ◌<◌, inl, inr, Bool, true, false, cond, ◌&&◌, ◌||◌, List, [], ◌∷◌, ◌++◌, length, take, drop, get_or, refl, sym, ◌∙◌, ap, subst, eqb-true, eq-eqb, arith, append_assoc, length-append, add-one}
use Rattle.std.specs.Prelude.{◌==◌}
use Rattle.std.specs.List.{list_any}
use Rattle.std.proofs.lemmas.Bool.{and_parts, and_from, not-true, not_from_false, cases_Bool, false_from_ne_true, both_ways, and_left, and_right, le-leb}
use Rattle.std.proofs.lemmas.List.{append-nil, map-append, take_more, take-append-drop}
use Rattle.std.proofs.lemmas.List.Folds.{list_any-append}
use Rattle.transactions.specs.Grammar.{IsValue}
use Rattle.protocol.specs.declared.standing.Standing.{Standing}
use Rattle.protocol.specs.Values.{Item, Tx, Value, item, items, of, fresh, fits, left_by, fifo, valid, keeps_limits}
use Rattle.protocol.specs.Queues.{standing_of}
use Rattle.proposal_validity.specs.Standing.{Standings, standing, IsFrontierOf}
use Rattle.proposal_validity.specs.Course.{after, all_fit, items_of}
use Rattle.proposal_validity.specs.Laws.{follows, ValidLaw, FrontierLaw}
use Rattle.proposal_validity.proofs.Turns.{left_last, of_own, of_other, fifo_more, fifo_middle}

-- the list keeps the clients' order, and these are the standings that it leaves behind
record Agrees (d : List Item) (s : ℕ → Standing) : Type 0 where
  order : fifo d ≡ true
  each : (client : ℕ) → s client ≡ standing_of client d

-- ---- one item

left_own : (d : List Item) (t : Item) (client : ℕ) → (t.client == client) ≡ true → left_by t ≡ standing_of client (d ++ t ∷ [])
left_own d t client y = rw (of_own client d t [] y) (sym (left_last fresh (of client d) t))

left_other : (d : List Item) (t : Item) (client : ℕ) → (t.client == client) ≡ false → standing_of client d ≡ standing_of client (d ++ t ∷ [])
left_other d t client n = rw (of_other client d t n) refl

step : (d : List Item) (t : Item) (s : ℕ → Standing) → Agrees d s → fits (s t.client) t ≡ true → Agrees (d ++ t ∷ []) (λ client. after client (t ∷ []) (s client))
step d t s a h = record {
  order = fifo_more d t a.order (subst (λ (x : Standing). fits x t ≡ true) (a.each t.client) h);
  each = λ client. elim (cases_Bool (t.client == client)) [
    | inl y ↦ rw y (left_own d t client y)
    | inr n ↦ rw n (a.each client ∙ left_other d t client n)
  ];
}

-- ---- a list of items

apart : (d : List Item) (t : Item) (ts : List Item) → d ++ t ∷ ts ≡ (d ++ t ∷ []) ++ ts
apart d t ts = sym (append_assoc d (t ∷ []) ts)

fifo_all : (d ts : List Item) (s : ℕ → Standing) → Agrees d s → fifo (d ++ ts) ≡ all_fit s ts
fifo_all d [] s a = ap fifo (append-nil d) ∙ a.order
fifo_all d (t ∷ ts) s a = elim (cases_Bool (fits (s t.client) t)) [
  | inl y ↦ ap fifo (apart d t ts) ∙ fifo_all (d ++ t ∷ []) ts (λ client. after client (t ∷ []) (s client)) (step d t s a y) ∙ rw y refl
  | inr n ↦ false_from_ne_true _ (λ h. both_ways _ n (subst (λ (x : Standing). fits x t ≡ true) (sym (a.each t.client)) (fifo_middle d t ts h))) ∙ rw n refl
]

left_all : (d ts : List Item) (s : ℕ → Standing) → Agrees d s → all_fit s ts ≡ true → Agrees (d ++ ts) (λ client. after client ts (s client))
left_all d [] s a h = rw (append-nil d) a
left_all d (t ∷ ts) s a h =
    let k = and_parts _ _ h in
    rw (apart d t ts) (left_all (d ++ t ∷ []) ts (λ client. after client (t ∷ []) (s client)) (step d t s a k.0) k.1)

follows_all : (d ts : List Item) (s : ℕ → Standing) → Agrees d s → all_fit s ts ≡ follows d ts
follows_all d [] s a = refl
follows_all d (t ∷ ts) s a =
    let same : fits (s t.client) t ≡ fits (standing_of t.client d) t = ap (λ (x : Standing). fits x t) (a.each t.client) in
    elim (cases_Bool (fits (s t.client) t)) [
      | inl y ↦ rw (← same) (rw y (follows_all (d ++ t ∷ []) ts (λ client. after client (t ∷ []) (s client)) (step d t s a y)))
      | inr n ↦ rw (← same) (rw n refl)
    ]

pub valid_law : ValidLaw
valid_law d ts f = let a : Agrees d (λ client. standing_of client d) = record { order = f; each = λ client. refl } in fifo_all d ts (λ client. standing_of client d) a ∙ follows_all d ts (λ client. standing_of client d) a

-- ---- a walk over the transactions

and_true : (b : Bool) → (b && true) ≡ b
and_true true = refl
and_true false = refl

and_assoc : (a b c : Bool) → ((a && b) && c) ≡ (a && (b && c))
and_assoc true b c = refl
and_assoc false b c = refl

all_fit-append : (s : ℕ → Standing) (ts us : List Item) → all_fit s (ts ++ us) ≡ (all_fit s ts && all_fit (λ client. after client ts (s client)) us)
all_fit-append s [] us = refl
all_fit-append s (t ∷ ts) us = ap (λ b. fits (s t.client) t && b) (all_fit-append (λ client. after client (t ∷ []) (s client)) ts us) ∙ sym (and_assoc (fits (s t.client) t) _ _)

after-append : (client : ℕ) (ts us : List Item) (s : Standing) → after client (ts ++ us) s ≡ after client us (after client ts s)
after-append client [] us s = refl
after-append client (t ∷ ts) us s = after-append client ts us (cond (t.client == client) (left_by t) s)

module _ (txs : List Tx) (i : ℕ) (t : Tx) (lt : i < length txs) (is : t ≡ get_or txs i t) where
  items_more : items_of (take (i + 1) txs) ≡ items_of (take i txs) ++ item t ∷ []
  items_more = ap items_of (take_more txs i t lt) ∙ map-append item (take i txs) (get_or txs i t ∷ []) ∙ ap (λ (u : Tx). items_of (take i txs) ++ item u ∷ []) (sym is)

  pub after_more : (client : ℕ) (s : Standing) → after client (items_of (take (i + 1) txs)) s ≡ cond (t.client == client) (left_by (item t)) (after client (items_of (take i txs)) s)
  after_more client s = ap (λ l. after client l s) items_more ∙ after-append client (items_of (take i txs)) (item t ∷ []) s

  pub all_fit_more : (s : ℕ → Standing) → all_fit s (items_of (take i txs)) ≡ true → fits (after t.client (items_of (take i txs)) (s t.client)) (item t) ≡ true → all_fit s (items_of (take (i + 1) txs)) ≡ true
  all_fit_more s h f = ap (all_fit s) items_more ∙ all_fit-append s (items_of (take i txs)) (item t ∷ []) ∙ and_from _ _ h (and_from _ _ f refl)

  pub all_fit_not : (s : ℕ → Standing) → fits (after t.client (items_of (take i txs)) (s t.client)) (item t) ≡ false → all_fit s (items_of txs) ≡ false
  all_fit_not s f =
      let split : items_of txs ≡ items_of (take (i + 1) txs) ++ items_of (drop (i + 1) txs) = ap items_of (sym (take-append-drop (i + 1) txs)) ∙ map-append item (take (i + 1) txs) (drop (i + 1) txs) in
      let front : all_fit s (items_of (take (i + 1) txs)) ≡ false = ap (all_fit s) items_more ∙ all_fit-append s (items_of (take i txs)) (item t ∷ []) ∙ and_right _ _ (and_left _ _ f) in
      ap (all_fit s) split ∙ all_fit-append s (items_of (take (i + 1) txs)) (items_of (drop (i + 1) txs)) ∙ and_left _ _ front

-- ---- a value after a frontier

keeps : (v : Value) → IsValue v → keeps_limits v ≡ true
keeps v lawful = and_from _ _ (le-leb _ _ lawful.few) (le-leb _ _ lawful.short)

agrees : (d : List Item) (f : Standings) → IsFrontierOf d f → Agrees d (standing f)
agrees d f a = record { order = a.order; each = a.each }

pub valid_all : (f : Standings) (v : Value) → IsValue v → (d : List Item) → IsFrontierOf d f → valid d v ≡ all_fit (standing f) (items_of v.txs)
unfolding valid
valid_all f v lawful d a = rw (keeps v lawful) (and_true _ ∙ fifo_all d (items v) (standing f) (agrees d f a))

pub frontier_after : (f g : Standings) (v : Value) → ((d : List Item) → IsFrontierOf d f → valid d v ≡ true) → ((client : ℕ) → standing g client ≡ after client (items_of v.txs) (standing f client)) → (d : List Item) → IsFrontierOf d f → IsFrontierOf (d ++ items v) g
unfolding valid
frontier_after f g v fits_on same d a =
    let order = (and_parts _ _ (fits_on d a)).0 in
    let left = left_all d (items v) (standing f) (agrees d f a) (sym (fifo_all d (items v) (standing f) (agrees d f a)) ∙ order) in
    record { order = left.order; each = λ client. same client ∙ left.each client }

pub frontier_law : FrontierLaw
unfolding valid
frontier_law f v d e a b = ap (λ kept. kept && keeps_limits v) (fifo_all d (items v) (standing f) (agrees d f a) ∙ sym (fifo_all e (items v) (standing f) (agrees e f b)))

-- valid after one list with this frontier, valid after each
pub valid_after_each : (f : Standings) (v : Value) (d : List Item) → IsFrontierOf d f → valid d v ≡ true → (e : List Item) → IsFrontierOf e f → valid e v ≡ true
valid_after_each f v d a h e b = sym (frontier_law f v d e a b) ∙ h

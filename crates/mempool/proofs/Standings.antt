-- What a frontier and a queue tell of a client, and how far a queue goes on.
use Rattle.std.proofs.Common.{◌≡◌, ℕ, zero, suc, ◌+◌, ◌-◌, ◌<◌, ◌≤◌, true, false, Some, slice_get, List, [], ◌∷◌, ◌++◌, length, get_or, map, take, drop, sym, ap, ◌∙◌, arith, append_assoc}
use Rattle.std.proofs.lemmas.Option.{get_or_from_slice_get}
use Rattle.std.proofs.lemmas.List.{append-nil, take_all, take_more, drop_more, drop_all}
use Rattle.protocol.specs.declared.standing.Standing.{Standing}
use Rattle.protocol.specs.Values.{Tx, item, fits, left_by, left_after}
use Rattle.protocol.specs.Queues.{going_on}

-- the last one tells
pub left_of_last : (s : Standing) (xs : List Tx) (i : ℕ) (x : Tx) → length xs ≡ suc i → x ≡ get_or xs i x → left_after s (map item xs) ≡ left_by (item x)
left_of_last s [] i x n e = absurd (omega arith)
left_of_last s (y ∷ []) zero x n e = ap (λ (t : Tx). left_by (item t)) (sym e)
left_of_last s (y ∷ []) (suc i) x n e = absurd (omega arith)
left_of_last s (y ∷ z ∷ xs) zero x n e = absurd (omega arith)
left_of_last s (y ∷ z ∷ xs) (suc i) x n e = left_of_last (left_by (item y)) (z ∷ xs) i x (omega arith) e

-- the first i of these go on, and then what goes on from where the client then stands
abbrev pub GoesOn : Standing → List Tx → ℕ → Standing → Type 0
GoesOn s txs i reached = going_on s txs ≡ take i txs ++ going_on reached (drop i txs)

module _ (s reached : Standing) (txs : List Tx) (i : ℕ) (t : Tx) (lt : i < length txs) (is : t ≡ get_or txs i t) (so_far : GoesOn s txs i reached) where
  rest : drop i txs ≡ t ∷ drop (i + 1) txs
  rest = drop_more txs i t lt ∙ ap (λ (u : Tx). u ∷ drop (i + 1) txs) (sym is)

  front : take (i + 1) txs ≡ take i txs ++ t ∷ []
  front = take_more txs i t lt ∙ ap (λ (u : Tx). take i txs ++ u ∷ []) (sym is)

  pub one_more : fits reached (item t) ≡ true → GoesOn s txs (i + 1) (left_by (item t))
  one_more f = so_far ∙ rw (rest, f) (sym (rw front (append_assoc (take i txs) (t ∷ []) (going_on (left_by (item t)) (drop (i + 1) txs)))))

  pub stops : fits reached (item t) ≡ false → take i txs ≡ going_on s txs
  stops f = sym (so_far ∙ rw (rest, f) (append-nil (take i txs)))

pub all_go_on : (s reached : Standing) (txs : List Tx) (i : ℕ) → length txs ≤ i → GoesOn s txs i reached → txs ≡ going_on s txs
all_go_on s reached txs i le so_far = sym (so_far ∙ rw (take_all i txs le, drop_all i txs le) (append-nil txs))

-- the last one, where there is one
pub left_of_found : (s : Standing) (xs : List Tx) (x : Tx) → slice_get xs (length xs - 1) ≡ Some x → left_after s (map item xs) ≡ left_by (item x)
left_of_found s [] x e = absurd (cc)
left_of_found s (y ∷ xs) x e = left_of_last s (y ∷ xs) (length (y ∷ xs) - 1) x (omega arith) (sym (get_or_from_slice_get (y ∷ xs) (length (y ∷ xs) - 1) x x e))

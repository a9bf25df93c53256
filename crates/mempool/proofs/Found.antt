-- Transactions that are found among those that wait.
use Rattle.std.proofs.Common.{◌≡◌, ℕ, zero, suc, ◌<◌, ◌≤◌, length, get_or, true, List, [], ◌∷◌, Option, Some, None, IfSome, Bor, inl, inr, subst, arith, filter, eqb}
use Rattle.std.specs.Option.{MatchOption}
use Rattle.std.specs.List.{HoldsAt}
use Rattle.transactions.specs.Equality.{tx_eq}
use Rattle.transactions.proofs.Equality.{tx_eq_decides}
use Rattle.protocol.specs.Messages.{◌∈◌}
use Rattle.protocol.specs.Values.{Tx}
use Rattle.protocol.specs.Queues.{Queue, all_waiting, waiting_of}
use Rattle.protocol.proofs.Membership.{in_flat_map, flat_map_in, in_filter}

at_in : (xs : List Tx) (i : ℕ) (x : Tx) → i < length xs → x ≡ get_or xs i x → x ∈ xs
at_in [] i x h e = absurd (omega arith)
at_in (y ∷ ys) zero x h e = inl e
at_in (y ∷ ys) (suc i) x h e = inr (at_in ys i x (omega arith) e)

-- what is at a place of a list is in it
pub got_in : (xs : List Tx) (i : ℕ) (r : Option (Bor Tx)) → IfSome r (λ x. x.now ≡ get_or xs i x.now) → MatchOption r (length xs ≤ i) (λ x. (i < length xs) × HoldsAt (λ y. x.now ≡ y) xs i) → IfSome r (λ x. x.now ∈ xs)
got_in xs i None h k = tt
got_in xs i (Some x) h k = at_in xs i x.now k.0 h

-- what a client has waiting waits
waits : (client : ℕ) (queues : List Queue) (t : Tx) → t ∈ waiting_of client queues → t ∈ all_waiting queues
waits client queues t k =
    let f = in_flat_map (λ (q : Queue). q.waiting) t (filter (λ (q : Queue). eqb q.client client) queues) k in
    flat_map_in (λ (q : Queue). q.waiting) t f.0 queues (in_filter (λ (q : Queue). eqb q.client client) f.0 queues f.1) f.2

-- and so what equals it
pub same_waits : (client : ℕ) (queues : List Queue) (found t : Tx) → found ∈ waiting_of client queues → tx_eq found t ≡ true → t ∈ all_waiting queues
same_waits client queues found t k e = waits client queues t (subst (λ x. x ∈ waiting_of client queues) ((tx_eq_decides found t).0 e) k)

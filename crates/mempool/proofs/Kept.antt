-- What holds of each waiting transaction: of a new one too it stays so, and it holds of what is picked.
use Rattle.std.proofs.Common.{◌≡◌, ℕ, zero, suc, ◌<◌, None, is_none, ap, inl, inr, true, false, All, List, [], ◌∷◌, length, map, take, refl, sym, subst, arith}
use Rattle.std.specs.List.{AllByRecursion}
use Rattle.std.proofs.lemmas.Bool.{leb-true, leb-false, and_parts, cases_Bool, not-false}
use Rattle.std.proofs.lemmas.List.Elements.{All-from_recursion, recursion_from_All}
use Rattle.transactions.specs.Grammar.{IsTx, IsValue}
use Rattle.protocol.specs.Values.{Tx, Item, item, fits, keeps_limits}
use Rattle.protocol.specs.Messages.{◌∈◌}
use Rattle.protocol.specs.Queues.{Queue, all_waiting, queued, drop_delivered, pick, longest, turns, waiting_of}
use Rattle.protocol.proofs.Waiting.{picked_waits, queued_in, dropped_in}
use Rattle.protocol.specs.Tags.{Setting, tx_is_right}
use Rattle.protocol.specs.Refusals.{is_long, is_old, is_closed, reached, first_cause, tx_causes}
use Rattle.protocol.proofs.Arrivals.{none_stand}
use Rattle.mempool.proofs.Sizes.{Fits, fits_keeps, size_none}

module _ (P : Tx → Type 0) where
  each_in : (txs : List Tx) → AllByRecursion P txs → (t : Tx) → t ∈ txs → P t
  each_in [] h t k = absurd k
  each_in (u ∷ txs) h t (inl e) = subst P (sym e) h.0
  each_in (u ∷ txs) h t (inr k) = each_in txs h.1 t k

  each_from : (txs : List Tx) → ((t : Tx) → t ∈ txs → P t) → AllByRecursion P txs
  each_from [] h = tt
  each_from (u ∷ txs) h = (h u (inl refl), each_from txs (λ t k. h t (inr k)))

  -- those of the second list are among those of the first
  among : (txs more : List Tx) → ((t : Tx) → t ∈ more → t ∈ txs) → All P txs → All P more
  among txs more within each = All-from_recursion P more (each_from more (λ t k. each_in txs (recursion_from_All P txs each) t (within t k)))

  pub each_queued : (t : Tx) (queues : List Queue) → P t → All P (all_waiting queues) → All P (all_waiting (queued t queues))
  each_queued t queues one each = All-from_recursion P (all_waiting (queued t queues)) (each_from (all_waiting (queued t queues)) (λ u k. elim (queued_in t u queues k) [
    | inl e ↦ subst P (sym e) one
    | inr l ↦ each_in (all_waiting queues) (recursion_from_All P (all_waiting queues) each) u l
  ]))

  pub each_left : (d : List Item) (queues : List Queue) → All P (all_waiting queues) → All P (all_waiting (drop_delivered d queues))
  each_left d queues each = among (all_waiting queues) (all_waiting (drop_delivered d queues)) (λ t k. dropped_in d t queues k) each

  pub each_picked : (queues : List Queue) → All P (all_waiting queues) → All P (pick queues).txs
  each_picked queues each = among (all_waiting queues) (pick queues).txs (λ t k. picked_waits queues t k) each

longest_keeps : (n : ℕ) (txs : List Tx) → keeps_limits (record { txs = longest n txs }) ≡ true
longest_keeps zero txs = let none : Fits [] = (omega arith, omega (arith, size_none)) in fits_keeps [] none
longest_keeps (suc n) txs = elim (cases_Bool (keeps_limits (record { txs = take (suc n) txs }))) [
  | inl y ↦ rw y y
  | inr k ↦ rw k (longest_keeps n txs)
]

pub pick_keeps : (queues : List Queue) → keeps_limits (pick queues) ≡ true
unfolding pick
pick_keeps queues = longest_keeps 256 (turns (length (all_waiting queues)) (map (λ (q : Queue). q.waiting) queues))

-- where each waiting transaction has a spelling, so has the value
pub pick_spelled : (queues : List Queue) → All IsTx (all_waiting queues) → IsValue (pick queues)
pick_spelled queues each =
    let k = and_parts _ _ (pick_keeps queues) in
    record {
      few = leb-true _ _ k.0;
      each = recursion_from_All IsTx (pick queues).txs (each_picked IsTx queues each);
      short = leb-true _ _ k.1;
    }

-- ---- a transaction that is queued

-- Nothing stands against it.
pub record IsGood (c : Setting) (p : ℕ) (d : List Item) (queues : List Queue) (t : Tx) : Type 0 where
  pub short : is_long t.op ≡ false
  pub known : c.clients t.client ≡ true
  pub right : tx_is_right c p t ≡ true
  pub above : is_old d queues t ≡ false
  pub open_still : is_closed d queues t ≡ false
  pub next : fits (reached d queues t.client) (item t) ≡ true
  pub room : length (waiting_of t.client queues) < 64

pub good_if_queued : (c : Setting) (p : ℕ) (d : List Item) (queues : List Queue) (t : Tx) → first_cause (tx_causes c p d queues t) ≡ None → IsGood c p d queues t
good_if_queued c p d queues t e =
    let stand = none_stand (tx_causes c p d queues t) (ap is_none e) in
    record {
      short = stand.0;
      known = not-false _ stand.1.0;
      right = not-false _ stand.1.1.0;
      above = stand.1.1.1.0;
      open_still = stand.1.1.1.1.0;
      next = not-false _ stand.1.1.1.1.1.1.0;
      room = leb-false _ _ stand.1.1.1.1.1.1.1.0;
    }

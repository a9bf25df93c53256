-- What is picked was waiting, and what waits was queued.
use Rattle.std.proofs.Common.{◌≡◌, ℕ, zero, suc, ◌⊎◌, inl, inr, List, [], ◌∷◌, ◌++◌, length, sym, subst, map, take, drop, filter, flat_map}
use Rattle.std.specs.Prelude.{◌==◌}
use Rattle.std.proofs.lemmas.Bool.{cond_both}
use Rattle.protocol.specs.Values.{Tx, Item, item, Standing, fits, left_by, keeps_limits}
use Rattle.protocol.specs.Messages.{◌∈◌}
use Rattle.protocol.specs.Queues.{Queue, pick, queued, all_waiting, turns, longest, drop_delivered, still_waiting, going_on, is_above, standing_of}
use Rattle.protocol.proofs.Membership.{in_append, in_left, in_right, in_map, in_flat_map, flat_map_in, in_filter, in_take, in_drop}

in_turns : (n : ℕ) (t : Tx) (qs : List (List Tx)) → t ∈ turns n qs → (q : List Tx) × (q ∈ qs) × (t ∈ q)
in_turns zero t qs k = absurd k
in_turns (suc n) t qs k = elim (in_append t (flat_map (take 1) qs) (turns n (map (drop 1) qs)) k) [
  | inl l ↦ (let a = in_flat_map (take 1) t qs l in (a.0, a.1, in_take 1 t a.0 a.2))
  | inr l ↦ (let a = in_turns n t (map (drop 1) qs) l in let b = in_map (drop 1) a.0 qs a.1 in (b.0, b.1, in_drop 1 t b.0 (subst (λ (z : List Tx). t ∈ z) (sym b.2) a.2)))
]

in_longest : (n : ℕ) (t : Tx) (txs : List Tx) → t ∈ longest n txs → t ∈ txs
in_longest zero t txs k = absurd k
in_longest (suc n) t txs k = cond_both (keeps_limits (record { txs = take (suc n) txs })) (take (suc n) txs) (longest n txs) (λ l. t ∈ l → t ∈ txs) (λ _. in_take (suc n) t txs) (λ _. in_longest n t txs) k

pub picked_waits : (qs : List Queue) (t : Tx) → t ∈ (pick qs).txs → t ∈ all_waiting qs
unfolding pick
picked_waits qs t k =
    let a = in_turns (length (all_waiting qs)) t (map (λ (q : Queue). q.waiting) qs) (in_longest 256 t (turns (length (all_waiting qs)) (map (λ (q : Queue). q.waiting) qs)) k) in
    let b = in_map (λ (q : Queue). q.waiting) a.0 qs a.1 in
    flat_map_in (λ (q : Queue). q.waiting) t b.0 qs b.1 (subst (λ (z : List Tx). t ∈ z) (sym b.2) a.2)

pub queued_in : (u t : Tx) (qs : List Queue) → t ∈ all_waiting (queued u qs) → (t ≡ u) ⊎ (t ∈ all_waiting qs)
queued_in u t [] (inl e) = inl e
queued_in u t [] (inr e) = absurd e
queued_in u t (q ∷ qs) k = cond_both (q.client == u.client) (record q { waiting = q.waiting ++ u ∷ [] } ∷ qs) (q ∷ queued u qs) (λ l. t ∈ all_waiting l → (t ≡ u) ⊎ (t ∈ all_waiting (q ∷ qs)))
    (λ _ i. elim (in_append t (q.waiting ++ u ∷ []) (all_waiting qs) i) [
      | inl l ↦ (elim (in_append t q.waiting (u ∷ []) l) [ inl m ↦ inr (in_left t q.waiting (all_waiting qs) m) | inr (inl m) ↦ inl m | inr (inr m) ↦ absurd m ])
      | inr l ↦ inr (in_right t q.waiting (all_waiting qs) l)
    ])
    (λ _ i. elim (in_append t q.waiting (all_waiting (queued u qs)) i) [
      | inl l ↦ inr (in_left t q.waiting (all_waiting qs) l)
      | inr l ↦ (elim (queued_in u t qs l) [ inl m ↦ inl m | inr m ↦ inr (in_right t q.waiting (all_waiting qs) m) ])
    ]) k

kept_in : (s : Standing) (t : Tx) (ts : List Tx) → t ∈ going_on s ts → t ∈ ts
kept_in s t [] k = absurd k
kept_in s t (u ∷ ts) k = cond_both (fits s (item u)) (u ∷ going_on (left_by (item u)) ts) [] (λ l. t ∈ l → t ∈ (u ∷ ts)) (λ _ i. elim i [ inl e ↦ inl e | inr m ↦ inr (kept_in (left_by (item u)) t ts m) ]) (λ _ i. absurd i) k

pub dropped_in : (d : List Item) (t : Tx) (qs : List Queue) → t ∈ all_waiting (drop_delivered d qs) → t ∈ all_waiting qs
dropped_in d t [] k = absurd k
dropped_in d t (q ∷ qs) k = elim (in_append t (still_waiting (standing_of q.client d) q.waiting) (all_waiting (drop_delivered d qs)) k) [
  | inl l ↦ in_left t q.waiting (all_waiting qs) (in_filter (is_above (standing_of q.client d)) t q.waiting (kept_in (standing_of q.client d) t (filter (is_above (standing_of q.client d)) q.waiting) l))
  | inr l ↦ in_right t q.waiting (all_waiting qs) (dropped_in d t qs l)
]

-- Taking in turn, one transaction after the other: of the first queue, which then goes to the end.
use Rattle.std.proofs.Common.{◌≡◌, ℕ, zero, suc, ◌+◌, ◌<◌, ◌≤◌, All, Bool, true, false, List, [], ◌∷◌, ◌++◌, length, map, filter, take, drop, refl, sym, ap, ◌∙◌, arith}
use Rattle.std.specs.Borrow.{Bor}
use Rattle.std.specs.List.{flat_map, AllByRecursion}
use Rattle.std.proofs.lemmas.Grind.{flat_map-append}
use Rattle.std.proofs.lemmas.List.{append-nil, append_assoc, map-append, length-append, map_push, nil_from_length}
use Rattle.std.proofs.lemmas.List.Elements.{All-from_recursion}
use Rattle.protocol.specs.Values.{Tx}
use Rattle.protocol.specs.Queues.{Queue, turns, all_waiting}
use Rattle.mempool.specs.Turns.{in_turn}

abbrev firsts : List (List Tx) → List Tx
firsts qs = flat_map (take 1) qs

abbrev rests : List (List Tx) → List (List Tx)
rests qs = map (drop 1) qs

-- no queue is longer than this
abbrev AreWithin : ℕ → List (List Tx) → Type 0
AreWithin n [] = Unit {0}
AreWithin n (q ∷ qs) = (length q ≤ n) × AreWithin n qs

-- ---- how many turns are enough

rest_within : (n : ℕ) (q : List Tx) → length q ≤ suc n → length (drop 1 q) ≤ n
rest_within n [] h = omega arith
rest_within n (t ∷ ts) h = omega arith

rests_within : (n : ℕ) (qs : List (List Tx)) → AreWithin (suc n) qs → AreWithin n (rests qs)
rests_within n [] h = tt
rests_within n (q ∷ qs) h = (rest_within n q h.0, rests_within n qs h.1)

within_pushed : (n : ℕ) (qs : List (List Tx)) (q : List Tx) → AreWithin n qs → length q ≤ n → AreWithin n (qs ++ q ∷ [])
within_pushed n [] q h k = (k, tt)
within_pushed n (r ∷ qs) q h k = (h.0, within_pushed n qs q h.1 k)

within_more : (m n : ℕ) (qs : List (List Tx)) → m ≤ n → AreWithin m qs → AreWithin n qs
within_more m n [] le h = tt
within_more m n (q ∷ qs) le h = (omega (arith, h.0), within_more m n qs le h.1)

all_within : (qs : List (List Tx)) → AreWithin (length (flat_map (λ (q : List Tx). q) qs)) qs
all_within [] = tt
all_within (q ∷ qs) =
    let joined = length-append q (flat_map (λ (r : List Tx). r) qs) in
    (omega (arith, joined), within_more _ _ qs (omega (arith, joined)) (all_within qs))

none_first : (q : List Tx) → length q ≤ 0 → take 1 q ≡ []
none_first [] h = refl
none_first (t ∷ ts) h = absurd (omega arith)

none_left : (qs : List (List Tx)) → AreWithin 0 qs → firsts qs ≡ []
none_left [] h = refl
none_left (q ∷ qs) h = rw (none_first q h.0, none_left qs h.1) refl

-- where enough turns are taken, one more takes nothing
one_more_turn : (n : ℕ) (qs : List (List Tx)) → AreWithin n qs → turns (suc n) qs ≡ turns n qs
one_more_turn zero qs h = rw (none_left qs h) refl
one_more_turn (suc n) qs h = ap (λ (ts : List Tx). firsts qs ++ ts) (one_more_turn n (rests qs) (rests_within n qs h))

-- ---- empty queues

skip_first : (n : ℕ) (qs : List (List Tx)) → turns n ([] ∷ qs) ≡ turns n qs
skip_first zero qs = refl
skip_first (suc n) qs = ap (λ (ts : List Tx). firsts qs ++ ts) (skip_first n (rests qs))

firsts_pushed : (qs : List (List Tx)) (q : List Tx) → firsts (qs ++ q ∷ []) ≡ firsts qs ++ take 1 q
firsts_pushed qs q = flat_map-append (take 1) qs (q ∷ []) ∙ ap (λ (ts : List Tx). firsts qs ++ ts) (append-nil (take 1 q))

skip_last : (n : ℕ) (qs : List (List Tx)) → turns n (qs ++ [] ∷ []) ≡ turns n qs
skip_last zero qs = refl
skip_last (suc n) qs = rw (firsts_pushed qs [], append-nil (firsts qs), map-append (drop 1) qs ([] ∷ [])) (ap (λ (ts : List Tx). firsts qs ++ ts) (skip_last n (rests qs)))

-- ---- the first queue goes to the end

rotated : (n : ℕ) (q : List Tx) (qs : List (List Tx)) → AreWithin n (q ∷ qs) → turns n (q ∷ qs) ≡ take 1 q ++ turns n (qs ++ drop 1 q ∷ [])
rotated zero q qs h = rw (none_first q h.0) refl
rotated (suc n) [] qs h = skip_first (suc n) qs ∙ sym (skip_last (suc n) qs)
rotated (suc n) (t ∷ ts) qs h =
    let rest = rotated n ts (rests qs) (rests_within n ((t ∷ ts) ∷ qs) h) in
    ap (λ (us : List Tx). t ∷ us) (ap (λ (us : List Tx). firsts qs ++ us) rest ∙ sym (append_assoc (firsts qs) (take 1 ts) (turns n (rests qs ++ drop 1 ts ∷ []))) ∙ sym (rw (firsts_pushed qs ts, map-append (drop 1) qs (ts ∷ [])) refl))

total_pushed : (qs : List (List Tx)) (q : List Tx) → length (flat_map (λ (r : List Tx). r) (qs ++ q ∷ [])) ≡ length q + length (flat_map (λ (r : List Tx). r) qs)
total_pushed qs q = ap length (flat_map-append (λ (r : List Tx). r) qs (q ∷ [])) ∙ omega (arith, length-append (flat_map (λ (r : List Tx). r) qs) (q ++ []), length-append q [])

pub in_turn-cons : (t : Tx) (ts : List Tx) (qs : List (List Tx)) → in_turn ((t ∷ ts) ∷ qs) ≡ t ∷ in_turn (qs ++ ts ∷ [])
unfolding in_turn
in_turn-cons t ts qs =
    let total : length (ts ++ flat_map (λ (q : List Tx). q) qs) ≡ length (flat_map (λ (q : List Tx). q) (qs ++ ts ∷ [])) = length-append ts (flat_map (λ (q : List Tx). q) qs) ∙ sym (total_pushed qs ts) in
    ap (λ (n : ℕ). turns (suc n) ((t ∷ ts) ∷ qs)) total
    ∙ rotated (suc (length (flat_map (λ (q : List Tx). q) (qs ++ ts ∷ [])))) (t ∷ ts) qs (within_more _ _ ((t ∷ ts) ∷ qs) (omega (arith, total)) (all_within ((t ∷ ts) ∷ qs)))
    ∙ ap (λ (us : List Tx). t ∷ us) (one_more_turn _ (qs ++ ts ∷ []) (all_within (qs ++ ts ∷ [])))

pub in_turn-nil : (qs : List (List Tx)) → in_turn (qs ++ [] ∷ []) ≡ in_turn qs
unfolding in_turn
in_turn-nil qs = ap (λ (n : ℕ). turns n (qs ++ [] ∷ [])) (total_pushed qs [] ∙ omega arith) ∙ skip_last (length (flat_map (λ (q : List Tx). q) qs)) qs

-- ---- queues that are not empty

abbrev pub is_nonempty : List Tx → Bool
is_nonempty [] = false
is_nonempty (t ∷ ts) = true

abbrev pub nonempty : List (List Tx) → List (List Tx)
nonempty qs = filter is_nonempty qs

passing : (qs : List (List Tx)) → AllByRecursion (λ (q : List Tx). 0 < length q) (nonempty qs)
passing [] = tt
passing ([] ∷ qs) = passing qs
passing ((t ∷ ts) ∷ qs) = (omega arith, passing qs)

total_nonempty : (qs : List (List Tx)) → flat_map (λ (q : List Tx). q) (nonempty qs) ≡ flat_map (λ (q : List Tx). q) qs
total_nonempty [] = refl
total_nonempty ([] ∷ qs) = total_nonempty qs
total_nonempty ((t ∷ ts) ∷ qs) = ap (λ (us : List Tx). t ∷ (ts ++ us)) (total_nonempty qs)

firsts_nonempty : (qs : List (List Tx)) → firsts (nonempty qs) ≡ firsts qs
firsts_nonempty [] = refl
firsts_nonempty ([] ∷ qs) = firsts_nonempty qs
firsts_nonempty ((t ∷ ts) ∷ qs) = ap (λ (us : List Tx). t ∷ us) (firsts_nonempty qs)

rests_nonempty : (qs : List (List Tx)) → nonempty (rests (nonempty qs)) ≡ nonempty (rests qs)
rests_nonempty [] = refl
rests_nonempty ([] ∷ qs) = rests_nonempty qs
rests_nonempty ((t ∷ []) ∷ qs) = rests_nonempty qs
rests_nonempty ((t ∷ u ∷ ts) ∷ qs) = ap (λ (rs : List (List Tx)). (u ∷ ts) ∷ rs) (rests_nonempty qs)

turns_nonempty : (n : ℕ) (qs : List (List Tx)) → turns n (nonempty qs) ≡ turns n qs
turns_nonempty zero qs = refl
turns_nonempty (suc n) qs = rw (firsts_nonempty qs) (ap (λ (ts : List Tx). firsts qs ++ ts)
    (sym (turns_nonempty n (rests (nonempty qs))) ∙ ap (turns n) (rests_nonempty qs) ∙ turns_nonempty n (rests qs)))

pub in_turn-nonempty : (qs : List (List Tx)) → in_turn (nonempty qs) ≡ in_turn qs
unfolding in_turn
in_turn-nonempty qs = ap (λ (ts : List Tx). turns (length ts) (nonempty qs)) (total_nonempty qs) ∙ turns_nonempty (length (flat_map (λ (q : List Tx). q) qs)) qs

waiting_joined : (queues : List Queue) → flat_map (λ (q : List Tx). q) (map (λ (q : Queue). q.waiting) queues) ≡ all_waiting queues
waiting_joined [] = refl
waiting_joined (q ∷ queues) = ap (λ (ts : List Tx). q.waiting ++ ts) (waiting_joined queues)

pub in_turn-queues : (queues : List Queue) → in_turn (map (λ (q : Queue). q.waiting) queues) ≡ turns (length (all_waiting queues)) (map (λ (q : Queue). q.waiting) queues)
unfolding in_turn
in_turn-queues queues = ap (λ (ts : List Tx). turns (length ts) (map (λ (q : Queue). q.waiting) queues)) (waiting_joined queues)

-- ---- queues behind references

abbrev seen : List (Bor (List Tx)) → List (List Tx)
seen queues = map (λ (q : Bor (List Tx)). q.now) queues

pub in_turn_none : (queues : List (Bor (List Tx))) → queues ≡ [] → in_turn (seen queues) ≡ []
unfolding in_turn
in_turn_none queues e = rw e refl

module _ (queues others : List (Bor (List Tx))) (q : Bor (List Tx)) (t : Tx) (ts : Bor (List Tx)) (first : queues ≡ q ∷ others) (parts : q.now ≡ t ∷ ts.now) where
  taken : in_turn (seen queues) ≡ t ∷ in_turn (seen others ++ ts.now ∷ [])
  taken = ap (λ (qs : List (Bor (List Tx))). in_turn (seen qs)) first ∙ ap (λ (r : List Tx). in_turn (r ∷ seen others)) parts ∙ in_turn-cons t ts.now (seen others)

  -- the rest of the first queue goes to the end
  pub taken_on : (after : List (Bor (List Tx))) → after ≡ others ++ ts ∷ [] → in_turn (seen queues) ≡ t ∷ in_turn (seen after)
  taken_on after e = taken ∙ ap (λ (us : List Tx). t ∷ us) (sym (ap (λ (qs : List (Bor (List Tx))). in_turn (seen qs)) e ∙ ap in_turn (map_push (λ (r : Bor (List Tx)). r.now) others ts)))

  -- nothing is left of it
  pub taken_last : length ts.now ≡ 0 → in_turn (seen queues) ≡ t ∷ in_turn (seen others)
  taken_last e = taken ∙ ap (λ (us : List Tx). t ∷ us) (ap (λ (r : List Tx). in_turn (seen others ++ r ∷ [])) (nil_from_length ts.now e) ∙ in_turn-nil (seen others))

each_passes : (queues : List (Bor (List Tx))) → AllByRecursion (λ (q : List Tx). 0 < length q) (seen queues) → AllByRecursion (λ (q : Bor (List Tx)). 0 < length q.now) queues
each_passes [] h = tt
each_passes (q ∷ queues) h = (h.0, each_passes queues h.1)

pub each_nonempty : (queues : List (Bor (List Tx))) (qs : List (List Tx)) → seen queues ≡ nonempty qs → All (λ (q : Bor (List Tx)). 0 < length q.now) queues
each_nonempty queues qs e = All-from_recursion (λ (q : Bor (List Tx)). 0 < length q.now) queues (each_passes queues (rw e (passing qs)))

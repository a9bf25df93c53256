-- The clients' queues at a validator.
use Rattle.std.specs.Prelude.{ℕ, zero, suc, Bool, true, false, cond, ◌&&◌, ◌||◌, List, [], ◌∷◌, ◌++◌, map, length, ◌==◌, nat_lt, filter, flat_map, take, drop}
use Rattle.protocol.specs.Values.{Tx, Value, Item, item, Standing, fresh, fits, left_by, left_after, keeps_limits, of}
pub use Rattle.protocol.specs.State.{Queue}

-- one transaction of each queue in turn, again and again, this many times
abbrev pub turns : ℕ → List (List Tx) → List Tx
turns zero queues = []
turns (suc n) queues = flat_map (take 1) queues ++ turns n (map (drop 1) queues)

-- the longest beginning, of at most this length, within a value's limits
abbrev pub longest : ℕ → List Tx → List Tx
longest zero txs = []
longest (suc n) txs = cond (keeps_limits (record { txs = take (suc n) txs })) (take (suc n) txs) (longest n txs)

abbrev pub all_waiting : List Queue → List Tx
all_waiting queues = flat_map (λ (q : Queue). q.waiting) queues

unfoldable pub pick : List Queue → Value
pick queues = record { txs = longest 256 (turns (length (all_waiting queues)) (map (λ (q : Queue). q.waiting) queues)) }

-- where the client stands after this list
abbrev pub standing_of : ℕ → List Item → Standing
standing_of client d = left_after fresh (of client d)

abbrev pub waiting_of : ℕ → List Queue → List Tx
waiting_of client queues = flat_map (λ (q : Queue). q.waiting) (filter (λ (q : Queue). q.client == client) queues)

-- the transaction goes to its queue's end
abbrev pub queued : Tx → List Queue → List Queue
queued t [] = record { client = t.client; waiting = t ∷ [] } ∷ []
queued t (q ∷ qs) = cond (q.client == t.client) (record q { waiting = q.waiting ++ t ∷ [] } ∷ qs) (q ∷ queued t qs)

-- session and number are above those that the client left
abbrev pub is_above : Standing → Tx → Bool
is_above s t = nat_lt s.session t.session || ((t.session == s.session) && nat_lt s.last t.number)

-- up to the first that isn't the next after those before it
abbrev pub going_on : Standing → List Tx → List Tx
going_on s [] = []
going_on s (t ∷ ts) = cond (fits s (item t)) (t ∷ going_on (left_by (item t)) ts) []

-- of what waits, what is above the last that is delivered, as far as it goes on from there
abbrev pub still_waiting : Standing → List Tx → List Tx
still_waiting s waiting = going_on s (filter (is_above s) waiting)

abbrev pub drop_delivered : List Item → List Queue → List Queue
drop_delivered d queues = map (λ (q : Queue). record q { waiting = still_waiting (standing_of q.client d) q.waiting }) queues

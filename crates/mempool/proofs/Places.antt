-- The clients' queues as the entries of a map.
use Rattle.std.proofs.Common.{◌≡◌, ℕ, zero, suc, ◌+◌, ◌<◌, length, get_or, take, drop, slice_get, Bool, true, false, eqb, List, [], ◌∷◌, ◌++◌, map, Option, Some, None, is_some, option_map, inl, inr, refl, sym, ap, ◌∙◌, arith}
use Rattle.std.specs.Global.{Vec}
use Rattle.std.specs.List.{AllByRecursion, IsDistinct}
use Rattle.std.specs.Map.{keys_of, values_of, lookup, set_value}
use Rattle.std.proofs.lemmas.Bool.{cases_Bool, eqb-true, eq-eqb, eqb-false, ne_eqb}
use Rattle.std.proofs.lemmas.List.{append-nil, append_assoc, map-append, length-map, length-take, take_more, drop_more}
use Rattle.std.proofs.lemmas.Map.{NonePasses, none_passes_from_lookup}
use Rattle.std.specs.Cmp.{nat_eq_equiv}
use Rattle.indexmap.proofs.MapLemmas.{absent_before}
use Rattle.indexmap.specs.IndexMap.{set_value_at}
use Rattle.protocol.specs.Values.{Tx, Item}
use Rattle.protocol.specs.Queues.{Queue, queued, waiting_of, drop_delivered, standing_of, still_waiting}

flipped : (a b : ℕ) (same : Bool) → eqb a b ≡ same → eqb b a ≡ same
flipped a b true e = eq-eqb b a (sym (eqb-true a b e))
flipped a b false e = ne_eqb b a (λ same. eqb-false a b e (sym same))

-- what a vector has
abbrev pub txs_in : Vec Tx → List Tx
txs_in v = v.items

pub none_found : {V : Type 0} (o : Option V) → false ≡ is_some o → o ≡ None
none_found None e = refl
none_found (Some v) e = absurd (cc)

-- V has a client's waiting transactions
module _ {V : Type 0} (txs : V → List Tx) where
  abbrev pub queue_of : ℕ × V → Queue
  queue_of e = record { client = e.0; waiting = txs e.1 }

  abbrev pub queues_of : List (ℕ × V) → List Queue
  queues_of es = map queue_of es

  -- ---- what waits

  none_waits : (client : ℕ) (es : List (ℕ × V)) → NonePasses (eqb client) es → waiting_of client (queues_of es) ≡ []
  none_waits client [] h = refl
  none_waits client (e ∷ es) h = rw (flipped client e.0 false h.0) (none_waits client es h.1)

  pub waiting_none : (client : ℕ) (es : List (ℕ × V)) → lookup (eqb client) es ≡ None → waiting_of client (queues_of es) ≡ []
  waiting_none client es e = none_waits client es (none_passes_from_lookup (eqb client) es e)

  others_differ : (client : ℕ) (key : ℕ) (es : List (ℕ × V)) → eqb client key ≡ true → AllByRecursion (λ other. eqb key other ≡ false) (keys_of es) → NonePasses (eqb client) es
  others_differ client key [] same h = tt
  others_differ client key (e ∷ es) same h = (rw (eqb-true client key same) h.0, others_differ client key es same h.1)

  pub waiting_found : (client : ℕ) (es : List (ℕ × V)) (v : V) → IsDistinct eqb (keys_of es) → lookup (eqb client) es ≡ Some v → waiting_of client (queues_of es) ≡ txs v
  unfolding IsDistinct
  waiting_found client [] v distinct found = absurd (cc)
  waiting_found client (e ∷ es) v distinct found = elim (cases_Bool (eqb client e.0)) [
    | inl y ↦ (
        let same : Some e.1 ≡ Some v = rw y at found in
        let value : e.1 ≡ v = cc in
        rw (flipped client e.0 true y, none_waits client es (others_differ client e.0 es y distinct.0)) (append-nil (txs e.1) ∙ ap txs value))
    | inr n ↦ (
        let later : lookup (eqb client) es ≡ Some v = rw n at found in
        rw (flipped client e.0 false n) (waiting_found client es v distinct.1 later))
  ]

  -- ---- one transaction more

  module _ (t : Tx) (v : V) where
    queued_last : (es : List (ℕ × V)) → NonePasses (eqb t.client) es → txs v ≡ t ∷ [] → queues_of (es ++ (t.client, v) ∷ []) ≡ queued t (queues_of es)
    queued_last [] h e = rw e refl
    queued_last (x ∷ es) h e = rw (flipped t.client x.0 false h.0) (ap (λ (qs : List Queue). queue_of x ∷ qs) (queued_last es h.1 e))

    pub queued_new : (es : List (ℕ × V)) → lookup (eqb t.client) es ≡ None → txs v ≡ t ∷ [] → queues_of (es ++ (t.client, v) ∷ []) ≡ queued t (queues_of es)
    queued_new es none e = queued_last es (none_passes_from_lookup (eqb t.client) es none) e

    pub queued_found : (es : List (ℕ × V)) (old : V) → lookup (eqb t.client) es ≡ Some old → txs v ≡ txs old ++ t ∷ [] → queues_of (set_value (eqb t.client) es v) ≡ queued t (queues_of es)
    queued_found [] old found e = absurd (cc)
    queued_found (x ∷ es) old found e = elim (cases_Bool (eqb t.client x.0)) [
      | inl y ↦ (
          let same : Some x.1 ≡ Some old = rw y at found in
          let value : x.1 ≡ old = cc in
          rw (y, flipped t.client x.0 true y, e, value) refl)
      | inr n ↦ (
          let later : lookup (eqb t.client) es ≡ Some old = rw n at found in
          rw (n, flipped t.client x.0 false n) (ap (λ (qs : List Queue). queue_of x ∷ qs) (queued_found es old later e)))
    ]

  -- a queue that is left as it was
  pub queue_stays : (client : ℕ) (es : List (ℕ × V)) (old v : V) → lookup (eqb client) es ≡ Some old → txs v ≡ txs old → queues_of (set_value (eqb client) es v) ≡ queues_of es
  queue_stays client [] old v found e = absurd (cc)
  queue_stays client (x ∷ es) old v found e = elim (cases_Bool (eqb client x.0)) [
    | inl y ↦ (
        let same : Some x.1 ≡ Some old = rw y at found in
        let value : x.1 ≡ old = cc in
        rw (y, e, value) refl)
    | inr n ↦ (
        let later : lookup (eqb client) es ≡ Some old = rw n at found in
        rw n (ap (λ (qs : List Queue). queue_of x ∷ qs) (queue_stays client es old v later e)))
  ]

  -- ---- the queues in order of their places

  pub waiting_lists : (es : List (ℕ × V)) → map (λ (q : Queue). q.waiting) (queues_of es) ≡ map txs (values_of es)
  waiting_lists [] = refl
  waiting_lists (e ∷ es) = ap (λ (lists : List (List Tx)). txs e.1 ∷ lists) (waiting_lists es)

  -- what a write at a place leaves
  record Written (before : List Queue) (q : Queue) (behind : List Queue) (es : List (ℕ × V)) (i : ℕ) (key : ℕ) (old v : V) : Type 0 where
    whose : q.client ≡ key
    had : q.waiting ≡ txs old
    after : queues_of (set_value_at es i v) ≡ before ++ record q { waiting = txs v } ∷ behind

  written : (before : List Queue) (q : Queue) (behind : List Queue) (es : List (ℕ × V)) (i : ℕ) (key : ℕ) (old v : V) → queues_of es ≡ before ++ q ∷ behind → length before ≡ i → slice_get (values_of es) i ≡ Some old
      → option_map (λ (e : ℕ × V). e.0) (slice_get es i) ≡ Some key → Written before q behind es i key old v
  written [] q behind [] i key old v e n at own = absurd (cc)
  written [] q behind (x ∷ es) zero key old v e n at own =
      let head : queue_of x ≡ q = cc in
      let tail : queues_of es ≡ behind = cc in
      let value : x.1 ≡ old = cc in
      let client : x.0 ≡ key = cc in
      record { whose = ap (λ (r : Queue). r.client) (sym head) ∙ client; had = ap (λ (r : Queue). r.waiting) (sym head) ∙ ap txs value; after = rw (← head, ← tail) refl }
  written [] q behind (x ∷ es) (suc i) key old v e n at own = absurd (omega arith)
  written (b ∷ before) q behind [] i key old v e n at own = absurd (cc)
  written (b ∷ before) q behind (x ∷ es) zero key old v e n at own = absurd (omega arith)
  written (b ∷ before) q behind (x ∷ es) (suc i) key old v e n at own =
      let head : queue_of x ≡ b = cc in
      let tail : queues_of es ≡ before ++ q ∷ behind = cc in
      let rest = written before q behind es i key old v tail (omega arith) at own in
      record { whose = rest.whose; had = rest.had; after = rw (head, rest.after) refl }

  -- one queue more is gone over
  pub dropped_more : (d : List Item) (queues : List Queue) (es : List (ℕ × V)) (i : ℕ) (key : ℕ) (old v : V) → queues_of es ≡ drop_delivered d (take i queues) ++ drop i queues → i < length queues
      → slice_get (values_of es) i ≡ Some old → option_map (λ (e : ℕ × V). e.0) (slice_get es i) ≡ Some key → txs v ≡ still_waiting (standing_of key d) (txs old)
      → queues_of (set_value_at es i v) ≡ drop_delivered d (take (i + 1) queues) ++ drop (i + 1) queues
  dropped_more d queues es i key old v so_far lt at own kept =
      let nobody : Queue = record { client = 0; waiting = [] } in
      let q = get_or queues i nobody in
      let before = drop_delivered d (take i queues) in
      let left : Queue → Queue = λ (r : Queue). record r { waiting = still_waiting (standing_of r.client d) r.waiting } in
      let w = written before q (drop (i + 1) queues) es i key old v (so_far ∙ ap (λ (qs : List Queue). before ++ qs) (drop_more queues i nobody lt)) (omega (arith, length-map (take i queues) left, length-take i queues)) at own in
      let gone : record q { waiting = txs v } ≡ left q = rw (kept, w.had, w.whose) refl in
      let front : drop_delivered d (take (i + 1) queues) ≡ before ++ left q ∷ [] = ap (drop_delivered d) (take_more queues i nobody lt) ∙ map-append _ (take i queues) (q ∷ []) in
      w.after ∙ rw (gone, front) (sym (append_assoc before (left q ∷ []) (drop (i + 1) queues)))

  -- ---- a queue that is copied behind others

  clients_are : (es : List (ℕ × V)) → map (λ (q : Queue). q.client) (queues_of es) ≡ keys_of es
  clients_are [] = refl
  clients_are (e ∷ es) = ap (λ (keys : List ℕ). e.0 ∷ keys) (clients_are es)

  -- the next of a map's entries has a key that those before it don't have
  pub next_differs : (es rest all : List (ℕ × V)) (e : ℕ × V) → queues_of es ++ queues_of (e ∷ rest) ≡ queues_of all → IsDistinct eqb (keys_of all) → lookup (eqb e.0) es ≡ None
  next_differs es rest all e so_far distinct =
      let keys : keys_of (es ++ e ∷ rest) ≡ keys_of all = sym (clients_are (es ++ e ∷ rest)) ∙ ap (map (λ (q : Queue). q.client)) (map-append queue_of es (e ∷ rest) ∙ so_far) ∙ clients_are all in
      absent_before nat_eq_equiv es rest e (rw keys distinct)

  pub copied_more : (es rest : List (ℕ × V)) (e : ℕ × V) (v : V) → txs v ≡ txs e.1 → queues_of (es ++ (e.0, v) ∷ []) ++ queues_of rest ≡ queues_of es ++ queues_of (e ∷ rest)
  copied_more es rest e v same = ap (λ (qs : List Queue). qs ++ queues_of rest) (map-append queue_of es ((e.0, v) ∷ [])) ∙ append_assoc (queues_of es) (queues_of ((e.0, v) ∷ [])) (queues_of rest) ∙ rw same refl

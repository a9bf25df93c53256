-- How long transactions and values are, and how many of them a value has.
use Rattle.std.proofs.Common.{◌≡◌, ℕ, zero, suc, ◌+◌, ◌-◌, ◌*◌, ◌<◌, ◌≤◌, ◌⊎◌, inl, inr, true, false, leb, List, [], ◌∷◌, ◌++◌, length, map, take, get_or, refl, sym, ap, ◌∙◌, arith}
use Rattle.std.specs.List.{flat_map}
use Rattle.std.proofs.lemmas.Bool.{le-leb, lt-leb, and_from, and_right, cases_eq}
use Rattle.std.proofs.lemmas.Grind.{flat_map-append}
use Rattle.std.proofs.lemmas.List.{append-nil, append_assoc, length-append, take_all, take_at, nil_from_length}
use Rattle.std.proofs.Math.Seq.{take-append-add}
use Rattle.transactions.specs.Fields.{number_bytes}
use Rattle.transactions.specs.Grammar.{op_spelling, session_spelling, tx_fields_spelling, tx_body_spelling, tags_spelling, tx_spelling, value_spelling}
use Rattle.transactions.proofs.Formats.{length-number_bytes}
use Rattle.protocol.specs.Values.{Tx, Bytes, Value, keeps_limits}
use Rattle.protocol.specs.Queues.{Queue, longest, pick}
use Rattle.mempool.specs.Turns.{fitting, in_turn}
use Rattle.mempool.proofs.Rotation.{in_turn-queues}

-- ---- one transaction

pub joined_len : (tags : List (List ℕ)) → ((i : ℕ) → i < length tags → length (get_or tags i []) ≡ 32) → length (flat_map (λ (tag : List ℕ). tag) tags) ≡ 32 * length tags
joined_len [] each = refl
joined_len (tag ∷ tags) each =
    omega (arith, length-append tag (flat_map (λ (t : List ℕ). t) tags), joined_len tags (λ i lt. each (suc i) (omega arith)), each 0 (omega arith))

pub op_len : (contents : List ℕ) → length (op_spelling (Bytes contents)) ≡ 3 + length contents
op_len contents = omega (arith, length-append (number_bytes 2 (length contents)) contents, length-number_bytes 2 (length contents))

pub session_len : (session : ℕ) → 1 ≤ session → length (session_spelling session) ≡ 4
session_len zero h = absurd (omega arith)
session_len (suc before) h = length-number_bytes 4 (suc before)

pub tx_len : (t : Tx) → length (tx_spelling t) ≡ length (tags_spelling t.tags) + length (op_spelling t.op) + length (session_spelling t.session) + 11
unfolding tx_spelling tx_fields_spelling
tx_len t = omega (
  arith,
  length-append (tx_body_spelling t) (tags_spelling t.tags),
  length-number_bytes 2 t.client,
  length-number_bytes 8 t.number,
  length-append (number_bytes 2 t.client) (session_spelling t.session ++ (number_bytes 8 t.number ++ op_spelling t.op)),
  length-append (session_spelling t.session) (number_bytes 8 t.number ++ op_spelling t.op),
  length-append (number_bytes 8 t.number) (op_spelling t.op),
)

-- ---- several

abbrev pub size : List Tx → ℕ
size txs = length (value_spelling (record { txs = txs }))

size_is : (txs : List Tx) → size txs ≡ 2 + length (flat_map tx_spelling txs)
unfolding value_spelling
size_is txs = omega (arith, length-append (number_bytes 2 (length txs)) (flat_map tx_spelling txs), length-number_bytes 2 (length txs))

pub size_none : size [] ≡ 2
size_none = size_is []

size_joined : (txs more : List Tx) → size (txs ++ more) ≡ size txs + length (flat_map tx_spelling more)
size_joined txs more = omega (arith, size_is (txs ++ more), size_is txs, ap length (flat_map-append tx_spelling txs more), length-append (flat_map tx_spelling txs) (flat_map tx_spelling more))

pub size_more : (txs : List Tx) (t : Tx) → size (txs ++ t ∷ []) ≡ size txs + length (tx_spelling t)
size_more txs t = omega (arith, size_joined txs (t ∷ []), length-append (tx_spelling t) [])

size_longer : (txs more : List Tx) → size txs ≤ size (txs ++ more)
size_longer txs more = omega (arith, size_joined txs more)

-- ---- the longest beginning

abbrev pub Fits : List Tx → Type 0
Fits txs = (length txs ≤ 256) × (size txs ≤ 500000)

pub fits_keeps : (txs : List Tx) → Fits txs → keeps_limits (record { txs = txs }) ≡ true
fits_keeps txs fits = and_from _ _ (le-leb _ _ fits.0) (le-leb _ _ fits.1)

-- what stands behind these transactions has no room in a value with them
abbrev pub HasNoRoom : List Tx → List Tx → Type 0
HasNoRoom txs [] = Unit {0}
HasNoRoom txs (t ∷ more) = 500000 < size (txs ++ t ∷ [])

too_long : (txs : List Tx) (t : Tx) (more : List Tx) → 500000 < size (txs ++ t ∷ []) → keeps_limits (record { txs = txs ++ t ∷ more }) ≡ false
too_long txs t more long =
    let whole : 500000 < size (txs ++ t ∷ more) = rw (sym (append_assoc txs (t ∷ []) more)) (omega (arith, size_longer (txs ++ t ∷ []) more)) in
    and_right (leb (length (txs ++ t ∷ more)) 256) _ (lt-leb _ _ whole)

module _ (txs : List Tx) (fits : Fits txs) where
  at_length : (n : ℕ) (more : List Tx) → length txs ≡ n → take n (txs ++ more) ≡ txs
  at_length n more e = take_at txs more n e

  -- as many transactions as there may be
  pub longest_many : (n : ℕ) (more : List Tx) → length txs ≡ n → longest n (txs ++ more) ≡ txs
  longest_many zero more e = sym (nil_from_length txs e)
  longest_many (suc n) more e = rw (at_length (suc n) more e, fits_keeps txs fits) refl

  -- as many as have room
  pub longest_fits : (n : ℕ) (more : List Tx) → length txs ≤ n → HasNoRoom txs more → longest n (txs ++ more) ≡ txs
  longest_fits zero more le room = longest_many zero more (omega arith)
  longest_fits (suc n) more le room = elim (cases_eq (length txs) (suc n)) [
    | inl e ↦ longest_many (suc n) more e
    | inr ne ↦ (let fewer : length txs ≤ n = omega arith in one_more more fewer room (longest_fits n more fewer room))
  ]
    where
      one_more : (us : List Tx) → length txs ≤ n → HasNoRoom txs us → longest n (txs ++ us) ≡ txs → longest (suc n) (txs ++ us) ≡ txs
      one_more [] fewer room rest =
          let all : take (suc n) (txs ++ []) ≡ txs = ap (take (suc n)) (append-nil txs) ∙ take_all (suc n) txs (omega arith) in
          rw (all, fits_keeps txs fits) refl
      one_more (t ∷ us) fewer room rest =
          let k = n - length txs in
          let long : suc n ≡ length txs + suc k = omega arith in
          let cut : take (suc n) (txs ++ t ∷ us) ≡ txs ++ t ∷ take k us = ap (λ (m : ℕ). take m (txs ++ t ∷ us)) long ∙ take-append-add txs (t ∷ us) (suc k) in
          let over : keeps_limits (record { txs = take (suc n) (txs ++ t ∷ us) }) ≡ false = ap (λ (ts : List Tx). keeps_limits (record { txs = ts })) cut ∙ too_long txs t (take k us) room in
          rw over rest

-- those taken are as many as there may be, or what is behind them has no room
pub fitting_is : (all txs more : List Tx) → all ≡ txs ++ more → Fits txs → (length txs ≡ 256) ⊎ HasNoRoom txs more → txs ≡ fitting all
unfolding fitting
fitting_is all txs more split fits stop = at 256 (omega arith) stop
  where
    at : (n : ℕ) → n ≡ 256 → (length txs ≡ 256) ⊎ HasNoRoom txs more → txs ≡ longest n all
    at n e (inl many) = sym (ap (longest n) split ∙ longest_many txs fits n more (omega arith))
    at n e (inr room) = sym (ap (longest n) split ∙ longest_fits txs fits n more (omega (arith, fits.0)) room)

abbrev whole : List Tx → Value
whole txs = record { txs = longest 256 txs }

pub pick_is : (queues : List Queue) → pick queues ≡ record { txs = fitting (in_turn (map (λ (q : Queue). q.waiting) queues)) }
unfolding pick fitting
pick_is queues = ap whole (sym (in_turn-queues queues))

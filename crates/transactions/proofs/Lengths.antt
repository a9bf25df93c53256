-- What has a length has a spelling, of that length.
use Rattle.std.proofs.Common.{◌≡◌, ℕ, zero, suc, ◌+◌, ◌*◌, ◌<◌, ◌≤◌, true, leb, List, [], ◌∷◌, ◌++◌, length, All, drop, get_or, Result, Ok, Err, refl, sym, ap, ◌∙◌, arith, length-append}
use Rattle.std.specs.Prelude.{IfOk, OnOk}
use Rattle.std.specs.Global.{Vec}
use Rattle.std.specs.List.{flat_map, AllByRecursion}
use Rattle.std.proofs.lemmas.Bool.{leb-true, le-leb, lt-leb, and_from}
use Rattle.std.proofs.lemmas.List.{drop_more, drop_all}
use Rattle.std.proofs.lemmas.List.Elements.{All-from_recursion}
use Rattle.transactions.specs.Fields.{number_bytes}
use Rattle.transactions.specs.declared.fault.Fault.{Fault}
use Rattle.transactions.specs.declared.fault.Fault.TheVariants.{Truncated, TooLong, BadSpelling, OutOfMemory, BadKind}
use Rattle.transactions.specs.declared.tx.Op.{Op}
use Rattle.transactions.specs.declared.tx.Op.TheVariants.{Bytes, Close}
use Rattle.transactions.specs.declared.tx.Tx.{Tx}
use Rattle.transactions.specs.declared.tx.Value.{Value}
use Rattle.transactions.specs.Fields.{◌>>=◌, ◌>>◌, ask, Fails, Gives}
use Rattle.transactions.specs.Grammar.{op_spelling, session_spelling, tx_fields_spelling, tx_body_spelling, tags_spelling, tx_spelling, value_spelling, IsOp, AreTags, IsTxBody, IsTx, IsValue, SpellsTx, SpellsValue}
use Rattle.transactions.specs.Checking.{op_len, session_len, tx_body_len, tags_len, tx_len, txs_len, value_len, tx_spelled, value_spelled}
use Rattle.transactions.proofs.Formats.{length-number_bytes, bind_ok, ask_ok, ok_is}

-- ---- what fits has a length, which is that of its spelling

op_has_length : (op : Op) → IsOp op → op_len op ≡ Ok (length (op_spelling op))
unfolding op_len
op_has_length (Bytes contents) h = rw (le-leb _ _ h) (ap (λ (n : ℕ). Ok n) (omega (arith, length-append (number_bytes 2 (length contents)) contents, length-number_bytes 2 (length contents))))
op_has_length Close h = refl

pub session_length : (session : ℕ) → length (session_spelling session) ≡ session_len session
session_length zero = refl
session_length (suc before) = length-number_bytes 4 (suc before)

body_length : (tx : Tx) → length (tx_body_spelling tx) ≡ 11 + session_len tx.session + length (op_spelling tx.op)
unfolding tx_fields_spelling
body_length tx = omega (
  arith,
  length-number_bytes 2 tx.client,
  session_length tx.session,
  length-number_bytes 8 tx.number,
  length-append (number_bytes 2 tx.client) (session_spelling tx.session ++ (number_bytes 8 tx.number ++ op_spelling tx.op)),
  length-append (session_spelling tx.session) (number_bytes 8 tx.number ++ op_spelling tx.op),
  length-append (number_bytes 8 tx.number) (op_spelling tx.op),
)

pub tx_body_has_length : (tx : Tx) → IsTxBody tx → tx_body_len tx ≡ Ok (length (tx_body_spelling tx))
unfolding tx_body_len
tx_body_has_length tx h =
    let e : tx_body_len tx ≡ Ok (11 + session_len tx.session + length (op_spelling tx.op)) = rw (le-leb _ _ h.client, and_from _ _ (le-leb _ _ h.first) (le-leb _ _ h.last), op_has_length tx.op h.op) refl in
    e ∙ ap (λ (n : ℕ). Ok n) (sym (body_length tx))

tags_length : (tags : List (List ℕ)) → AllByRecursion (λ tag. length tag ≡ 32) tags → length (flat_map (λ tag. tag) tags) ≡ 32 * length tags
tags_length [] each = refl
tags_length (tag ∷ tags) each = omega (arith, length-append tag (flat_map (λ t. t) tags), tags_length tags each.1, each.0)

pub tags_have_length : (tags : List (List ℕ)) → AreTags tags → tags_len tags ≡ Ok (length (tags_spelling tags))
unfolding tags_len tags_spelling
tags_have_length tags h = rw (le-leb _ _ h.few, le-leb _ _ h.some) (ap (λ (n : ℕ). Ok n) (omega (arith, tags_length tags h.each)))

pub tx_has_length : (tx : Tx) → IsTx tx → tx_len tx ≡ Ok (length (tx_spelling tx))
unfolding tx_len tx_spelling
tx_has_length tx h = rw (tx_body_has_length tx h.body, tags_have_length tx.tags h.tags) (ap (λ (n : ℕ). Ok n) (sym (length-append (tx_body_spelling tx) (tags_spelling tx.tags))))

tx_sized : (tx : Tx) (n : ℕ) → IsTx tx → tx_len tx ≡ Ok n → n ≡ length (tx_spelling tx)
tx_sized tx n h e = ok_is n (length (tx_spelling tx)) (sym e ∙ tx_has_length tx h)

-- ---- the transactions of a value, as the loop goes over them

abbrev rest_len : ℕ → Result ℕ Fault → List Tx → Result ℕ Fault
rest_len so_far first txs = first >>= λ len. ask (leb (so_far + len) 500000) TooLong >> txs_len (so_far + len) txs

pub txs_step : (so_far i : ℕ) (txs : List Tx) (tx : Tx) → i < length txs → tx ≡ get_or txs i tx → txs_len so_far (drop i txs) ≡ rest_len so_far (tx_len tx) (drop (i + 1) txs)
unfolding txs_len
txs_step so_far i txs tx lt is =
    let e : drop i txs ≡ tx ∷ drop (i + 1) txs = drop_more txs i tx lt ∙ ap (λ (t : Tx). t ∷ drop (i + 1) txs) (sym is) in
    ap (txs_len so_far) e

module _ (so_far i : ℕ) (txs : List Tx) (tx : Tx) (total : Result ℕ Fault) (lt : i < length txs) (is : tx ≡ get_or txs i tx) (so_good : txs_len so_far (drop i txs) ≡ total) where
  pub txs_fail : (e : Fault) → Err e ≡ tx_len tx → Err e ≡ total
  txs_fail e h = sym (sym so_good ∙ txs_step so_far i txs tx lt is ∙ ap (λ (r : Result ℕ Fault). rest_len so_far r (drop (i + 1) txs)) (sym h))

  pub txs_long : (len : ℕ) → Ok len ≡ tx_len tx → 500000 < so_far + len → Err TooLong ≡ total
  txs_long len h long =
      let past : rest_len so_far (Ok len) (drop (i + 1) txs) ≡ Err TooLong = rw (lt-leb _ _ long) refl in
      sym (sym so_good ∙ txs_step so_far i txs tx lt is ∙ ap (λ (r : Result ℕ Fault). rest_len so_far r (drop (i + 1) txs)) (sym h) ∙ past)

  pub txs_more : (len : ℕ) → Ok len ≡ tx_len tx → so_far + len ≤ 500000 → txs_len (so_far + len) (drop (i + 1) txs) ≡ total
  txs_more len h short =
      let within : rest_len so_far (Ok len) (drop (i + 1) txs) ≡ txs_len (so_far + len) (drop (i + 1) txs) = rw (le-leb _ _ short) refl in
      sym within ∙ ap (λ (r : Result ℕ Fault). rest_len so_far r (drop (i + 1) txs)) h ∙ sym (txs_step so_far i txs tx lt is) ∙ so_good

pub txs_done : (so_far i : ℕ) (txs : List Tx) (total : Result ℕ Fault) → length txs ≤ i → txs_len so_far (drop i txs) ≡ total → Ok so_far ≡ total
unfolding txs_len
txs_done so_far i txs total le so_good = sym (ap (txs_len so_far) (drop_all i txs le)) ∙ so_good

pub txs_sized : (so_far : ℕ) (txs : List Tx) (n : ℕ) → AllByRecursion IsTx txs → txs_len so_far txs ≡ Ok n → so_far ≤ 500000 → (n ≡ so_far + length (flat_map tx_spelling txs)) × (n ≤ 500000)
unfolding txs_len
txs_sized so_far [] n fits e le = let h = ok_is so_far n e in (omega arith, omega arith)
txs_sized so_far (tx ∷ txs) n fits e le =
    let a = bind_ok (tx_len tx) (λ len. ask (leb (so_far + len) 500000) TooLong >> txs_len (so_far + len) txs) n e in
    let b = ask_ok (leb (so_far + a.0) 500000) TooLong (txs_len (so_far + a.0) txs) n a.2 in
    let c = txs_sized (so_far + a.0) txs n fits.1 b.1 (leb-true _ _ b.0) in
    let d = tx_sized tx a.0 fits.0 a.1 in
    (omega (arith, c.0, d, length-append (tx_spelling tx) (flat_map tx_spelling txs)), c.1)

pub value_fits : (value : Value) (n : ℕ) → length value.txs ≤ 256 → AllByRecursion IsTx value.txs → txs_len 2 value.txs ≡ Ok n → IsValue value
unfolding value_spelling
value_fits value n few fits e =
    let s = txs_sized 2 value.txs n fits e (omega arith) in
    record { few = few; each = fits; short = omega (arith, s.0, s.1, length-append (number_bytes 2 (length value.txs)) (flat_map tx_spelling value.txs), length-number_bytes 2 (length value.txs)) }

txs_have_length : (so_far : ℕ) (txs : List Tx) → AllByRecursion IsTx txs → so_far + length (flat_map tx_spelling txs) ≤ 500000 → txs_len so_far txs ≡ Ok (so_far + length (flat_map tx_spelling txs))
unfolding txs_len
txs_have_length so_far [] fits short = ap (λ (n : ℕ). Ok n) (omega arith)
txs_have_length so_far (tx ∷ txs) fits short =
    let joined = length-append (tx_spelling tx) (flat_map tx_spelling txs) in
    let here : leb (so_far + length (tx_spelling tx)) 500000 ≡ true = le-leb _ _ (omega (arith, joined)) in
    let others = txs_have_length (so_far + length (tx_spelling tx)) txs fits.1 (omega (arith, joined)) in
    rw (tx_has_length tx fits.0, here, others) (ap (λ (n : ℕ). Ok n) (omega (arith, joined)))

pub value_has_length : (value : Value) → IsValue value → value_len value ≡ Ok (length (value_spelling value))
unfolding value_len value_spelling
value_has_length value h =
    let joined = length-append (number_bytes 2 (length value.txs)) (flat_map tx_spelling value.txs) in
    rw (le-leb _ _ h.few, txs_have_length 2 value.txs h.each (omega (arith, h.short, joined, length-number_bytes 2 (length value.txs)))) (ap (λ (n : ℕ). Ok n) (omega (arith, joined, length-number_bytes 2 (length value.txs))))

-- ---- what is spelled

pub all_fit : (value : Value) → IsValue value → All IsTx value.txs
all_fit value h = All-from_recursion IsTx value.txs h.each

pub fails_exactly : {Y : Type 0} (e : Fault) (r : Result Y Fault) → r ≡ Err e → Fails e r
fails_exactly OutOfMemory r h = tt
fails_exactly Truncated r h = h
fails_exactly TooLong r h = h
fails_exactly BadSpelling r h = h
fails_exactly BadKind r h = h

pub tx_only : (tx : Tx) (bytes : List ℕ) → SpellsTx bytes tx → tx_spelled tx ≡ Ok bytes
unfolding tx_spelled
tx_only tx bytes h = rw (tx_has_length tx h.lawful, ← h.same) refl

pub value_only : (value : Value) (bytes : List ℕ) → SpellsValue bytes value → value_spelled value ≡ Ok bytes
unfolding value_spelled
value_only value bytes h = rw (value_has_length value h.lawful, ← h.same) refl

pub tx_spelled_is : (tx : Tx) (n : ℕ) → tx_len tx ≡ Ok n → tx_spelled tx ≡ Ok (tx_spelling tx)
unfolding tx_spelled
tx_spelled_is tx n e = rw e refl

pub value_spelled_is : (value : Value) (n : ℕ) → value_len value ≡ Ok n → value_spelled value ≡ Ok (value_spelling value)
unfolding value_spelled
value_spelled_is value n e = rw e refl

pub tx_ok : (x : Tx) (r : Result (Vec ℕ) Fault) → OnOk r (IsTx x) → Gives (λ v. v.items) r (tx_spelled x) → IfOk r (λ v. SpellsTx v.items x)
unfolding tx_spelled
tx_ok x (Ok v) fits given =
    let a = bind_ok (tx_len x) (λ len. Ok (tx_spelling x)) v.items given in
    record { lawful = fits; same = sym (ok_is (tx_spelling x) v.items a.2) }
tx_ok x (Err e) fits given = tt

pub value_ok : (x : Value) (r : Result (Vec ℕ) Fault) → OnOk r (IsValue x) → Gives (λ v. v.items) r (value_spelled x) → IfOk r (λ v. SpellsValue v.items x)
unfolding value_spelled
value_ok x (Ok v) fits given =
    let a = bind_ok (value_len x) (λ len. Ok (value_spelling x)) v.items given in
    record { lawful = fits; same = sym (ok_is (value_spelling x) v.items a.2) }
value_ok x (Err e) fits given = tt

pub value_fits_if : (value : Value) (r : Result ℕ Fault) → length value.txs ≤ 256 → r ≡ txs_len 2 value.txs → OnOk r (AllByRecursion IsTx value.txs) → OnOk r (IsValue value)
value_fits_if value (Ok n) few e fits = value_fits value n few fits (sym e)
value_fits_if value (Err f) few e fits = tt

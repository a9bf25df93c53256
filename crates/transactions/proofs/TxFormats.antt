-- The formats of transactions and values.
use Rattle.std.proofs.Common.{◌≡◌, ℕ, zero, suc, ◌-◌, ◌^◌, ◌<◌, ◌≤◌, Bool, true, false, eqb, List, [], ◌∷◌, ◌++◌, length, Result, Ok, Err, refl, sym, ap, subst, ◌∙◌, append_assoc, arith, length-append}
use Rattle.std.specs.List.{flat_map, AllByRecursion}
use Rattle.std.specs.Prelude.{IfOk}
use Rattle.std.proofs.lemmas.Bool.{le-leb, leb-true, eqb-true}
use Rattle.std.proofs.lemmas.List.{append-nil, nil_from_length}
use Rattle.transactions.specs.Fields.{number_bytes}
use Rattle.transactions.specs.declared.tx.Op.{Op}
use Rattle.transactions.specs.declared.tx.Op.TheVariants.{Bytes, Close}
use Rattle.transactions.specs.declared.fault.Fault.TheVariants.{TooLong}
use Rattle.transactions.specs.declared.fault.Fault.{Fault}
use Rattle.transactions.specs.declared.fault.Fault.TheVariants.{BadSpelling}
use Rattle.transactions.specs.declared.tx.Tx.{Tx}
use Rattle.transactions.specs.declared.tx.Value.{Value}
use Rattle.transactions.specs.Fields.{◌>>=◌, ◌>>◌, ask, Read, byte_at, number_at, limited, repeat, whole, Gives}
use Rattle.transactions.specs.Grammar.{op_spelling, is_later, kind_byte, tx_kind, session_spelling, tx_fields_spelling, tx_body_spelling, tags_spelling, tx_spelling, value_spelling, IsValue, IsOp, AreTags, IsTxBody, IsTx}
use Rattle.transactions.specs.Reading.{data_at, op_after, op_at, session_at, kind_after, tx_kind_at, tx_fields_at, tx_body_at, tag_count_at, tags_at, tx_at, is_within, value_at}
use Rattle.transactions.proofs.Formats.{length-number_bytes, IsBytes, IsFormat, Takes, Takes-then, bind_ok, ask_ok, ok_is, fits_as, spelled_as, built, field, field_that_fits, byte_format, bytes_format, u16_format, u32_format, u64_format, ranged_format, limited_format}

data_format : IsFormat (λ xs. length xs ≤ 1024) (λ xs. number_bytes 2 (length xs) ++ xs) data_at
unfolding data_at
data_format = fits_as _ (field {C = λ _. Unit {0}} {F = λ _. Unit {0}} (λ (xs : List ℕ). length xs) (limited_format 1024 u16_format) (λ n. fits_as _ (bytes_format n) (λ xs h. ((sym h, tt), tt)) (λ xs h. sym h.0.0)))
    (λ xs h. h.1.0.1) (λ xs h. (tt, ((omega arith, h), tt)))

Takes-cons : (b : ℕ) (bytes text rest : List ℕ) → Takes bytes text rest → Takes (b ∷ bytes) (b ∷ text) rest
Takes-cons b bytes text rest t = record { parts = ap (λ (w : List ℕ). b ∷ w) t.parts; rest_fits = t.rest_fits }

op_after_takes : (kind : ℕ) (bytes : List ℕ) (x : Op × List ℕ) → IsBytes bytes → op_after kind bytes ≡ Ok x → Takes (kind ∷ bytes) (op_spelling x.0) x.1 × IsOp x.0
unfolding op_after
op_after_takes zero bytes x fits e =
    let a = bind_ok (data_at bytes) (λ contents. Ok (Bytes contents.0, contents.1)) x e in
    let t = data_format.takes bytes a.0 fits a.1 in
    subst (λ (y : Op × List ℕ). Takes (0 ∷ bytes) (op_spelling y.0) y.1 × IsOp y.0) (ok_is (Bytes a.0.0, a.0.1) x a.2) (Takes-cons 0 bytes _ _ t.0, t.1)
op_after_takes (suc zero) bytes x fits e =
    subst (λ (y : Op × List ℕ). Takes (1 ∷ bytes) (op_spelling y.0) y.1 × IsOp y.0) (ok_is (Close, bytes) x e) (record { parts = refl; rest_fits = fits }, tt)
op_after_takes (suc (suc n)) bytes x fits e = absurd cc

op_again : (op : Op) (rest : List ℕ) → IsOp op → op_at (op_spelling op ++ rest) ≡ Ok (op, rest)
unfolding op_at op_after
op_again (Bytes contents) rest h = rw (data_format.again contents rest h) refl
op_again Close rest h = refl

op_format : IsFormat IsOp op_spelling op_at
unfolding op_at
op_format = record {
  takes = λ bytes x fits e.
      let a = bind_ok (byte_at bytes) (λ kind. op_after kind.0 kind.1) x e in
      let t = byte_format.takes bytes a.0 fits a.1 in
      let u = op_after_takes a.0.0 a.0.1 x t.0.rest_fits a.2 in
      (record { parts = t.0.parts ∙ u.0.parts; rest_fits = u.0.rest_fits }, u.1);
  again = op_again;
}

-- ---- sessions and kinds

later_spelled : (session : ℕ) → 1 ≤ session → (number_bytes 4 session ≡ session_spelling session) × (is_later session ≡ true)
later_spelled zero h = absurd (omega arith)
later_spelled (suc before) h = (refl, refl)

later_some : (session : ℕ) → is_later session ≡ true → 1 ≤ session
later_some zero h = absurd cc
later_some (suc before) h = omega arith

first_again : (session : ℕ) (rest : List ℕ) → is_later session ≡ false → session_at false (session_spelling session ++ rest) ≡ Ok (session, rest)
first_again zero rest h = refl
first_again (suc before) rest h = absurd cc

session_format : (later : Bool) → IsFormat (λ session. (session < 2 ^ 32) × (is_later session ≡ later)) session_spelling (session_at later)
session_format false = record {
  takes = λ bytes x fits e. subst (λ (y : ℕ × List ℕ). Takes bytes (session_spelling y.0) y.1 × ((y.0 < 2 ^ 32) × (is_later y.0 ≡ false))) (ok_is (0, bytes) x e) (record { parts = refl; rest_fits = fits }, (omega arith, refl));
  again = λ session rest h. first_again session rest h.1;
}
session_format true =
    let f = ranged_format 1 4294967295 u32_format in record {
      takes = λ bytes x fits e.
          let t = f.takes bytes x fits e in
          let s = later_spelled x.0 t.1.1.0 in
          (subst (λ (text : List ℕ). Takes bytes text x.1) s.0 t.0, (omega (arith, t.1.1.1), s.1));
      again = λ session rest h.
          let some = later_some session h.1 in
          subst (λ (text : List ℕ). session_at true (text ++ rest) ≡ Ok (session, rest)) (later_spelled session some).0 (f.again session rest (omega (arith, h.0), (some, omega (arith, h.0))));
    }

kind_after_takes : (kind : ℕ) (bytes : List ℕ) (x : Bool × List ℕ) → IsBytes bytes → kind_after kind bytes ≡ Ok x → Takes (kind ∷ bytes) (kind_byte x.0 ∷ []) x.1
kind_after_takes zero bytes x fits e = absurd cc
kind_after_takes (suc zero) bytes x fits e = subst (λ (y : Bool × List ℕ). Takes (1 ∷ bytes) (kind_byte y.0 ∷ []) y.1) (ok_is (false, bytes) x e) (record { parts = refl; rest_fits = fits })
kind_after_takes (suc (suc zero)) bytes x fits e = subst (λ (y : Bool × List ℕ). Takes (2 ∷ bytes) (kind_byte y.0 ∷ []) y.1) (ok_is (true, bytes) x e) (record { parts = refl; rest_fits = fits })
kind_after_takes (suc (suc (suc n))) bytes x fits e = absurd cc

kind_again : (later : Bool) (rest : List ℕ) → tx_kind_at (kind_byte later ∷ rest) ≡ Ok (later, rest)
unfolding tx_kind_at
kind_again false rest = refl
kind_again true rest = refl

kind_format : IsFormat (λ (later : Bool). Unit {0}) (λ later. kind_byte later ∷ []) tx_kind_at
unfolding tx_kind_at
kind_format = record {
  takes = λ bytes x fits e.
      let a = bind_ok (byte_at bytes) (λ kind. kind_after kind.0 kind.1) x e in
      let t = byte_format.takes bytes a.0 fits a.1 in
      let u = kind_after_takes a.0.0 a.0.1 x t.0.rest_fits a.2 in
      (record { parts = t.0.parts ∙ u.parts; rest_fits = u.rest_fits }, tt);
  again = λ later rest h. kind_again later rest;
}

tx_eq : (client session number : ℕ) (op : Op) (t : Tx) → op ≡ t.op → number ≡ t.number → session ≡ t.session → client ≡ t.client → t.tags ≡ [] → record { client = client; session = session; number = number; op = op; tags = [] } ≡ t
tx_eq client session number op t eo en es ec et = rw (eo, en, es, ec, ← et) refl

-- the fields of a transaction behind its kind; its tags stand apart
pub tx_fields_format : (later : Bool) → IsFormat (λ t. (IsTxBody t × (t.tags ≡ [])) × (is_later t.session ≡ later)) tx_fields_spelling (tx_fields_at later)
unfolding tx_fields_at tx_fields_spelling
tx_fields_format later =
    let fields = field {C = λ (t : Tx). t.tags ≡ []} (λ (t : Tx). t.client) (ranged_format 0 1023 u16_format) λ client.
    field (λ (t : Tx). t.session) (session_format later) λ session.
    field (λ (t : Tx). t.number) (ranged_format 1 (2 ^ 48) u64_format) λ number.
    field (λ (t : Tx). t.op) op_format λ op.
    built (record { client = client; session = session; number = number; op = op; tags = [] }) _ (refl, (refl, (refl, (refl, refl)))) (λ t h. tx_eq client session number op t h.0 h.1.0 h.1.1.0 h.1.1.1.0 h.1.1.1.1) in
    let same : (t : Tx) → number_bytes 2 t.client ++ (session_spelling t.session ++ (number_bytes 8 t.number ++ (op_spelling t.op ++ []))) ≡ tx_fields_spelling t =
    λ t. ap (λ (w : List ℕ). number_bytes 2 t.client ++ (session_spelling t.session ++ (number_bytes 8 t.number ++ w))) (append-nil (op_spelling t.op)) in
    fits_as _ (spelled_as tx_fields_spelling fields same)
    (λ t h. ((record { client = h.1.0.1.1; session = h.1.1.0.0; first = h.1.1.1.0.1.0; last = h.1.1.1.0.1.1; op = h.1.1.1.1.0 }, h.0), h.1.1.0.1))
    (λ t h. (h.0.1, (((omega (arith, h.0.0.client), (omega arith, h.0.0.client)), ((h.0.0.session, h.1), ((omega (arith, h.0.0.last), (h.0.0.first, h.0.0.last)), (h.0.0.op, tt)))))))

-- the body of a transaction
pub tx_body_format : IsFormat (λ t. IsTxBody t × (t.tags ≡ [])) tx_body_spelling tx_body_at
unfolding tx_body_at
tx_body_format = fits_as _ (field {C = λ _. Unit {0}} (λ (t : Tx). is_later t.session) kind_format
    λ later. fits_as (λ t. ((later ≡ is_later t.session) × Unit {0}) × (IsTxBody t × (t.tags ≡ []))) (tx_fields_format later) (λ t h. ((sym h.1, tt), h.0)) (λ t h. (h.1, sym h.0.0)))
    (λ t h. h.1.1) (λ t h. (tt, (tt, h)))

-- ---- many of one format

-- What is read fits; what follows it passed the test.
pub repeat_takes : {A : Type 0} {F : A → Type 0} {s : A → List ℕ} {read : List ℕ → Read A} (keeps : List ℕ → Bool) → IsFormat F s read → (n : ℕ) (bytes : List ℕ) (x : List A × List ℕ) → IsBytes bytes → repeat read keeps n bytes ≡ Ok x
    → Takes bytes (flat_map s x.0) x.1 × (n ≡ length x.0) × AllByRecursion F x.0 × (keeps bytes ≡ true → keeps x.1 ≡ true)
unfolding repeat
repeat_takes {F = F} {s = s} keeps f zero bytes x fits e =
    subst (λ y. Takes bytes (flat_map s y.0) y.1 × (0 ≡ length y.0) × AllByRecursion F y.0 × (keeps bytes ≡ true → keeps y.1 ≡ true)) (ok_is ([], bytes) x e) (record { parts = refl; rest_fits = fits }, refl, tt, λ h. h)
repeat_takes {A = A} {F = F} {s = s} {read = read} keeps f (suc n) bytes x fits e =
    let a = bind_ok (read bytes) (λ first. ask (keeps first.1) TooLong >> (repeat read keeps n first.1 >>= λ others. Ok (first.0 ∷ others.0, others.1))) x e in
    let g = ask_ok (keeps a.0.1) TooLong (repeat read keeps n a.0.1 >>= λ others. Ok (a.0.0 ∷ others.0, others.1)) x a.2 in
    let b = bind_ok (repeat read keeps n a.0.1) (λ others. Ok (a.0.0 ∷ others.0, others.1)) x g.1 in
    let t = f.takes bytes a.0 fits a.1 in
    let u = repeat_takes keeps f n a.0.1 b.0 t.0.rest_fits b.1 in
    let both = Takes-then bytes (s a.0.0) a.0.1 (flat_map s b.0.0) b.0.1 t.0 u.0 in
    subst (λ y. Takes bytes (flat_map s y.0) y.1 × (suc n ≡ length y.0) × AllByRecursion F y.0 × (keeps bytes ≡ true → keeps y.1 ≡ true)) {x = (a.0.0 ∷ b.0.0, b.0.1)} (ok_is (a.0.0 ∷ b.0.0, b.0.1) x b.2)
    (both, ap suc u.1, (t.1, u.2), λ h. u.3 g.0)

pub repeat_again : {A : Type 0} {F : A → Type 0} {s : A → List ℕ} {read : List ℕ → Read A} (keeps : List ℕ → Bool) → IsFormat F s read → (xs : List A) (rest : List ℕ) → AllByRecursion F xs
    → ((front back : List A) → xs ≡ front ++ back → keeps (flat_map s back ++ rest) ≡ true) → repeat read keeps (length xs) (flat_map s xs ++ rest) ≡ Ok (xs, rest)
unfolding repeat
repeat_again keeps f [] rest fits kept = refl
repeat_again {A = A} {s = s} {read = read} keeps f (x ∷ xs) rest fits kept =
    let regrouped : flat_map s (x ∷ xs) ++ rest ≡ s x ++ (flat_map s xs ++ rest) = append_assoc (s x) (flat_map s xs) rest in
    let first = f.again x (flat_map s xs ++ rest) fits.0 in
    let here : keeps (flat_map s xs ++ rest) ≡ true = kept (x ∷ []) xs refl in
    let others = repeat_again keeps f xs rest fits.1 (λ front back e. kept (x ∷ front) back (ap (λ (ys : List A). x ∷ ys) e)) in
    ap (repeat read keeps (suc (length xs))) regrouped ∙ rw (first, here, others) refl

pub repeat_format : {A : Type 0} {F : A → Type 0} {s : A → List ℕ} {read : List ℕ → Read A} (n : ℕ) → IsFormat F s read → IsFormat (λ xs. (n ≡ length xs) × AllByRecursion F xs) (λ xs. flat_map s xs) (repeat read (λ _. true) n)
repeat_format {A = A} {s = s} {read = read} n f = record {
  takes = λ bytes x fits e. let t = repeat_takes (λ _. true) f n bytes x fits e in (t.0, (t.1, t.2));
  again = λ xs rest h. subst (λ (k : ℕ). repeat read (λ _. true) k (flat_map s xs ++ rest) ≡ Ok (xs, rest)) (sym h.0) (repeat_again (λ _. true) f xs rest h.1 (λ front back e. refl));
}

-- ---- transactions

pub tags_format : IsFormat AreTags tags_spelling tags_at
unfolding tags_at tag_count_at tags_spelling
tags_format =
    fits_as _ (field {C = λ _. Unit {0}} (λ (tags : List (List ℕ)). length tags) (ranged_format 1 128 (limited_format 128 byte_format)) λ count.
    fits_as (λ tags. ((count ≡ length tags) × Unit {0}) × AllByRecursion (λ (tag : List ℕ). length tag ≡ 32) tags) (repeat_format count (bytes_format 32)) (λ tags h. ((h.0, tt), h.1)) (λ tags h. (h.0.0, h.1)))
    (λ tags h. record { some = h.1.0.1.0; few = h.1.0.1.1; each = h.1.1 })
    (λ tags h. (tt, (((omega (arith, h.few), h.few), (h.some, h.few)), h.each)))

-- a transaction with other tags
abbrev with_tags : List (List ℕ) → Tx → Tx
with_tags tags t = record { client = t.client; session = t.session; number = t.number; op = t.op; tags = tags }

pub tx_format : IsFormat IsTx tx_spelling tx_at
unfolding tx_at tx_spelling tx_fields_spelling
tx_format =
    let fields = field_that_fits {C = λ (t : Tx). Unit {0}} (with_tags []) tx_body_format λ body body_fits.
    field (λ (t : Tx). t.tags) tags_format λ tags.
    built (record { client = body.client; session = body.session; number = body.number; op = body.op; tags = tags }) _ (refl, (rw (← body_fits.1) refl, tt))
    (λ t h. rw (h.1.0, h.0) refl) in
    let same : (t : Tx) → tx_body_spelling t ++ (tags_spelling t.tags ++ []) ≡ tx_spelling t = λ t. ap (λ (w : List ℕ). tx_body_spelling t ++ w) (append-nil (tags_spelling t.tags)) in
    fits_as _ (spelled_as tx_spelling fields same)
    (λ t h. record { body = record { client = h.1.0.0.client; session = h.1.0.0.session; first = h.1.0.0.first; last = h.1.0.0.last; op = h.1.0.0.op }; tags = h.1.1.0 })
    (λ t h. (tt, ((record { client = h.body.client; session = h.body.session; first = h.body.first; last = h.body.last; op = h.body.op }, refl), (h.tags, tt))))

-- ---- values

value_takes : (bytes : List ℕ) (x : Value × List ℕ) → IsBytes bytes → value_at bytes ≡ Ok x → Takes bytes (value_spelling x.0) x.1 × IsValue x.0
unfolding value_at value_spelling
value_takes bytes x fits e =
    let a = bind_ok (limited 256 (number_at 2 bytes)) (λ count. repeat tx_at (is_within (length bytes)) count.0 count.1 >>= λ txs. Ok (record { txs = txs.0 }, txs.1)) x e in
    let b = bind_ok (repeat tx_at (is_within (length bytes)) a.0.0 a.0.1) (λ txs. Ok (record { txs = txs.0 }, txs.1)) x a.2 in
    let made : Value × List ℕ = (record { txs = b.0.0 }, b.0.1) in
    subst (λ (y : Value × List ℕ). Takes bytes (value_spelling y.0) y.1 × IsValue y.0) (ok_is made x b.2) (value_parts bytes a.0.0 a.0.1 b.0 fits a.1 b.1)
  where
    value_parts : (bytes : List ℕ) (n : ℕ) (after : List ℕ) (txs : List Tx × List ℕ) → IsBytes bytes → limited 256 (number_at 2 bytes) ≡ Ok (n, after) → repeat tx_at (is_within (length bytes)) n after ≡ Ok txs
        → Takes bytes (value_spelling (record { txs = txs.0 })) txs.1 × IsValue (record { txs = txs.0 })
    value_parts bytes n after txs fits first others =
        let t0 = (limited_format 256 u16_format).takes bytes (n, after) fits first in
        let t1 = repeat_takes (is_within (length bytes)) tx_format n after txs t0.0.rest_fits others in
        let both = Takes-then bytes (number_bytes 2 n) after (flat_map tx_spelling txs.0) txs.1 t0.0 t1.0 in
        let whole_text : Takes bytes (number_bytes 2 (length txs.0) ++ flat_map tx_spelling txs.0) txs.1 = subst (λ (k : ℕ). Takes bytes (number_bytes 2 k ++ flat_map tx_spelling txs.0) txs.1) t1.1 both in
        let start : is_within (length bytes) after ≡ true = le-leb _ _ (omega (arith, ap length t0.0.parts, length-append (number_bytes 2 n) after, length-number_bytes 2 n)) in
        let within : length bytes - length txs.1 ≤ 500000 = leb-true _ _ (t1.3 start) in (
          whole_text,
          record {
            few = omega (arith, t1.1, t0.1.1);
            each = t1.2;
            short = omega (arith, within, ap length whole_text.parts, length-append (number_bytes 2 (length txs.0) ++ flat_map tx_spelling txs.0) txs.1);
          },
        )

value_again : (value : Value) (rest : List ℕ) → IsValue value → value_at (value_spelling value ++ rest) ≡ Ok (value, rest)
unfolding value_at value_spelling number_bytes
value_again value rest h =
    let bytes = value_spelling value ++ rest in
    let items = flat_map tx_spelling value.txs in
    let first : limited 256 (number_at 2 bytes) ≡ Ok (length value.txs, items ++ rest) = (limited_format 256 u16_format).again (length value.txs) (items ++ rest) (omega (arith, h.few), h.few) in
    let others : repeat tx_at (is_within (length bytes)) (length value.txs) (items ++ rest) ≡ Ok (value.txs, rest) = repeat_again (is_within (length bytes)) tx_format value.txs rest h.each (λ front back e.
    le-leb _ _ (omega (arith, h.short, length-append (value_spelling value) rest, length-append (flat_map tx_spelling back) rest))) in
    rw (first, others) refl

pub value_format : IsFormat IsValue value_spelling value_at
value_format = record { takes = value_takes; again = value_again }

-- ---- all of the bytes

pub whole_found : {T : Type 0} {F : T → Type 0} {s : T → List ℕ} {read : List ℕ → Read T} → IsFormat F s read → (bytes : List ℕ) (r : Result T Fault) → IsBytes bytes → Gives (λ x. x) r (whole (read bytes)) → IfOk r (λ t. F t × (bytes ≡ s t))
unfolding whole
whole_found {F = F} {s = s} {read = read} f bytes (Ok t) fits given =
    let a = bind_ok (read bytes) (λ x. ask (eqb (length x.1) 0) BadSpelling >> Ok x.0) t given in
    let b = ask_ok (eqb (length a.0.1) 0) BadSpelling (Ok a.0.0) t a.2 in
    let u = f.takes bytes a.0 fits a.1 in
    let nothing : a.0.1 ≡ [] = nil_from_length a.0.1 (eqb-true _ _ b.0) in
    let all : bytes ≡ s a.0.0 = u.0.parts ∙ ap (λ (rest : List ℕ). s a.0.0 ++ rest) nothing ∙ append-nil (s a.0.0) in
    subst (λ y. F y × (bytes ≡ s y)) (ok_is a.0.0 t b.1) (u.1, all)
whole_found f bytes (Err e) fits given = tt

pub whole_only : {T : Type 0} {F : T → Type 0} {s : T → List ℕ} {read : List ℕ → Read T} → IsFormat F s read → (bytes : List ℕ) (r : Result T Fault) (t : T) → F t → bytes ≡ s t → Gives (λ x. x) r (whole (read bytes)) → Gives (λ x. x) r (Ok t)
unfolding whole
whole_only {s = s} {read = read} f bytes r t fits e given =
    let front : read bytes ≡ Ok (t, []) = ap read (e ∙ sym (append-nil (s t))) ∙ f.again t [] fits in
    let all : whole (read bytes) ≡ Ok t = rw front refl in
    subst (λ y. Gives (λ x. x) r y) all given

-- no two things are spelled alike
pub one_reading : {T : Type 0} {F : T → Type 0} {s : T → List ℕ} {read : List ℕ → Read T} → IsFormat F s read → (a b : T) → F a → F b → s a ≡ s b → a ≡ b
one_reading {T = T} {s = s} {read = read} f a b ha hb e =
    let ra : read (s a ++ []) ≡ Ok (a, []) = f.again a [] ha in
    let rb : read (s a ++ []) ≡ Ok (b, []) = ap (λ (w : List ℕ). read (w ++ [])) e ∙ f.again b [] hb in
    ap (λ (x : T × List ℕ). x.0) (ok_is (a, []) (b, []) (sym ra ∙ rb))

-- Collecting the precommits of a certificate, one sender after the other.
use Rattle.std.proofs.Common.{◌≡◌, ℕ, suc, ◌+◌, ◌<◌, Bool, true, false, ◌&&◌, cond, ap, sym, refl, ◌∙◌, List, [], ◌∷◌, ◌++◌, length, take, get_or, find, Option, Some, None, inl, inr, add-one, arith}
use Rattle.std.specs.Prelude.{◌==◌, slice_get}
use Rattle.std.specs.List.{position_from}
use Rattle.std.specs.Str.{bytes_eq}
use Rattle.std.proofs.lemmas.Bool.{cases_Bool, and_parts}
use Rattle.protocol.specs.Rules.{is_stamp}
use Rattle.protocol.specs.declared.types.Stamp.{Stamp}
use Rattle.round_states.specs.Steps.{noted, stamp_at}
use Rattle.std.specs.List.{flat_map}
use Rattle.std.proofs.lemmas.Grind.{flat_map-append}
use Rattle.std.proofs.lemmas.List.{append-nil, take_more, length-take}
use Rattle.protocol.specs.Messages.{Signed, below}

pub one_more : (f : ℕ → List Signed) (i : ℕ) → flat_map f (below (i + 1)) ≡ flat_map f (below i) ++ f i
unfolding below
one_more f i = rw add-one (flat_map-append f (below i) (i ∷ []) ∙ ap (λ (w : List Signed). flat_map f (below i) ++ w) (append-nil (f i)))

-- ---- the first stamp of a sender, one stamp after the other

abbrev or_first : Option ℕ → Option ℕ → Option ℕ
or_first None later = later
or_first (Some first) later = Some first

position_more : {X : Type 0} (test : X → Bool) (n : ℕ) (xs : List X) (x : X) → position_from test n (xs ++ x ∷ []) ≡ or_first (position_from test n xs) (cond (test x) (Some (n + length xs)) None)
position_more test n [] x = let e : n + 0 ≡ n = omega arith in rw e refl
position_more test n (y ∷ ys) x = elim (cases_Bool (test y)) [
  | inl t ↦ rw t refl
  | inr f ↦ (let e : n + 1 + length ys ≡ n + suc (length ys) = omega arith in rw (f, ← e) (position_more test (n + 1) ys x))
]

or_none : (o : Option ℕ) → o ≡ or_first o None
or_none None = refl
or_none (Some p) = refl

noted_is : (sender n i : ℕ) (o : Option ℕ) → noted sender n i o ≡ or_first o (cond (sender == i) (Some n) None)
noted_is sender n i None = refl
noted_is sender n i (Some p) = refl

one_stamp : (test : Stamp → Bool) (xs : List Stamp) (n : ℕ) (stamp : Stamp) → n < length xs → stamp ≡ get_or xs n stamp → position_from test 0 (take (n + 1) xs) ≡ or_first (position_from test 0 (take n xs)) (cond (test stamp) (Some n) None)
one_stamp test xs n stamp lt is =
    let len : 0 + length (take n xs) ≡ n = let l = length-take n xs in omega (arith, l, lt) in
    rw (take_more xs n stamp lt, ← is) (position_more test 0 (take n xs) stamp ∙ ap (λ k. or_first (position_from test 0 (take n xs)) (cond (test stamp) (Some k) None)) len)

of_it : (r i : ℕ) (x : List ℕ) (stamp : Stamp) → ((stamp.round == r) && bytes_eq stamp.id x) ≡ true → is_stamp r x i stamp ≡ (stamp.signed.sender == i)
of_it r i x stamp e = let p = and_parts (stamp.round == r) (bytes_eq stamp.id x) e in rw (p.0, p.1) refl

not_of_it : (r i : ℕ) (x : List ℕ) (stamp : Stamp) → ((stamp.round == r) && bytes_eq stamp.id x) ≡ false → is_stamp r x i stamp ≡ false
not_of_it r i x stamp e = elim (cases_Bool (stamp.round == r)) [
  | inl t ↦ (let f : bytes_eq stamp.id x ≡ false = rw t at e in rw (t, f) refl)
  | inr f ↦ rw f refl
]

pub first_noted : (r i n : ℕ) (x : List ℕ) (xs : List Stamp) (stamp : Stamp) (o : Option ℕ) → n < length xs → stamp ≡ get_or xs n stamp → ((stamp.round == r) && bytes_eq stamp.id x) ≡ true → o ≡ position_from (is_stamp r x i) 0 (take n xs)
    → noted stamp.signed.sender n i o ≡ position_from (is_stamp r x i) 0 (take (n + 1) xs)
first_noted r i n x xs stamp o lt is e h =
    noted_is stamp.signed.sender n i o ∙ ap (λ (b : Bool). or_first o (cond b (Some n) None)) (sym (of_it r i x stamp e)) ∙ ap (λ (p : Option ℕ). or_first p (cond (is_stamp r x i stamp) (Some n) None)) h ∙ sym (one_stamp (is_stamp r x i) xs n stamp lt is)

pub first_same : (r i n : ℕ) (x : List ℕ) (xs : List Stamp) (stamp : Stamp) (o : Option ℕ) → n < length xs → stamp ≡ get_or xs n stamp → ((stamp.round == r) && bytes_eq stamp.id x) ≡ false → o ≡ position_from (is_stamp r x i) 0 (take n xs)
    → o ≡ position_from (is_stamp r x i) 0 (take (n + 1) xs)
first_same r i n x xs stamp o lt is e h =
    or_none o ∙ ap (λ (b : Bool). or_first o (cond b (Some n) None)) (sym (not_of_it r i x stamp e)) ∙ ap (λ (p : Option ℕ). or_first p (cond (is_stamp r x i stamp) (Some n) None)) h ∙ sym (one_stamp (is_stamp r x i) xs n stamp lt is)

-- the stamp at the first place is the first
there_from : (test : Stamp → Bool) (n : ℕ) (xs whole : List Stamp) → ((k : ℕ) → slice_get whole (n + k) ≡ slice_get xs k) → stamp_at whole (position_from test n xs) ≡ find test xs
there_from test n [] whole h = refl
there_from test n (x ∷ xs) whole h = elim (cases_Bool (test x)) [
  | inl t ↦ (let z : n + 0 ≡ n = omega arith in rw t (rw z at (h 0)))
  | inr f ↦ rw f (there_from test (n + 1) xs whole (λ k. let e : n + 1 + k ≡ n + suc k = omega arith in rw e (h (suc k))))
]

pub first_there : (test : Stamp → Bool) (xs : List Stamp) → stamp_at xs (position_from test 0 xs) ≡ find test xs
first_there test xs = there_from test 0 xs xs (λ k. let e : 0 + k ≡ k = omega arith in rw e refl)

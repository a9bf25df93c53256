-- A format: what has a spelling, the spelling, and how it is read. What is read is spelled so, and what is spelled so is
-- read, whatever follows. Formats of many fields and kinds are put together from those of their parts.
use Rattle.std.proofs.Common.{◌≡◌, ℕ, suc, ◌+◌, ◌^◌, ◌<◌, ◌≤◌, Bool, true, false, cond, eqb, leb, ltb, ◌&&◌, List, [], ◌∷◌, ◌++◌, length, get_or, take, drop, Result, Ok, Err, refl, sym, ap, subst, ◌∙◌, append_assoc, arith, inl, inr, length-append, length-take, lit<}
use Rattle.std.proofs.lemmas.Bool.{cases_lt, ltb-false, le-ltb, leb-true, le-leb, eqb-true, eq-eqb, and_parts, and_from}
use Rattle.std.proofs.lemmas.List.{take_at, drop_at, take-append-drop, get_or-drop, get_or-take, get_or_past}
use Rattle.std.proofs.lemmas.Nat.{be_bytes_2, be_bytes_4, be_bytes_8}
use Rattle.byteorder.specs.Endian.{big_number, big_bytes}
use Rattle.byteorder.specs.Numbers.{big_number-reads_back, big_from-lt, length-bytes_high_first}
use Rattle.transactions.specs.declared.fault.Fault.{Fault}
use Rattle.transactions.specs.declared.fault.Fault.TheVariants.{Truncated, TooLong, BadSpelling}
use Rattle.transactions.specs.Fields.{◌>>=◌, ◌>>◌, ask, Read, number_bytes, byte_at, number_at, bytes_at, ranged, limited}

abbrev pub IsBytes : List ℕ → Type 0
IsBytes bytes = (i : ℕ) → get_or bytes i 0 < 256

IsBytes-drop : (n : ℕ) (bytes : List ℕ) → IsBytes bytes → IsBytes (drop n bytes)
IsBytes-drop n bytes h i = rw get_or-drop (h (n + i))

IsBytes-rest : (b : ℕ) (bytes : List ℕ) → IsBytes (b ∷ bytes) → IsBytes bytes
IsBytes-rest b bytes h i = h (suc i)

-- the value of a step that did not fail
pub bind_ok : {A B : Type 0} (r : Result A Fault) (f : A → Result B Fault) (y : B) → (r >>= f) ≡ Ok y → (x : A) × (r ≡ Ok x) × (f x ≡ Ok y)
bind_ok (Ok x) f y e = (x, refl, e)
bind_ok (Err d) f y e = absurd cc

-- a test that did not fail
pub ask_ok : {B : Type 0} (b : Bool) (d : Fault) (r : Result B Fault) (y : B) → (ask b d >> r) ≡ Ok y → (b ≡ true) × (r ≡ Ok y)
ask_ok true d r y e = (refl, e)
ask_ok false d r y e = absurd cc

abbrev done : {A : Type 0} → A → Result A Fault
done x = Ok x

pub ok_is : {A : Type 0} (x y : A) → done x ≡ done y → x ≡ y
ok_is x y e = cc

-- what a reader took from the front
pub record Takes (bytes text rest : List ℕ) : Type 0 where
  pub parts : bytes ≡ text ++ rest
  pub rest_fits : IsBytes rest

pub Takes-then : (a x b y c : List ℕ) → Takes a x b → Takes b y c → Takes a (x ++ y) c
Takes-then a x b y c p q = record { parts = p.parts ∙ ap (λ (t : List ℕ). x ++ t) q.parts ∙ sym (append_assoc x y c); rest_fits = q.rest_fits }

pub record IsFormat {T : Type 0} (Fits : T → Type 0) (spelling : T → List ℕ) (read : List ℕ → Read T) : Type 0 where
  pub takes : (bytes : List ℕ) (x : T × List ℕ) → IsBytes bytes → read bytes ≡ Ok x → Takes bytes (spelling x.0) x.1 × Fits x.0
  pub again : (x : T) (rest : List ℕ) → Fits x → read (spelling x ++ rest) ≡ Ok (x, rest)

-- the same format, with what fits said in other words
pub fits_as : {T : Type 0} {F : T → Type 0} (G : T → Type 0) {spelling : T → List ℕ} {read : List ℕ → Read T} → IsFormat F spelling read → ((t : T) → F t → G t) → ((t : T) → G t → F t) → IsFormat G spelling read
fits_as G f there back = record {
  takes = λ bytes x fits e. let t = f.takes bytes x fits e in (t.0, there x.0 t.1);
  again = λ x rest h. f.again x rest (back x h);
}

-- the same format, with the spelling written in another way
pub spelled_as : {T : Type 0} {F : T → Type 0} {spelling : T → List ℕ} (spelling' : T → List ℕ) {read : List ℕ → Read T} → IsFormat F spelling read → ((t : T) → spelling t ≡ spelling' t) → IsFormat F spelling' read
spelled_as {F = F} spelling' {read = read} f same = record {
  takes = λ bytes x fits e. subst (λ (s : List ℕ). Takes bytes s x.1 × F x.0) (same x.0) (f.takes bytes x fits e);
  again = λ x rest h. subst (λ (s : List ℕ). read (s ++ rest) ≡ Ok (x, rest)) (same x) (f.again x rest h);
}

-- ---- fields in turn

-- Nothing more is read: what is known of the thing, C, leaves one.
pub built : {T : Type 0} (x : T) (C : T → Type 0) → C x → ((t : T) → C t → x ≡ t) → IsFormat (λ t. C t × Unit {0}) (λ _. []) (λ bytes. Ok (x, bytes))
built {T = T} x C known only = record {
  takes = λ bytes y fits e. subst (λ (z : T × List ℕ). Takes bytes [] z.1 × (C z.0 × Unit {0})) (ok_is (x, bytes) y e) (record { parts = refl; rest_fits = fits }, (known, tt));
  again = λ y rest h. ap (λ (z : T). done (z, rest)) (only y h.0);
}

-- A field, and those after it, which know this one and that it fits.
pub field_that_fits : {A T : Type 0} {FA : A → Type 0} {sA : A → List ℕ} {rA : List ℕ → Read A} {C F : T → Type 0} {s : T → List ℕ} {k : A → List ℕ → Read T} (get : T → A)
    → IsFormat FA sA rA → ((a : A) → FA a → IsFormat (λ t. ((a ≡ get t) × C t) × F t) s (k a)) → IsFormat (λ t. C t × (FA (get t) × F t)) (λ t. sA (get t) ++ s t) (λ bytes. rA bytes >>= λ x. k x.0 x.1)
field_that_fits {FA = FA} {sA = sA} {rA = rA} {C = C} {F = F} {s = s} {k = k} get fa fk = record {
  takes = λ bytes x fits e.
      let a = bind_ok (rA bytes) (λ y. k y.0 y.1) x e in
      let t0 = fa.takes bytes a.0 fits a.1 in
      let t1 = (fk a.0.0 t0.1).takes a.0.1 x t0.0.rest_fits a.2 in
      let both = Takes-then bytes (sA a.0.0) a.0.1 (s x.0) x.1 t0.0 t1.0 in
      subst (λ y. Takes bytes (sA y ++ s x.0) x.1 × (C x.0 × (FA y × F x.0))) t1.1.0.0 (both, (t1.1.0.1, (t0.1, t1.1.1)));
  again = λ t rest h.
      let regrouped : (sA (get t) ++ s t) ++ rest ≡ sA (get t) ++ (s t ++ rest) = append_assoc (sA (get t)) (s t) rest in
      let first : rA ((sA (get t) ++ s t) ++ rest) ≡ Ok (get t, s t ++ rest) = ap rA regrouped ∙ fa.again (get t) (s t ++ rest) h.1.0 in
      rw first ((fk (get t) h.1.0).again t rest ((refl, h.0), h.1.1));
}

-- a field, and those after it, which know this one
pub field : {A T : Type 0} {FA : A → Type 0} {sA : A → List ℕ} {rA : List ℕ → Read A} {C F : T → Type 0} {s : T → List ℕ} {k : A → List ℕ → Read T} (get : T → A)
    → IsFormat FA sA rA → ((a : A) → IsFormat (λ t. ((a ≡ get t) × C t) × F t) s (k a)) → IsFormat (λ t. C t × (FA (get t) × F t)) (λ t. sA (get t) ++ s t) (λ bytes. rA bytes >>= λ x. k x.0 x.1)
field get fa fk = field_that_fits get fa (λ a _. fk a)

-- ---- single fields

-- a field that also has to pass a test
pub checked : {A : Type 0} {F : A → Type 0} {s : A → List ℕ} {read : List ℕ → Read A} (test : A → Bool) (P : A → Type 0) (fault : Fault)
    → ((a : A) → test a ≡ true → P a) → ((a : A) → P a → test a ≡ true) → IsFormat F s read → IsFormat (λ a. F a × P a) s (λ bytes. read bytes >>= λ x. (ask (test x.0) fault >> Ok x))
checked {F = F} {s = s} {read = read} test P fault there back f = record {
  takes = λ bytes x fits e.
      let a = bind_ok (read bytes) (λ y. ask (test y.0) fault >> Ok y) x e in
      let b = ask_ok (test a.0.0) fault (Ok a.0) x a.2 in
      let t = f.takes bytes a.0 fits a.1 in
      subst (λ y. Takes bytes (s y.0) y.1 × (F y.0 × P y.0)) (ok_is a.0 x b.1) (t.0, (t.1, there a.0.0 b.0));
  again = λ x rest h. rw (f.again x rest h.0, back x h.1) refl;
}

guard_ok : {A : Type 0} (b : Bool) (d : Fault) (x y : A) → cond b (Err d) (Ok x) ≡ Ok y → (b ≡ false) × (x ≡ y)
guard_ok true d x y e = absurd cc
guard_ok false d x y e = (refl, cc)

pub byte_format : IsFormat (λ b. b < 256) (λ b. b ∷ []) byte_at
byte_format = record { takes = byte_takes; again = λ b rest h. refl } where
  byte_takes : (bytes : List ℕ) (x : ℕ × List ℕ) → IsBytes bytes → byte_at bytes ≡ Ok x → Takes bytes (x.0 ∷ []) x.1 × (x.0 < 256)
  byte_takes [] x fits e = absurd cc
  byte_takes (b ∷ bytes) x fits e = subst (λ (y : ℕ × List ℕ). Takes (b ∷ bytes) (y.0 ∷ []) y.1 × (y.0 < 256)) (ok_is (b, bytes) x e) (record { parts = refl; rest_fits = IsBytes-rest b bytes fits }, fits 0)

pub bytes_format : (n : ℕ) → IsFormat (λ xs. length xs ≡ n) (λ xs. xs) (bytes_at n)
bytes_format n = record {
  takes = λ bytes x fits e.
      let g = guard_ok (ltb (length bytes) n) Truncated (take n bytes, drop n bytes) x e in
      let long : n ≤ length bytes = ltb-false _ _ g.0 in
      let len : length (take n bytes) ≡ n = omega (arith, length-take n bytes) in
      subst (λ (y : List ℕ × List ℕ). Takes bytes y.0 y.1 × (length y.0 ≡ n)) g.1 (record { parts = sym (take-append-drop n bytes); rest_fits = IsBytes-drop n bytes fits }, len);
  again = λ xs rest h.
      let long : ltb (length (xs ++ rest)) n ≡ false = le-ltb _ _ (omega (arith, length-append xs rest)) in
      rw (long, take_at xs rest n h, drop_at xs rest n h) refl;
}

-- a number of n bytes, whose bytes are those that were read
pub number_format : (n : ℕ) → ((xs : List ℕ) → n ≤ length xs → IsBytes xs → big_bytes n (big_number n xs) ≡ take n xs) → IsFormat (λ x. x < 256 ^ n) (λ x. number_bytes n x) (number_at n)
unfolding number_bytes
number_format n back = record {
  takes = λ bytes x fits e.
      let g = guard_ok (ltb (length bytes) n) Truncated (big_number n bytes, drop n bytes) x e in
      let long : n ≤ length bytes = ltb-false _ _ g.0 in
      let whole : bytes ≡ big_bytes n (big_number n bytes) ++ drop n bytes = rw (back bytes long fits) (sym (take-append-drop n bytes)) in
      subst (λ (y : ℕ × List ℕ). Takes bytes (big_bytes n y.0) y.1 × (y.0 < 256 ^ n)) g.1 (record { parts = whole; rest_fits = IsBytes-drop n bytes fits }, big_from-lt 0 n bytes fits);
  again = λ x rest h.
      let len = length-bytes_high_first n x in
      let long : ltb (length (big_bytes n x ++ rest)) n ≡ false = le-ltb _ _ (omega (arith, length-append (big_bytes n x) rest)) in
      rw (long, big_number-reads_back n x rest h, drop_at (big_bytes n x) rest n len) refl;
}

pub length-number_bytes : (n x : ℕ) → length (number_bytes n x) ≡ n
unfolding number_bytes
length-number_bytes n x = length-bytes_high_first n x

IsBytes-take : (n : ℕ) (bytes : List ℕ) → IsBytes bytes → IsBytes (take n bytes)
IsBytes-take n bytes h i =
    elim (cases_lt i n) [
      | inl lt ↦ rw (get_or-take n bytes i 0 lt) (h i)
      | inr le ↦ rw (get_or_past (take n bytes) i 0 (omega (arith, length-take n bytes))) (omega arith)
    ]

back_2 : (xs : List ℕ) → 2 ≤ length xs → IsBytes xs → big_bytes 2 (big_number 2 xs) ≡ take 2 xs
back_2 xs long fits = be_bytes_2 (take 2 xs) _ (omega (arith, length-take 2 xs)) (IsBytes-take 2 xs fits)
    (omega (arith, get_or-take 2 xs 0 0 (lit< tt), get_or-take 2 xs 1 0 (lit< tt)))

back_4 : (xs : List ℕ) → 4 ≤ length xs → IsBytes xs → big_bytes 4 (big_number 4 xs) ≡ take 4 xs
back_4 xs long fits = be_bytes_4 (take 4 xs) _ (omega (arith, length-take 4 xs)) (IsBytes-take 4 xs fits)
    (omega (arith, get_or-take 4 xs 0 0 (lit< tt), get_or-take 4 xs 1 0 (lit< tt), get_or-take 4 xs 2 0 (lit< tt), get_or-take 4 xs 3 0 (lit< tt)))

back_8 : (xs : List ℕ) → 8 ≤ length xs → IsBytes xs → big_bytes 8 (big_number 8 xs) ≡ take 8 xs
back_8 xs long fits = be_bytes_8 (take 8 xs) _ (omega (arith, length-take 8 xs)) (IsBytes-take 8 xs fits)
    (omega (arith, get_or-take 8 xs 0 0 (lit< tt), get_or-take 8 xs 1 0 (lit< tt), get_or-take 8 xs 2 0 (lit< tt), get_or-take 8 xs 3 0 (lit< tt), get_or-take 8 xs 4 0 (lit< tt), get_or-take 8 xs 5 0 (lit< tt), get_or-take 8 xs 6 0 (lit< tt), get_or-take 8 xs 7 0 (lit< tt)))

pub u16_format : IsFormat (λ x. x < 256 ^ 2) (λ x. number_bytes 2 x) (number_at 2)
u16_format = number_format 2 back_2

pub u32_format : IsFormat (λ x. x < 256 ^ 4) (λ x. number_bytes 4 x) (number_at 4)
u32_format = number_format 4 back_4

pub u64_format : IsFormat (λ x. x < 256 ^ 8) (λ x. number_bytes 8 x) (number_at 8)
u64_format = number_format 8 back_8

pub ranged_format : {F : ℕ → Type 0} {s : ℕ → List ℕ} {read : List ℕ → Read ℕ} (low high : ℕ) → IsFormat F s read → IsFormat (λ n. F n × ((low ≤ n) × (n ≤ high))) s (λ bytes. ranged low high (read bytes))
unfolding ranged
ranged_format low high f = checked (λ n. leb low n && leb n high) (λ n. (low ≤ n) × (n ≤ high)) BadSpelling
    (λ n e. let p = and_parts _ _ e in (leb-true _ _ p.0, leb-true _ _ p.1)) (λ n h. and_from _ _ (le-leb _ _ h.0) (le-leb _ _ h.1)) f

pub limited_format : {F : ℕ → Type 0} {s : ℕ → List ℕ} {read : List ℕ → Read ℕ} (most : ℕ) → IsFormat F s read → IsFormat (λ n. F n × (n ≤ most)) s (λ bytes. limited most (read bytes))
unfolding limited
limited_format most f = checked (λ n. leb n most) (λ n. n ≤ most) TooLong (λ n e. leb-true _ _ e) (λ n h. le-leb _ _ h) f

-- Fields read from left to right, with the first fault that is met.
use Rattle.std.specs.Prelude.{◌≡◌, ℕ, zero, suc, List, [], ◌∷◌, length, take, drop, Bool, ◌&&◌, Result, Ok, Err, nat_lt, nat_le, ◌==◌, if◌then◌else◌}
use Rattle.byteorder.specs.Endian.{big_number, big_bytes}
use Rattle.transactions.specs.declared.fault.Fault.{Fault}
use Rattle.transactions.specs.declared.fault.Fault.TheVariants.{Truncated, TooLong, BadSpelling, OutOfMemory, BadKind}

-- A step and those after it: the first fault, or what the last gives.
infixl 10 ◌>>=◌
abbrev pub ◌>>=◌ : {A B : Type 0} → Result A Fault → (A → Result B Fault) → Result B Fault
(Ok x) >>= f = f x
(Err e) >>= f = Err e

infixl 10 ◌>>◌
abbrev pub ◌>>◌ : {B : Type 0} → Result (Unit {0}) Fault → Result B Fault → Result B Fault
(Ok x) >> r = r
(Err e) >> r = Err e

-- a test that must hold, or this fault
abbrev pub ask : Bool → Fault → Result (Unit {0}) Fault
ask holds fault = if holds then Ok tt else Err fault

-- What a function returned, seen by view, is what reading gives, unless memory ran out.
abbrev pub Fails : {Y : Type 0} → Fault → Result Y Fault → Type 0
Fails OutOfMemory given = Unit {0}
Fails Truncated given = given ≡ Err Truncated
Fails TooLong given = given ≡ Err TooLong
Fails BadSpelling given = given ≡ Err BadSpelling
Fails BadKind given = given ≡ Err BadKind

abbrev pub Gives : {X Y : Type 0} → (X → Y) → Result X Fault → Result Y Fault → Type 0
Gives view (Ok x) given = given ≡ Ok (view x)
Gives view (Err e) given = Fails e given

-- A fault of this reading is what a function returned, and no want of memory stands in its place.
abbrev pub Tells : {X Y : Type 0} → Result X Fault → Result Y Fault → Type 0
Tells result given = (fault : Fault) → given ≡ Err fault → result ≡ Err fault

-- What a field reads as: its value and the bytes after it.
abbrev pub Read : Type 0 → Type 0
Read A = Result (A × List ℕ) Fault

abbrev pub byte_at : List ℕ → Read ℕ
byte_at [] = Err Truncated
byte_at (b ∷ bytes) = Ok (b, bytes)

-- the n bytes of a number, opaque so that goals keep its name
unfoldable pub number_bytes : ℕ → ℕ → List ℕ
number_bytes n x = big_bytes n x

-- a number of n bytes
abbrev pub number_at : ℕ → List ℕ → Read ℕ
number_at n bytes = if nat_lt (length bytes) n then Err Truncated else Ok (big_number n bytes, drop n bytes)

-- the next n bytes
abbrev pub bytes_at : ℕ → List ℕ → Read (List ℕ)
bytes_at n bytes = if nat_lt (length bytes) n then Err Truncated else Ok (take n bytes, drop n bytes)

-- a number in this range
unfoldable pub ranged : ℕ → ℕ → Read ℕ → Read ℕ
ranged low high read = do
  number ← read
  ask (nat_le low number.0 && nat_le number.0 high) BadSpelling
  Ok number

-- a count or a length, at most this
unfoldable pub limited : ℕ → Read ℕ → Read ℕ
limited most read = do
  count ← read
  ask (nat_le count.0 most) TooLong
  Ok count

-- This many things, one after the other. What follows each has to pass the test, or they are too long.
unfoldable pub repeat : {A : Type 0} → (List ℕ → Read A) → (List ℕ → Bool) → ℕ → List ℕ → Read (List A)
repeat read keeps zero bytes = Ok ([], bytes)
repeat read keeps (suc n) bytes = do
  first ← read bytes
  ask (keeps first.1) TooLong
  others ← repeat read keeps n first.1
  Ok (first.0 ∷ others.0, others.1)

-- a thing and nothing after it
unfoldable pub whole : {A : Type 0} → Read A → Result A Fault
whole read = do
  x ← read
  ask (length x.1 == 0) BadSpelling
  Ok x.0

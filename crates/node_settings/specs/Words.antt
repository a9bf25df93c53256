-- What the words of a command line give its options.
use Rattle.std.specs.Prelude.{◌≡◌, ℕ, ◌-◌, ◌^◌, Bool, true, false, ◌&&◌, List, [], ◌∷◌, length, map, Option, Some, None, Result, Ok, Err, nat_lt, nat_le, ◌==◌, if◌then◌else◌, codes}
use Rattle.std.specs.List.{list_all, slice_split}
use Rattle.std.specs.Option.{option_map_or, unwrap_or}
use Rattle.std.specs.Char.{is_ascii_digit}
use Rattle.std.specs.Str.{bytes_eq}
use Rattle.std.specs.Str.Parse.{digits_value}
use Rattle.std.specs.Result.{result_ok}
use Rattle.clap.specs.Walk.{Row, Text, first_of}
use Rattle.hex.specs.Hex.{decode_of}
use Rattle.powers.specs.Admission.{admitted}
use Rattle.transactions.specs.declared.tx.Op.{Op}
use Rattle.transactions.specs.declared.tx.Op.TheVariants.{Bytes, Close}
use Rattle.node_settings.specs.declared.invocation.SettingsFault.{SettingsFault}
use Rattle.node_settings.specs.declared.invocation.SettingsFault.TheVariants.{Usage, OutOfMemory}

-- a step and those after it: the first fault, or what the last gives
infixl 10 ◌>>=◌
abbrev pub ◌>>=◌ : {A B : Type 0} → Result A SettingsFault → (A → Result B SettingsFault) → Result B SettingsFault
(Ok x) >>= f = f x
(Err e) >>= f = Err e

-- What a function returned, seen by view, is this answer, unless memory ran out.
abbrev pub Gives : {X Y : Type 0} → (X → Y) → Result X SettingsFault → Result Y SettingsFault → Type 0
Gives view (Ok x) answer = answer ≡ Ok (view x)
Gives view (Err Usage) answer = answer ≡ Err Usage
Gives view (Err OutOfMemory) answer = Unit {0}

abbrev pub or_usage : {A : Type 0} → Option A → Result A SettingsFault
or_usage (Some x) = Ok x
or_usage None = Err Usage

-- ---- numbers

-- one decimal digit or more, and nothing else
abbrev pub is_decimal : Text → Bool
is_decimal text = nat_lt 0 (length text) && list_all is_ascii_digit text

-- the number that they write, where a `u64` holds it
abbrev pub decimal_in : Text → Option ℕ
decimal_in text = if is_decimal text && nat_lt (digits_value 10 text) (2 ^ 64) then Some (digits_value 10 text) else None

-- a number, where it is within these bounds
abbrev pub between : ℕ → ℕ → Option ℕ → Option ℕ
between least most (Some number) = if nat_le least number && nat_le number most then Some number else None
between least most None = None

abbrev pub number_between : ℕ → ℕ → Text → Option ℕ
number_between least most word = between least most (decimal_in word)

-- ---- options

-- the word of an option
unfoldable pub given : Text → List Row → Result Text SettingsFault
given name rows = or_usage (first_of name rows)

-- the number of an option
unfoldable pub number_given : ℕ → ℕ → Text → List Row → Result ℕ SettingsFault
number_given least most name rows = do
  word ← given name rows
  or_usage (number_between least most word)

-- the number of an option that may be left out
abbrev pub number_of_word : ℕ → ℕ → Option Text → Result (Option ℕ) SettingsFault
number_of_word least most None = Ok None
number_of_word least most (Some word) = do
  number ← or_usage (number_between least most word)
  Ok (Some number)

unfoldable pub number_or_none : ℕ → ℕ → Text → List Row → Result (Option ℕ) SettingsFault
number_or_none least most name rows = number_of_word least most (first_of name rows)

-- the number of an option, which is another one where it is left out
unfoldable pub number_or : ℕ → ℕ → ℕ → Text → List Row → Result ℕ SettingsFault
number_or other least most name rows = do
  number ← number_or_none least most name rows
  Ok (unwrap_or number other)

-- how many validators there are
unfoldable pub validators_of : List Row → Result ℕ SettingsFault
validators_of rows = number_given 2 128 (codes "validators") rows

-- whether a flag was given
unfoldable pub is_flagged : Text → List Row → Bool
is_flagged name rows = option_map_or (λ word. bytes_eq word (codes "true")) (first_of name rows) false

-- ---- lists and bytes

abbrev pub is_comma : ℕ → Bool
is_comma byte = byte == 44

-- a power: what a `u32` holds
abbrev pub power_in : Text → Option ℕ
power_in word = number_between 0 (2 ^ 32 - 1) word

-- all of these
unfoldable pub every_number : List (Option ℕ) → Result (List ℕ) SettingsFault
every_number [] = Ok []
every_number (None ∷ others) = Err Usage
every_number (Some number ∷ others) = do
  numbers ← every_number others
  Ok (number ∷ numbers)

-- the powers of a list, where validators may have them
unfoldable pub powers_of : Text → Result (List ℕ) SettingsFault
powers_of list = do
  numbers ← every_number (map power_in (slice_split is_comma list))
  or_usage (result_ok (admitted numbers))

-- bytes of which a transaction may have as many
abbrev pub of_data : Option (List ℕ) → Result (List ℕ) SettingsFault
of_data None = Err Usage
of_data (Some bytes) = if nat_le (length bytes) 1024 then Ok bytes else Err Usage

unfoldable pub bytes_of : Text → Result (List ℕ) SettingsFault
bytes_of digits = of_data (result_ok (decode_of digits))

-- what a transaction is to do: its bytes, or a close, and one of them
abbrev pub op_of : Option Text → Bool → Result Op SettingsFault
op_of None true = Ok Close
op_of (Some digits) false = do
  bytes ← bytes_of digits
  Ok (Bytes bytes)
op_of _ _ = Err Usage

-- what a line of a file is to do: `close`, `-` for no bytes, or digits, which an empty line has none of
unfoldable pub line_op : Text → Result Op SettingsFault
line_op line =
    if bytes_eq line (codes "close") then Ok Close
    else if bytes_eq line (codes "-") then Ok (Bytes [])
    else if length line == 0 then Err Usage
    else op_of (Some line) false

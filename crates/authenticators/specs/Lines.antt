-- What one line of a key file says.
use Rattle.std.specs.Prelude.{ℕ, ◌+◌, ◌-◌, ◌*◌, Bool, ◌&&◌, ◌||◌, List, [], ◌∷◌, length, slice_index, fold, Option, Some, None, nat_lt, ◌==◌, if◌then◌else◌}
use Rattle.std.specs.Char.{is_ascii_digit}
use Rattle.std.specs.List.{list_all, slice_split}
use Rattle.std.specs.Result.{result_ok}
use Rattle.hex.specs.Hex.{decode_sized}
use Rattle.authenticators.specs.declared.party.Party.{Party}
use Rattle.authenticators.specs.declared.party.Party.TheVariants.{Validator, Client}
use Rattle.authenticators.specs.declared.key_line.KeyLine.{KeyLine}

-- a value, and what the next step makes of it
infixl 10 ◌>>=◌
abbrev pub ◌>>=◌ : {A B : Type 0} → Option A → (A → Option B) → Option B
(Some x) >>= f = f x
None >>= f = None

abbrev pub is_space : ℕ → Bool
is_space byte = byte == 32

-- one digit or more, with no zero in front of others
abbrev pub is_decimal : List ℕ → Bool
is_decimal digits = list_all is_ascii_digit digits && (length digits == 1 || nat_lt 48 (slice_index digits 0))

-- the number that decimal digits spell
abbrev pub decimal_value : List ℕ → ℕ
decimal_value digits = fold (λ number digit. 10 * number + (digit - 48)) 0 digits

-- a number of 16 bits in decimal
unfoldable pub number_in : List ℕ → Option ℕ
number_in digits = if is_decimal digits && nat_lt (decimal_value digits) 65536 then Some (decimal_value digits) else None

-- `v` and the validator's number, or `c` and the client's
unfoldable pub party_in : List ℕ → Option Party
party_in [] = None
party_in (letter ∷ digits) = do
  number ← number_in digits
  if letter == 118 then Some (Validator number) else if letter == 99 then Some (Client number) else None

abbrev pub validator_number : Party → Option ℕ
validator_number (Validator number) = Some number
validator_number (Client number) = None

-- 32 bytes as 64 hexadecimal digits
abbrev pub key_in : List ℕ → Option (List ℕ)
key_in digits = result_ok (decode_sized digits 32)

-- the sender, the validator that receives, and the key between them
unfoldable pub line_of : List ℕ → List ℕ → List ℕ → Option KeyLine
line_of from to key = do
  sender ← party_in from
  receiver ← party_in to
  number ← validator_number receiver
  bytes ← key_in key
  Some (record { from = sender; to = number; key = bytes })

-- three words
abbrev pub line_of_words : List (List ℕ) → Option KeyLine
line_of_words (from ∷ to ∷ key ∷ []) = line_of from to key
line_of_words _ = None

-- a key line is three words with one space between them
unfoldable pub key_line : List ℕ → Option KeyLine
key_line line = line_of_words (slice_split is_space line)

-- What a key file gives: a ring, or the first fault.
use Rattle.std.specs.Prelude.{◌≡◌, ℕ, Bool, false, not, ◌&&◌, ◌||◌, List, [], ◌∷◌, ◌++◌, length, map, slice_index, Option, Some, None, is_some, option_map, Result, Ok, Err, nat_lt, ◌==◌, if◌then◌else◌, find}
use Rattle.std.specs.List.{range_with_len, slice_split}
use Rattle.authenticators.specs.Lines.{key_line}
use Rattle.authenticators.specs.Ring.{Ring}
use Rattle.authenticators.specs.declared.party.Party.{Party}
use Rattle.authenticators.specs.declared.party.Party.TheVariants.{Validator, Client}
use Rattle.authenticators.specs.declared.key_line.KeyLine.{KeyLine}
use Rattle.authenticators.specs.declared.fault.KeysFault.{KeysFault}
use Rattle.authenticators.specs.declared.fault.KeysFault.TheVariants.{BadLine, Missing, Repeated, OutOfMemory}

-- a step and those after it: the first fault, or what the last gives
infixl 10 ◌>>=◌
abbrev pub ◌>>=◌ : {A B : Type 0} → Result A KeysFault → (A → Result B KeysFault) → Result B KeysFault
(Ok x) >>= f = f x
(Err e) >>= f = Err e

-- What a function returned, seen by view, is this answer, unless memory ran out.
abbrev pub Fails : {Y : Type 0} → KeysFault → Result Y KeysFault → Type 0
Fails BadLine answer = answer ≡ Err BadLine
Fails Missing answer = answer ≡ Err Missing
Fails Repeated answer = answer ≡ Err Repeated
Fails OutOfMemory answer = Unit {0}

abbrev pub Gives : {X Y : Type 0} → (X → Y) → Result X KeysFault → Result Y KeysFault → Type 0
Gives view (Ok x) answer = answer ≡ Ok (view x)
Gives view (Err e) answer = Fails e answer

-- ---- one line

abbrev pub same_party : Party → Party → Bool
same_party (Validator a) (Validator b) = a == b
same_party (Validator a) (Client b) = false
same_party (Client a) (Validator b) = false
same_party (Client a) (Client b) = a == b

-- of this many validators, or of 1,024 clients
abbrev pub is_known : ℕ → Party → Bool
is_known count (Validator number) = nat_lt number count
is_known count (Client number) = nat_lt number 1024

-- the line is about known parties, of which I am one
abbrev pub is_mine : Party → ℕ → KeyLine → Bool
is_mine me count line = is_known count line.from && nat_lt line.to count && (same_party line.from me || same_party (Validator line.to) me)

-- the line is about this sender and this receiver
abbrev pub is_between : Party → ℕ → KeyLine → Bool
is_between from to line = same_party line.from from && line.to == to

-- the key of what one party sends to a validator, by these lines
unfoldable pub key_between : List KeyLine → Party → ℕ → Option (List ℕ)
key_between lines from to = option_map (λ line. line.key) (find (is_between from to) lines)

-- a line that is no key line
abbrev pub is_skipped : List ℕ → Bool
is_skipped line = length line == 0 || slice_index line 0 == 35

-- a key line behind these
abbrev pub with_key : Party → ℕ → List KeyLine → Option KeyLine → Result (List KeyLine) KeysFault
with_key me count lines None = Err BadLine
with_key me count lines (Some line) =
    if not (is_mine me count line) then Err BadLine
    else if is_some (key_between lines line.from line.to) then Err Repeated
    else Ok (lines ++ line ∷ [])

-- a line behind these
unfoldable pub with_line : Party → ℕ → List KeyLine → List ℕ → Result (List KeyLine) KeysFault
with_line me count lines line = if is_skipped line then Ok lines else with_key me count lines (key_line line)

-- lines in turn behind these
unfoldable pub with_lines : Party → ℕ → List KeyLine → List (List ℕ) → Result (List KeyLine) KeysFault
with_lines me count lines [] = Ok lines
with_lines me count lines (line ∷ others) = do
  more ← with_line me count lines line
  with_lines me count more others

-- ---- the file

abbrev pub is_line_feed : ℕ → Bool
is_line_feed byte = byte == 10

-- all of these keys
unfoldable pub every_key : List (Option (List ℕ)) → Result (List (List ℕ)) KeysFault
every_key [] = Ok []
every_key (None ∷ others) = Err Missing
every_key (Some key ∷ others) = do
  keys ← every_key others
  Ok (key ∷ keys)

-- the keys of what these senders send to me; a client receives nothing
unfoldable pub keys_from : List KeyLine → Party → (ℕ → Party) → ℕ → List (Option (List ℕ))
keys_from lines (Validator me) sender count = map (λ number. key_between lines (sender number) me) (range_with_len 0 count)
keys_from lines (Client me) sender count = []

-- the ring that these lines make
unfoldable pub ring_with : Party → ℕ → List KeyLine → Result Ring KeysFault
ring_with me count lines = do
  to_validators ← every_key (map (λ number. key_between lines me number) (range_with_len 0 count))
  from_validators ← every_key (keys_from lines me Validator count)
  Ok (record { me = me; count = count; from_validators = from_validators; from_clients = keys_from lines me Client 1024; to_validators = to_validators })

-- the ring of a party, read from a text of lines
unfoldable pub ring_of : Party → ℕ → List ℕ → Result Ring KeysFault
ring_of me count text = do
  lines ← with_lines me count [] (slice_split is_line_feed text)
  ring_with me count lines

-- Key files line by line, and keys in turn.
use Rattle.std.proofs.Common.{◌≡◌, ℕ, zero, suc, ◌+◌, ◌<◌, List, [], ◌∷◌, ◌++◌, length, map, drop, get_or, Option, Some, None, Result, Ok, Err, inl, inr, refl, sym, ap, subst, ◌∙◌, arith}
use Rattle.std.specs.List.{range_with_len, slice_get, slice_split}
use Rattle.std.proofs.lemmas.Bool.{cases_lt}
use Rattle.std.proofs.lemmas.List.{at_drop_more, drop_all, map_push}
use Rattle.std.proofs.lemmas.Option.{slice_get_past}
use Rattle.std.proofs.lemmas.List.FromFn.{map-range_with_len_more, length-map-range_with_len, get_or-map-range_with_len}
use Rattle.authenticators.specs.Keys.{◌>>=◌, Fails, with_line, with_lines, every_key, keys_from, key_between, is_line_feed, ring_with, ring_of}
use Rattle.authenticators.specs.Ring.{sender_count}
use Rattle.authenticators.specs.declared.party.Party.TheVariants.{Validator, Client}
use Rattle.authenticators.specs.declared.party.Party.{Party}
use Rattle.authenticators.specs.declared.key_line.KeyLine.{KeyLine}
use Rattle.authenticators.specs.declared.fault.KeysFault.{KeysFault}
use Rattle.authenticators.specs.declared.fault.KeysFault.TheVariants.{BadLine, Missing, Repeated, OutOfMemory}

-- a fault stays the first, whatever comes after it
pub Fails-then : {X Y : Type 0} (e : KeysFault) (r : Result X KeysFault) (f : X → Result Y KeysFault) → Fails e r → Fails e (r >>= f)
Fails-then BadLine r f h = rw h refl
Fails-then Missing r f h = rw h refl
Fails-then Repeated r f h = rw h refl
Fails-then OutOfMemory r f h = tt

-- ---- lines in turn

-- what the lines from the i-th on give: that line, and those after it
lines_from : (me : Party) (count : ℕ) (lines : List KeyLine) (parts : List (List ℕ)) (i : ℕ) (line : List ℕ) → i < length parts → line ≡ get_or parts i line
    → with_lines me count lines (drop i parts) ≡ (with_line me count lines line >>= λ more. with_lines me count more (drop (i + 1) parts))
unfolding with_lines
lines_from me count lines parts i line h here =
    let split = at_drop_more (with_lines me count lines) parts i line h in
    let Goal : List ℕ → Type 0 = λ x. with_lines me count lines (drop i parts) ≡ (with_line me count lines x >>= λ more. with_lines me count more (drop (i + 1) parts)) in
    subst Goal (sym here) split

-- a line that is taken
pub lines_more : (me : Party) (count : ℕ) (lines more : List KeyLine) (parts : List (List ℕ)) (i : ℕ) (line : List ℕ) → i < length parts → line ≡ get_or parts i line
    → with_line me count lines line ≡ Ok more → with_lines me count more (drop (i + 1) parts) ≡ with_lines me count lines (drop i parts)
lines_more me count lines more parts i line h here taken =
    sym (lines_from me count lines parts i line h here ∙ ap (λ r. r >>= λ next. with_lines me count next (drop (i + 1) parts)) taken)

-- a line with a fault
pub lines_fail : (me : Party) (count : ℕ) (lines : List KeyLine) (parts : List (List ℕ)) (i : ℕ) (line : List ℕ) (e : KeysFault) → i < length parts → line ≡ get_or parts i line
    → Fails e (with_line me count lines line) → Fails e (with_lines me count lines (drop i parts))
lines_fail me count lines parts i line e h here fault =
    rw (lines_from me count lines parts i line h here) (Fails-then e (with_line me count lines line) (λ next. with_lines me count next (drop (i + 1) parts)) fault)

-- no line is left
pub lines_done : (me : Party) (count : ℕ) (lines : List KeyLine) (parts : List (List ℕ)) (i : ℕ) → i ≡ length parts → with_lines me count lines (drop i parts) ≡ Ok lines
unfolding with_lines
lines_done me count lines parts i e = let all : drop i parts ≡ [] = drop_all i parts (omega arith) in rw all refl

-- ---- keys in turn

pub every_key-some : (keys : List (List ℕ)) → every_key (map (λ (key : List ℕ). Some key) keys) ≡ Ok keys
unfolding every_key
every_key-some [] = refl
every_key-some (key ∷ keys) = rw (every_key-some keys) refl

every_key-none : (found : List (Option (List ℕ))) (i : ℕ) (d : Option (List ℕ)) → i < length found → get_or found i d ≡ None → every_key found ≡ Err Missing
unfolding every_key
every_key-none [] i d h e = absurd (omega arith)
every_key-none (None ∷ others) i d h e = refl
every_key-none (Some key ∷ others) zero d h e = absurd (cc)
every_key-none (Some key ∷ others) (suc i) d h e = rw (every_key-none others i d (omega arith) e) refl

-- one key is absent
pub key_missing : (key : ℕ → Option (List ℕ)) (count i : ℕ) → i < count → None ≡ key i → every_key (map key (range_with_len 0 count)) ≡ Err Missing
key_missing key count i h e =
    every_key-none (map key (range_with_len 0 count)) i None (omega (arith, length-map-range_with_len key 0 count))
    (get_or-map-range_with_len key 0 count i i None h (omega arith) ∙ sym e)

-- one key more
pub keys_more : (key : ℕ → Option (List ℕ)) (keys : List (List ℕ)) (i : ℕ) (found : List ℕ) → Some found ≡ key i
    → map (λ (key : List ℕ). Some key) keys ≡ map key (range_with_len 0 i) → map (λ (key : List ℕ). Some key) (keys ++ found ∷ []) ≡ map key (range_with_len 0 (i + 1))
keys_more key keys i found here h =
    map_push (λ (key : List ℕ). Some key) keys found
    ∙ rw (h, here) (sym (map-range_with_len_more key 0 i i (omega arith)))

bind_key : (key : List ℕ) (rest : Result (List (List ℕ)) KeysFault) (keys : List (List ℕ)) → (rest >>= λ others. Ok (key ∷ others)) ≡ Ok keys
    → (others : List (List ℕ)) × (rest ≡ Ok others) × (keys ≡ key ∷ others)
bind_key key (Ok others) keys e = (others, refl, cc)
bind_key key (Err f) keys e = absurd (cc)

-- none of the keys is left out
pub length-every_key : (found : List (Option (List ℕ))) (keys : List (List ℕ)) → every_key found ≡ Ok keys → length keys ≡ length found
unfolding every_key
length-every_key [] keys e = let nothing : keys ≡ [] = cc in rw nothing refl
length-every_key (None ∷ others) keys e = absurd (cc)
length-every_key (Some key ∷ others) keys e =
    let parts = bind_key key (every_key others) keys e in
    let more = length-every_key others parts.0 parts.1 in
    rw parts.2 (omega (arith, more))

pub length-keys_from : (lines : List KeyLine) (me : Party) (sender : ℕ → Party) (count : ℕ) → length (keys_from lines me sender count) ≡ sender_count me count
unfolding keys_from
length-keys_from lines (Validator me) sender count = length-map-range_with_len (λ number. key_between lines (sender number) me) 0 count
length-keys_from lines (Client me) sender count = refl

-- ---- the ring

abbrev to_each : List KeyLine → Party → ℕ → List (Option (List ℕ))
to_each lines me count = map (λ number. key_between lines me number) (range_with_len 0 count)

pub no_key_to : (me : Party) (count : ℕ) (lines : List KeyLine) (e : KeysFault) → Fails e (every_key (map (λ number. key_between lines me number) (range_with_len 0 count))) → Fails e (ring_with me count lines)
unfolding ring_with
no_key_to me count lines e fault = Fails-then e (every_key (to_each lines me count)) _ fault

pub no_key_from : (me : Party) (count : ℕ) (lines : List KeyLine) (to_validators : List (List ℕ)) (e : KeysFault)
    → every_key (map (λ number. key_between lines me number) (range_with_len 0 count)) ≡ Ok to_validators → Fails e (every_key (keys_from lines me Validator count)) → Fails e (ring_with me count lines)
unfolding ring_with
no_key_from me count lines to_validators e to fault = rw to (Fails-then e (every_key (keys_from lines me Validator count)) _ fault)

pub the_ring : (me : Party) (count : ℕ) (lines : List KeyLine) (to_validators from_validators : List (List ℕ)) (from_clients : List (Option (List ℕ)))
    → every_key (map (λ number. key_between lines me number) (range_with_len 0 count)) ≡ Ok to_validators → every_key (keys_from lines me Validator count) ≡ Ok from_validators
    → from_clients ≡ keys_from lines me Client 1024
    → ring_with me count lines ≡ Ok (record { me = me; count = count; from_validators = from_validators; from_clients = from_clients; to_validators = to_validators })
unfolding ring_with
the_ring me count lines to_validators from_validators from_clients to from clients = rw (to, from, clients) refl

pub no_lines : (me : Party) (count : ℕ) (text : List ℕ) (e : KeysFault) → Fails e (with_lines me count [] (slice_split is_line_feed text)) → Fails e (ring_of me count text)
unfolding ring_of
no_lines me count text e fault = Fails-then e (with_lines me count [] (slice_split is_line_feed text)) _ fault

-- the keys to all validators, and from those that send
ring_lengths : (me : Party) (count : ℕ) (lines : List KeyLine) (to_validators from_validators : List (List ℕ))
    → every_key (map (λ number. key_between lines me number) (range_with_len 0 count)) ≡ Ok to_validators → every_key (keys_from lines me Validator count) ≡ Ok from_validators
    → (length to_validators ≡ count) × (length from_validators ≡ sender_count me count)
ring_lengths me count lines to_validators from_validators to from = (
  length-every_key (to_each lines me count) to_validators to ∙ length-map-range_with_len (λ number. key_between lines me number) 0 count,
  length-every_key (keys_from lines me Validator count) from_validators from ∙ length-keys_from lines me Validator count,
)

-- the key at a place
pub slice_get-every_key : (found : List (Option (List ℕ))) (keys : List (List ℕ)) (i : ℕ) → every_key found ≡ Ok keys → slice_get keys i ≡ get_or found i None
unfolding every_key
slice_get-every_key [] keys i e = let nothing : keys ≡ [] = cc in rw nothing refl
slice_get-every_key (None ∷ others) keys i e = absurd (cc)
slice_get-every_key (Some key ∷ others) keys zero e = rw (bind_key key (every_key others) keys e).2 refl
slice_get-every_key (Some key ∷ others) keys (suc i) e =
    let parts = bind_key key (every_key others) keys e in
    rw parts.2 (slice_get-every_key others parts.0 i parts.1)

key_at : (key : ℕ → Option (List ℕ)) (count i : ℕ) (keys : List (List ℕ)) → i < count → every_key (map key (range_with_len 0 count)) ≡ Ok keys → slice_get keys i ≡ key i
key_at key count i keys below e = slice_get-every_key _ keys i e ∙ get_or-map-range_with_len key 0 count i i None below (omega arith)

-- a validator's key for itself is one key, if it is among those that there are
own_key : (number count : ℕ) (lines : List KeyLine) (to_validators from_validators : List (List ℕ))
    → every_key (map (λ other. key_between lines (Validator number) other) (range_with_len 0 count)) ≡ Ok to_validators
    → every_key (keys_from lines (Validator number) Validator count) ≡ Ok from_validators
    → slice_get from_validators number ≡ slice_get to_validators number
unfolding keys_from
own_key number count lines to_validators from_validators to from =
    let lengths = ring_lengths (Validator number) count lines to_validators from_validators to from in
    elim (cases_lt number count) [
      | inl below ↦
          key_at (λ other. key_between lines (Validator other) number) count number from_validators below from
          ∙ sym (key_at (λ other. key_between lines (Validator number) other) count number to_validators below to)
      | inr past ↦ slice_get_past from_validators number (omega (arith, lengths.1)) ∙ sym (slice_get_past to_validators number (omega (arith, lengths.0)))
    ]

-- what the keys of a ring keep
pub ring_keeps : (me : Party) (count : ℕ) (lines : List KeyLine) (to_validators from_validators : List (List ℕ))
    → every_key (map (λ number. key_between lines me number) (range_with_len 0 count)) ≡ Ok to_validators → every_key (keys_from lines me Validator count) ≡ Ok from_validators
    → (length to_validators ≡ count) × (length from_validators ≡ sender_count me count)
    × ((number : ℕ) → me ≡ Validator number → slice_get from_validators number ≡ slice_get to_validators number)
ring_keeps me count lines to_validators from_validators to from =
    let lengths = ring_lengths me count lines to_validators from_validators to from in
    (lengths.0, lengths.1, λ number is. own_key number count lines to_validators from_validators (rw is at to) (rw is at from))

-- the lines of the file say it all
pub ring_of-lines : (me : Party) (count : ℕ) (text : List ℕ) (lines : List KeyLine) → with_lines me count [] (slice_split is_line_feed text) ≡ Ok lines → ring_of me count text ≡ ring_with me count lines
unfolding ring_of
ring_of-lines me count text lines e = rw e refl

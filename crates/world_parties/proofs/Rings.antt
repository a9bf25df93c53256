-- The key file of a validator gives the keys of the schedule's setting.
use Rattle.std.proofs.Common.{◌≡◌, ℕ, zero, suc, ◌+◌, ◌<◌, ◌≤◌, Bool, true, false, cond, ◌&&◌, ◌||◌, List, [], ◌∷◌, ◌++◌, map, length, get_or, Option, Some, None, Result, Ok, Err, inl, inr, refl, sym, ap, ◌∙◌, arith, add-one, append_assoc, le-ltb}
use Rattle.std.specs.Prelude.{nat_lt, ◌==◌, option_map, find}
use Rattle.std.specs.List.{flat_map, range_with_len, slice_get, slice_split}
use Rattle.std.specs.Option.{option_or}
use Rattle.std.proofs.Math.Bool.{and-true}
use Rattle.std.proofs.lemmas.Bool.{and_parts, cases_Bool, cases_eq, cases_lt, eq-eqb, eqb-true}
use Rattle.std.proofs.lemmas.Bool.Decides.{nat_tests}
use Rattle.std.proofs.lemmas.List.{append-nil, get_or_past, map_push}
use Rattle.std.proofs.lemmas.List.Folds.{find-append}
use Rattle.std.proofs.lemmas.List.FromFn.{get_or-map-range_with_len, length-map-range_with_len, map-range_with_len_more}
use Rattle.std.proofs.lemmas.List.Splits.{slice_split_at}
use Rattle.std.proofs.lemmas.Option.{slice_get-get_or}
use Rattle.authenticators.specs.Keys.{◌>>=◌, same_party, is_mine, is_between, is_line_feed, every_key, keys_from, with_line, with_lines, ring_with, ring_of}
use Rattle.authenticators.specs.Keys as read
use Rattle.authenticators.specs.Ring.{Ring}
use Rattle.authenticators.specs.declared.key_line.KeyLine.{KeyLine}
use Rattle.authenticators.specs.declared.fault.KeysFault.{KeysFault}
use Rattle.authenticators.proofs.Files.{every_key-some, the_ring, ring_of-lines}
use Rattle.protocol.specs.Tags.{Party, Validator, Client}
use Rattle.protocol.specs.Messages.{below}
use Rattle.protocol.specs.Rings.{IsRingOf}
use Rattle.world_parties.specs.Keys.{key_between, setting}
use Rattle.world_parties.specs.KeyFile.{key_line, with_feed, lines_with, line_of_client, key_file}
use Rattle.world_parties.proofs.KeyFiles.{no_lines, more_lines}
use Rattle.world_parties.proofs.KeyLines.{number_of, key_line-reads, no_feed, not_skipped}

-- ---- the keys that lines have

abbrev line_between : Party → ℕ → KeyLine
line_between from to = record { from = from; to = to; key = key_between from to }

-- the lines have just the keys of this set
record Lists (lines : List KeyLine) (set : Party → ℕ → Bool) : Type 0 where
  found : (from : Party) (to : ℕ) → read.key_between lines from to ≡ cond (set from to) (Some (key_between from to)) None

abbrev and_between : (Party → ℕ → Bool) → Party → ℕ → Party → ℕ → Bool
and_between set from to f t = set f t || (same_party from f && (to == t))

same_is : (a b : Party) → same_party a b ≡ true → a ≡ b
same_is (Validator a) (Validator b) h = ap (λ (n : ℕ). Validator n) (eqb-true a b h)
same_is (Validator a) (Client b) h = absurd (let f : false ≡ true = h in cc)
same_is (Client a) (Validator b) h = absurd (let f : false ≡ true = h in cc)
same_is (Client a) (Client b) h = ap (λ (n : ℕ). Client n) (eqb-true a b h)

or_some : (a b : Option KeyLine) (key : List ℕ) → option_map (λ (l : KeyLine). l.key) a ≡ Some key → option_map (λ (l : KeyLine). l.key) (option_or a b) ≡ Some key
or_some None b key h = absurd (cc)
or_some (Some l) b key h = h

or_none : (a b : Option KeyLine) → option_map (λ (l : KeyLine). l.key) a ≡ None → option_map (λ (l : KeyLine). l.key) (option_or a b) ≡ option_map (λ (l : KeyLine). l.key) b
or_none None b h = refl
or_none (Some l) b h = absurd (cc)

-- the last line's key, where it is between these
found_last : (from : Party) (to : ℕ) (f : Party) (t : ℕ) → option_map (λ (l : KeyLine). l.key) (find (is_between f t) (line_between from to ∷ [])) ≡ cond (same_party from f && (to == t)) (Some (key_between f t)) None
found_last from to f t =
    elim (cases_Bool (same_party from f && (to == t))) [
      | inl same ↦
          let one = same_is from f (and_parts _ _ same).0 in
          let other = eqb-true to t (and_parts _ _ same).1 in
          rw same (ap (λ (p : Party). Some (key_between p to)) one ∙ ap (λ (n : ℕ). Some (key_between f n)) other)
      | inr other ↦ rw other refl
    ]

found_then : (lines : List KeyLine) (set : Party → ℕ → Bool) (from : Party) (to : ℕ) (f : Party) (t : ℕ) → read.key_between lines f t ≡ cond (set f t) (Some (key_between f t)) None
    → read.key_between (lines ++ line_between from to ∷ []) f t ≡ cond (and_between set from to f t) (Some (key_between f t)) None
unfolding read.key_between
found_then lines set from to f t was =
    rw (find-append (is_between f t) lines (line_between from to ∷ []))
    (elim (cases_Bool (set f t)) [
      | inl old ↦ rw old (or_some (find (is_between f t) lines) (find (is_between f t) (line_between from to ∷ [])) (key_between f t) (rw old at was))
      | inr new ↦ rw new (or_none (find (is_between f t) lines) (find (is_between f t) (line_between from to ∷ [])) (rw new at was) ∙ found_last from to f t)
    ])

one_more : (lines : List KeyLine) (set : Party → ℕ → Bool) (from : Party) (to : ℕ) → Lists lines set → Lists (lines ++ line_between from to ∷ []) (and_between set from to)
one_more lines set from to h = record { found = λ f t. found_then lines set from to f t (h.found f t) }

-- ---- lines in turn

abbrev reads : ℕ → ℕ → List KeyLine → List ℕ → Result (List KeyLine) KeysFault
reads me n lines text = with_lines (Validator me) n lines (slice_split is_line_feed text)

-- what a line asks: numbers that can be read, of parties that there are
record IsFit (me n : ℕ) (from : Party) (to : ℕ) : Type 0 where
  sender : number_of from < 65536
  receiver : to < 65536
  mine : is_mine (Validator me) n (line_between from to) ≡ true

taken : (me n : ℕ) (lines : List KeyLine) (set : Party → ℕ → Bool) (from : Party) (to : ℕ) → IsFit me n from to → Lists lines set → set from to ≡ false
    → with_line (Validator me) n lines (key_line from to) ≡ Ok (lines ++ line_between from to ∷ [])
unfolding with_line
taken me n lines set from to fit h new =
    let absent : read.key_between lines from to ≡ None = h.found from to ∙ rw new refl in
    rw (not_skipped from to, key_line-reads from to fit.sender fit.receiver, fit.mine, absent) refl

read_line : (me n : ℕ) (lines : List KeyLine) (set : Party → ℕ → Bool) (from : Party) (to : ℕ) (rest : List ℕ) → IsFit me n from to → Lists lines set → set from to ≡ false
    → reads me n lines (with_feed (key_line from to) ++ rest) ≡ reads me n (lines ++ line_between from to ∷ []) rest
unfolding with_lines
read_line me n lines set from to rest fit h new =
    let cut : slice_split is_line_feed (with_feed (key_line from to) ++ rest) ≡ key_line from to ∷ slice_split is_line_feed rest =
    rw append_assoc (slice_split_at is_line_feed (key_line from to) 10 rest (no_feed from to fit.sender fit.receiver) refl) in
    rw (cut, taken me n lines set from to fit h new) refl

read_end : (me n : ℕ) (lines : List KeyLine) → reads me n lines [] ≡ Ok lines
unfolding with_lines with_line
read_end me n lines = refl

-- a beginning of the file was read, and gave just the keys of this set
record HasRead (me n : ℕ) (text : List ℕ) (set : Party → ℕ → Bool) : Type 0 where
  lines : List KeyLine
  lists : Lists lines set
  goes_on : (rest : List ℕ) → reads me n [] (text ++ rest) ≡ reads me n lines rest

read_more : (me n : ℕ) (text : List ℕ) (set : Party → ℕ → Bool) (from : Party) (to : ℕ) → HasRead me n text set → IsFit me n from to → set from to ≡ false
    → HasRead me n (text ++ with_feed (key_line from to)) (and_between set from to)
read_more me n text set from to h fit new = record {
  lines = h.lines ++ line_between from to ∷ [];
  lists = one_more h.lines set from to h.lists;
  goes_on = λ rest. rw (append_assoc text (with_feed (key_line from to)) rest) (h.goes_on (with_feed (key_line from to) ++ rest) ∙ read_line me n h.lines set from to rest fit h.lists new);
}

same_set : (me n : ℕ) (text : List ℕ) (set other : Party → ℕ → Bool) → ((f : Party) (t : ℕ) → set f t ≡ other f t) → HasRead me n text set → HasRead me n text other
same_set me n text set other same h = record {
  lines = h.lines;
  lists = record { found = λ f t. h.lists.found f t ∙ ap (λ (b : Bool). cond b (Some (key_between f t)) None) (same f t) };
  goes_on = h.goes_on;
}

-- ---- the file, validator after validator and client after client

-- the keys with the first k validators, and from the first j clients
abbrev listed : ℕ → ℕ → ℕ → Party → ℕ → Bool
listed me k j (Validator i) t = (nat_lt i k && (t == me)) || ((i == me) && nat_lt t k)
listed me k j (Client i) t = nat_lt i j && (t == me)

with_own : (me k i t : ℕ) → k ≡ me → (((nat_lt i k && (t == me)) || ((i == me) && nat_lt t k)) || ((k == i) && (me == t))) ≡ ((nat_lt i (k + 1) && (t == me)) || ((i == me) && nat_lt t (k + 1)))
with_own me k i t same = grind (arith, nat_tests)

with_other : (me k i t : ℕ) → (k ≡ me → ⊥) → ((((nat_lt i k && (t == me)) || ((i == me) && nat_lt t k)) || ((k == i) && (me == t))) || ((me == i) && (k == t))) ≡ ((nat_lt i (k + 1) && (t == me)) || ((i == me) && nat_lt t (k + 1)))
with_other me k i t other = grind (arith, nat_tests)

with_client : (me j i t : ℕ) → ((nat_lt i j && (t == me)) || ((j == i) && (me == t))) ≡ (nat_lt i (j + 1) && (t == me))
with_client me j i t = grind (arith, nat_tests)

none_listed : (me : ℕ) (f : Party) (t : ℕ) → listed me 0 0 f t ≡ false
none_listed me (Validator i) t = grind (arith, nat_tests)
none_listed me (Client i) t = grind (arith, nat_tests)

fit_from : (me n k : ℕ) → me < n → n < 65536 → k < n → IsFit me n (Validator k) me
fit_from me n k within few h = record { sender = omega arith; receiver = omega arith; mine = grind (arith, nat_tests) }

fit_to : (me n k : ℕ) → me < n → n < 65536 → k < n → IsFit me n (Validator me) k
fit_to me n k within few h = record { sender = omega arith; receiver = omega arith; mine = grind (arith, nat_tests) }

fit_client : (me n j : ℕ) → me < n → n < 65536 → j < 1024 → IsFit me n (Client j) me
fit_client me n j within few h = record { sender = omega arith; receiver = omega arith; mine = grind (arith, nat_tests) }

new_from : (me k : ℕ) → listed me k 0 (Validator k) me ≡ false
new_from me k = grind (arith, nat_tests)

new_to : (me k : ℕ) → (k ≡ me → ⊥) → and_between (listed me k 0) (Validator k) me (Validator me) k ≡ false
new_to me k other = grind (arith, nat_tests)

new_client : (me n j : ℕ) → listed me n j (Client j) me ≡ false
new_client me n j = grind (arith, nat_tests)

validator_more : (me n k : ℕ) → me < n → n < 65536 → k < n → HasRead me n (flat_map (lines_with me) (below k)) (listed me k 0)
    → HasRead me n (flat_map (lines_with me) (below k) ++ lines_with me k) (listed me (k + 1) 0)
validator_more me n k within few h so_far =
    let text = flat_map (lines_with me) (below k) in
    let first = read_more me n text (listed me k 0) (Validator k) me so_far (fit_from me n k within few h) (new_from me k) in
    elim (cases_eq k me) [
      | inl same ↦
          let test : (k == me) ≡ true = eq-eqb k me same in
          rw (test, append-nil) (same_set me n _ _ _ (λ f t. elim f as (λ p. and_between (listed me k 0) (Validator k) me p t ≡ listed me (k + 1) 0 p t) [ Validator i ↦ with_own me k i t same | Client i ↦ grind (arith, nat_tests) ]) first)
      | inr other ↦
          let test : (k == me) ≡ false = grind (arith, nat_tests) in
          let second = read_more me n (text ++ with_feed (key_line (Validator k) me)) (and_between (listed me k 0) (Validator k) me) (Validator me) k first (fit_to me n k within few h) (new_to me k other) in
          rw (test, ← append_assoc) (same_set me n _ _ _ (λ f t. elim f as (λ p. and_between (and_between (listed me k 0) (Validator k) me) (Validator me) k p t ≡ listed me (k + 1) 0 p t) [ Validator i ↦ with_other me k i t other | Client i ↦ grind (arith, nat_tests) ]) second)
    ]

nothing_read : (me : ℕ) (f : Party) (t : ℕ) → read.key_between [] f t ≡ cond (listed me 0 0 f t) (Some (key_between f t)) None
unfolding read.key_between
nothing_read me f t = rw (none_listed me f t) refl

begins : (me n : ℕ) → HasRead me n [] (listed me 0 0)
begins me n = record {
  lines = [];
  lists = record { found = nothing_read me };
  goes_on = λ rest. refl;
}

validators_read : (me n k : ℕ) → me < n → n < 65536 → k ≤ n → HasRead me n (flat_map (lines_with me) (below k)) (listed me k 0)
validators_read me n zero within few h = rw (no_lines (lines_with me)) (begins me n)
validators_read me n (suc k) within few h =
    let more = validator_more me n k within few (omega arith) (validators_read me n k within few (omega arith)) in
    rw (← add-one) (rw (more_lines (lines_with me) k) more)

client_more : (me n j : ℕ) (text : List ℕ) → me < n → n < 65536 → j < 1024 → HasRead me n text (listed me n j) → HasRead me n (text ++ line_of_client me j) (listed me n (j + 1))
client_more me n j text within few h so_far =
    let more = read_more me n text (listed me n j) (Client j) me so_far (fit_client me n j within few h) (new_client me n j) in
    same_set me n _ _ _ (λ f t. elim f as (λ p. and_between (listed me n j) (Client j) me p t ≡ listed me n (j + 1) p t) [ Validator i ↦ grind (arith, nat_tests) | Client i ↦ with_client me j i t ]) more

clients_read : (me n j : ℕ) → me < n → n < 65536 → j ≤ 1024 → HasRead me n (flat_map (lines_with me) (below n) ++ flat_map (line_of_client me) (below j)) (listed me n j)
clients_read me n zero within few h =
    let all = validators_read me n n within few (omega arith) in
    rw (no_lines (line_of_client me), append-nil) all
clients_read me n (suc j) within few h =
    let text = flat_map (lines_with me) (below n) in
    let more = client_more me n j (text ++ flat_map (line_of_client me) (below j)) within few (omega arith) (clients_read me n j within few (omega arith)) in
    rw (← add-one) (rw (more_lines (line_of_client me) j, ← append_assoc) more)

-- ---- the ring

-- one more of a row
range_more : {X : Type 0} (f : ℕ → X) (n : ℕ) → map f (range_with_len 0 (suc n)) ≡ map f (range_with_len 0 n) ++ f n ∷ []
range_more f n = rw add-one at (map-range_with_len_more f 0 n n (omega arith))

-- the keys of each in turn, where none is absent
all_found : (find_at : ℕ → Option (List ℕ)) (key : ℕ → List ℕ) (n : ℕ) → ((i : ℕ) → i < n → find_at i ≡ Some (key i)) → map find_at (range_with_len 0 n) ≡ map (λ (k : List ℕ). Some k) (map key (below n))
unfolding below
all_found find_at key zero h = refl
all_found find_at key (suc n) h =
    let front = all_found find_at key n (λ i less. h i (omega arith)) in
    range_more find_at n ∙ rw (front, h n (omega arith)) (sym (rw (map_push key (below n) n) (map_push (λ (k : List ℕ). Some k) (map key (below n)) (key n))))

below_is_range : (key : ℕ → List ℕ) (n : ℕ) → map key (below n) ≡ map key (range_with_len 0 n)
unfolding below
below_is_range key zero = refl
below_is_range key (suc n) = map_push key (below n) n ∙ ap (λ (w : List (List ℕ)). w ++ key n ∷ []) (below_is_range key n) ∙ sym (range_more key n)

-- the i-th of them
below_at : (key : ℕ → List ℕ) (n i : ℕ) → i < n → slice_get (map key (below n)) i ≡ Some (key i)
below_at key n i h =
    rw (below_is_range key n) (slice_get-get_or (map key (range_with_len 0 n)) i [] (omega (arith, length-map-range_with_len key 0 n)) ∙ ap (λ (k : List ℕ). Some k) (get_or-map-range_with_len key 0 n i i [] h (omega arith)))

listed_to : (me n m i : ℕ) → i < n → listed me n m (Validator me) i ≡ true
listed_to me n m i h = grind (arith, nat_tests)

listed_from : (me n m i : ℕ) → i < n → listed me n m (Validator i) me ≡ true
listed_from me n m i h = grind (arith, nat_tests)

keys_to : (me n m : ℕ) (lines : List KeyLine) → Lists lines (listed me n m) → every_key (map (λ number. read.key_between lines (Validator me) number) (range_with_len 0 n)) ≡ Ok (map (key_between (Validator me)) (below n))
keys_to me n m lines h =
    rw (all_found (λ number. read.key_between lines (Validator me) number) (key_between (Validator me)) n (λ i less. h.found (Validator me) i ∙ rw (listed_to me n m i less) refl))
    (every_key-some (map (key_between (Validator me)) (below n)))

keys_of : (me n m : ℕ) (lines : List KeyLine) → Lists lines (listed me n m) → every_key (keys_from lines (Validator me) Validator n) ≡ Ok (map (λ i. key_between (Validator i) me) (below n))
unfolding keys_from
keys_of me n m lines h =
    rw (all_found (λ number. read.key_between lines (Validator number) me) (λ i. key_between (Validator i) me) n (λ i less. h.found (Validator i) me ∙ rw (listed_from me n m i less) refl))
    (every_key-some (map (λ i. key_between (Validator i) me) (below n)))

client_at : (me n m : ℕ) (lines : List KeyLine) → m ≤ 1024 → Lists lines (listed me n m) → (i : ℕ)
    → get_or (keys_from lines (Validator me) Client 1024) i None ≡ cond (nat_lt i m) (Some (key_between (Client i) me)) None
unfolding keys_from
client_at me n m lines few h i =
    let find_at : ℕ → Option (List ℕ) = λ number. read.key_between lines (Client number) me in
    elim (cases_lt i 1024) [
      | inl within ↦
          let own : (me == me) ≡ true = eq-eqb me me refl in
          get_or-map-range_with_len find_at 0 1024 i i None within (omega arith) ∙ h.found (Client i) me ∙ rw (own, and-true) refl
      | inr past ↦
          let unknown : nat_lt i m ≡ false = le-ltb i m (omega arith) in
          get_or_past (map find_at (range_with_len 0 1024)) i None (omega (arith, length-map-range_with_len find_at 0 1024)) ∙ rw unknown refl
    ]

lines_read : (me n m : ℕ) → (h : HasRead me n (flat_map (lines_with me) (below n) ++ flat_map (line_of_client me) (below m)) (listed me n m))
    → with_lines (Validator me) n [] (slice_split is_line_feed (key_file me n m)) ≡ Ok h.lines
unfolding key_file
lines_read me n m h = rw append-nil at (h.goes_on []) ∙ read_end me n h.lines

-- the keys are read, and are those
abbrev pub IsReadRight : ℕ → ℕ → ℕ → Result Ring KeysFault → Type 0
IsReadRight me validators clients (Ok ring) = (powers : List ℕ) → length powers ≡ validators → IsRingOf (setting powers clients) me ring
IsReadRight me validators clients (Err fault) = ⊥

pub file_is_right : (me validators clients : ℕ) → me < validators → validators < 65536 → clients ≤ 1024 → IsReadRight me validators clients (ring_of (Validator me) validators (key_file me validators clients))
file_is_right me n m within few_validators few_clients =
    let h = clients_read me n m within few_validators few_clients in
    let to = keys_to me n m h.lines h.lists in
    let from = keys_of me n m h.lines h.lists in
    let ring : ring_of (Validator me) n (key_file me n m) ≡ Ok (record { me = Validator me; count = n; from_validators = map (λ i. key_between (Validator i) me) (below n); from_clients = keys_from h.lines (Validator me) Client 1024; to_validators = map (key_between (Validator me)) (below n) }) =
    ring_of-lines (Validator me) n (key_file me n m) h.lines (lines_read me n m h)
    ∙ the_ring (Validator me) n h.lines (map (key_between (Validator me)) (below n)) (map (λ i. key_between (Validator i) me) (below n)) (keys_from h.lines (Validator me) Client 1024) to from refl in
    rw ring (λ powers same. record {
      me = refl;
      count = sym same;
      from_validators = λ i less. below_at (λ i. key_between (Validator i) me) n i (rw same at less);
      from_clients = client_at me n m h.lines few_clients h.lists;
      to_validators = rw same refl;
    })

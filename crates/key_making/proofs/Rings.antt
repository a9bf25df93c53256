-- A key file is read as the keys that it was made of.
use Rattle.std.proofs.Common.{◌≡◌, ℕ, zero, suc, ◌+◌, ◌<◌, ◌≤◌, Bool, true, false, cond, ◌&&◌, ◌||◌, List, [], ◌∷◌, ◌++◌, map, length, get_or, Option, Some, None, Result, Ok, inl, inr, refl, sym, ap, ◌∙◌, arith, add-one, append_assoc, le-ltb}
use Rattle.std.specs.Prelude.{nat_lt, ◌==◌, option_map, find}
use Rattle.std.specs.List.{flat_map, range_with_len, slice_split}
use Rattle.std.specs.Option.{option_or}
use Rattle.std.proofs.Math.Bool.{and-true}
use Rattle.std.proofs.lemmas.Bool.{and_parts, cases_Bool, cases_eq, cases_lt, eq-eqb, eqb-true}
use Rattle.std.proofs.lemmas.Bool.Decides.{nat_tests}
use Rattle.std.proofs.lemmas.List.{append-nil, get_or_past, map_push}
use Rattle.std.proofs.lemmas.List.Folds.{find-append}
use Rattle.std.proofs.lemmas.List.FromFn.{get_or-map-range_with_len, length-map-range_with_len}
use Rattle.std.proofs.lemmas.List.Splits.{slice_split_at}
use Rattle.authenticators.specs.Keys.{◌>>=◌, same_party, is_mine, is_between, is_line_feed, every_key, keys_from, with_line, with_lines, ring_with, ring_of}
use Rattle.authenticators.specs.Keys as read
use Rattle.authenticators.specs.declared.key_line.KeyLine.{KeyLine}
use Rattle.authenticators.specs.declared.fault.KeysFault.{KeysFault}
use Rattle.authenticators.proofs.Files.{every_key-some, the_ring, ring_of-lines}
use Rattle.protocol.specs.Tags.{Party, Validator, Client}
use Rattle.protocol.specs.Messages.{below}
use Rattle.protocol.specs.Rings.{IsRingOf}
use Rattle.protocol.specs.Tags.{Setting}
use Rattle.key_making.specs.Table.{IsKey}
use Rattle.key_making.specs.Rings.{ReadsAs}
use Rattle.key_making.specs.KeyFile.{key_line, with_feed, lines_with, line_of_client, line_to, validator_file, client_file}
use Rattle.key_making.proofs.KeyFiles.{no_lines, more_lines, range_more, below_at}
use Rattle.key_making.proofs.KeyLines.{number_of, key_line-reads, no_feed, not_skipped}

module _ (keys : Party → ℕ → List ℕ) (good : (from : Party) (to : ℕ) → IsKey (keys from to)) where
  -- ---- the keys that lines have

  abbrev line_between : Party → ℕ → KeyLine
  line_between from to = record { from = from; to = to; key = keys from to }

  -- the lines have just the keys of this set
  record Lists (lines : List KeyLine) (set : Party → ℕ → Bool) : Type 0 where
    found : (from : Party) (to : ℕ) → read.key_between lines from to ≡ cond (set from to) (Some (keys from to)) None

  abbrev and_between : (Party → ℕ → Bool) → Party → ℕ → Party → ℕ → Bool
  and_between set from to f t = set f t || (same_party from f && (to == t))

  same_is : (a b : Party) → same_party a b ≡ true → a ≡ b
  same_is (Validator a) (Validator b) h = ap (λ (n : ℕ). Validator n) (eqb-true a b h)
  same_is (Validator a) (Client b) h = absurd (let f : false ≡ true = h in cc)
  same_is (Client a) (Validator b) h = absurd (let f : false ≡ true = h in cc)
  same_is (Client a) (Client b) h = ap (λ (n : ℕ). Client n) (eqb-true a b h)

  or_some : (a b : Option KeyLine) (key : List ℕ) → option_map (λ (l : KeyLine). l.key) a ≡ Some key → option_map (λ (l : KeyLine). l.key) (option_or a b) ≡ Some key
  or_some None b key h = absurd (cc)
  or_some (Some l) b key h = h

  or_none : (a b : Option KeyLine) → option_map (λ (l : KeyLine). l.key) a ≡ None → option_map (λ (l : KeyLine). l.key) (option_or a b) ≡ option_map (λ (l : KeyLine). l.key) b
  or_none None b h = refl
  or_none (Some l) b h = absurd (cc)

  -- the last line's key, where it is between these
  found_last : (from : Party) (to : ℕ) (f : Party) (t : ℕ) → option_map (λ (l : KeyLine). l.key) (find (is_between f t) (line_between from to ∷ [])) ≡ cond (same_party from f && (to == t)) (Some (keys f t)) None
  found_last from to f t =
      elim (cases_Bool (same_party from f && (to == t))) [
        | inl same ↦
            let one = same_is from f (and_parts _ _ same).0 in
            let other = eqb-true to t (and_parts _ _ same).1 in
            rw same (ap (λ (p : Party). Some (keys p to)) one ∙ ap (λ (n : ℕ). Some (keys f n)) other)
        | inr other ↦ rw other refl
      ]

  found_then : (lines : List KeyLine) (set : Party → ℕ → Bool) (from : Party) (to : ℕ) (f : Party) (t : ℕ) → read.key_between lines f t ≡ cond (set f t) (Some (keys f t)) None
      → read.key_between (lines ++ line_between from to ∷ []) f t ≡ cond (and_between set from to f t) (Some (keys f t)) None
  unfolding read.key_between
  found_then lines set from to f t was =
      rw (find-append (is_between f t) lines (line_between from to ∷ []))
      (elim (cases_Bool (set f t)) [
        | inl old ↦ rw old (or_some (find (is_between f t) lines) (find (is_between f t) (line_between from to ∷ [])) (keys f t) (rw old at was))
        | inr new ↦ rw new (or_none (find (is_between f t) lines) (find (is_between f t) (line_between from to ∷ [])) (rw new at was) ∙ found_last from to f t)
      ])

  one_more : (lines : List KeyLine) (set : Party → ℕ → Bool) (from : Party) (to : ℕ) → Lists lines set → Lists (lines ++ line_between from to ∷ []) (and_between set from to)
  one_more lines set from to h = record { found = λ f t. found_then lines set from to f t (h.found f t) }

  -- ---- lines in turn

  abbrev reads : Party → ℕ → List KeyLine → List ℕ → Result (List KeyLine) KeysFault
  reads me n lines text = with_lines me n lines (slice_split is_line_feed text)

  -- what a line asks: numbers that can be read, of parties that there are
  record IsFit (me : Party) (n : ℕ) (from : Party) (to : ℕ) : Type 0 where
    sender : number_of from < 65536
    receiver : to < 65536
    mine : is_mine me n (line_between from to) ≡ true

  taken : (me : Party) (n : ℕ) (lines : List KeyLine) (set : Party → ℕ → Bool) (from : Party) (to : ℕ) → IsFit me n from to → Lists lines set → set from to ≡ false
      → with_line me n lines (key_line keys from to) ≡ Ok (lines ++ line_between from to ∷ [])
  unfolding with_line
  taken me n lines set from to fit h new =
      let absent : read.key_between lines from to ≡ None = h.found from to ∙ rw new refl in
      rw (not_skipped keys good from to, key_line-reads keys good from to fit.sender fit.receiver, fit.mine, absent) refl

  read_line : (me : Party) (n : ℕ) (lines : List KeyLine) (set : Party → ℕ → Bool) (from : Party) (to : ℕ) (rest : List ℕ) → IsFit me n from to → Lists lines set → set from to ≡ false
      → reads me n lines (with_feed (key_line keys from to) ++ rest) ≡ reads me n (lines ++ line_between from to ∷ []) rest
  unfolding with_lines
  read_line me n lines set from to rest fit h new =
      let cut : slice_split is_line_feed (with_feed (key_line keys from to) ++ rest) ≡ key_line keys from to ∷ slice_split is_line_feed rest =
      rw append_assoc (slice_split_at is_line_feed (key_line keys from to) 10 rest (no_feed keys good from to fit.sender fit.receiver) refl) in
      rw (cut, taken me n lines set from to fit h new) refl

  read_end : (me : Party) (n : ℕ) (lines : List KeyLine) → reads me n lines [] ≡ Ok lines
  unfolding with_lines with_line
  read_end me n lines = refl

  -- a beginning of the file was read, and gave just the keys of this set
  record HasRead (me : Party) (n : ℕ) (text : List ℕ) (set : Party → ℕ → Bool) : Type 0 where
    lines : List KeyLine
    lists : Lists lines set
    goes_on : (rest : List ℕ) → reads me n [] (text ++ rest) ≡ reads me n lines rest

  read_more : (me : Party) (n : ℕ) (text : List ℕ) (set : Party → ℕ → Bool) (from : Party) (to : ℕ) → HasRead me n text set → IsFit me n from to → set from to ≡ false
      → HasRead me n (text ++ with_feed (key_line keys from to)) (and_between set from to)
  read_more me n text set from to h fit new = record {
    lines = h.lines ++ line_between from to ∷ [];
    lists = one_more h.lines set from to h.lists;
    goes_on = λ rest. rw (append_assoc text (with_feed (key_line keys from to)) rest) (h.goes_on (with_feed (key_line keys from to) ++ rest) ∙ read_line me n h.lines set from to rest fit h.lists new);
  }

  same_set : (me : Party) (n : ℕ) (text : List ℕ) (set other : Party → ℕ → Bool) → ((f : Party) (t : ℕ) → set f t ≡ other f t) → HasRead me n text set → HasRead me n text other
  same_set me n text set other same h = record {
    lines = h.lines;
    lists = record { found = λ f t. h.lists.found f t ∙ ap (λ (b : Bool). cond b (Some (keys f t)) None) (same f t) };
    goes_on = h.goes_on;
  }

  -- ---- the file, validator after validator and client after client

  -- the keys with the first k validators, and from the first j clients
  abbrev listed : ℕ → ℕ → ℕ → Party → ℕ → Bool
  listed me k j (Validator i) t = (nat_lt i k && (t == me)) || ((i == me) && nat_lt t k)
  listed me k j (Client i) t = nat_lt i j && (t == me)

  with_own : (me k i t : ℕ) → k ≡ me → (((nat_lt i k && (t == me)) || ((i == me) && nat_lt t k)) || ((k == i) && (me == t))) ≡ ((nat_lt i (k + 1) && (t == me)) || ((i == me) && nat_lt t (k + 1)))
  with_own me k i t same = grind (arith, nat_tests)

  with_other : (me k i t : ℕ) → (k ≡ me → ⊥) → ((((nat_lt i k && (t == me)) || ((i == me) && nat_lt t k)) || ((k == i) && (me == t))) || ((me == i) && (k == t))) ≡ ((nat_lt i (k + 1) && (t == me)) || ((i == me) && nat_lt t (k + 1)))
  with_other me k i t other = grind (arith, nat_tests)

  with_client : (me j i t : ℕ) → ((nat_lt i j && (t == me)) || ((j == i) && (me == t))) ≡ (nat_lt i (j + 1) && (t == me))
  with_client me j i t = grind (arith, nat_tests)

  none_listed : (me : ℕ) (f : Party) (t : ℕ) → listed me 0 0 f t ≡ false
  none_listed me (Validator i) t = grind (arith, nat_tests)
  none_listed me (Client i) t = grind (arith, nat_tests)

  fit_from : (me n k : ℕ) → me < n → n < 65536 → k < n → IsFit (Validator me) n (Validator k) me
  fit_from me n k within few h = record { sender = omega arith; receiver = omega arith; mine = grind (arith, nat_tests) }

  fit_to : (me n k : ℕ) → me < n → n < 65536 → k < n → IsFit (Validator me) n (Validator me) k
  fit_to me n k within few h = record { sender = omega arith; receiver = omega arith; mine = grind (arith, nat_tests) }

  fit_client : (me n j : ℕ) → me < n → n < 65536 → j < 1024 → IsFit (Validator me) n (Client j) me
  fit_client me n j within few h = record { sender = omega arith; receiver = omega arith; mine = grind (arith, nat_tests) }

  new_from : (me k : ℕ) → listed me k 0 (Validator k) me ≡ false
  new_from me k = grind (arith, nat_tests)

  new_to : (me k : ℕ) → (k ≡ me → ⊥) → and_between (listed me k 0) (Validator k) me (Validator me) k ≡ false
  new_to me k other = grind (arith, nat_tests)

  new_client : (me n j : ℕ) → listed me n j (Client j) me ≡ false
  new_client me n j = grind (arith, nat_tests)

  validator_more : (me n k : ℕ) → me < n → n < 65536 → k < n → HasRead (Validator me) n (flat_map (lines_with keys me) (below k)) (listed me k 0)
      → HasRead (Validator me) n (flat_map (lines_with keys me) (below k) ++ lines_with keys me k) (listed me (k + 1) 0)
  validator_more me n k within few h so_far =
      let text = flat_map (lines_with keys me) (below k) in
      let first = read_more (Validator me) n text (listed me k 0) (Validator k) me so_far (fit_from me n k within few h) (new_from me k) in
      elim (cases_eq k me) [
        | inl same ↦
            let test : (k == me) ≡ true = eq-eqb k me same in
            rw (test, append-nil) (same_set (Validator me) n _ _ _ (λ f t. elim f as (λ p. and_between (listed me k 0) (Validator k) me p t ≡ listed me (k + 1) 0 p t) [ Validator i ↦ with_own me k i t same | Client i ↦ grind (arith, nat_tests) ]) first)
        | inr other ↦
            let test : (k == me) ≡ false = grind (arith, nat_tests) in
            let second = read_more (Validator me) n (text ++ with_feed (key_line keys (Validator k) me)) (and_between (listed me k 0) (Validator k) me) (Validator me) k first (fit_to me n k within few h) (new_to me k other) in
            rw (test, ← append_assoc) (same_set (Validator me) n _ _ _ (λ f t. elim f as (λ p. and_between (and_between (listed me k 0) (Validator k) me) (Validator me) k p t ≡ listed me (k + 1) 0 p t) [ Validator i ↦ with_other me k i t other | Client i ↦ grind (arith, nat_tests) ]) second)
      ]

  nothing_read : (me : ℕ) (f : Party) (t : ℕ) → read.key_between [] f t ≡ cond (listed me 0 0 f t) (Some (keys f t)) None
  unfolding read.key_between
  nothing_read me f t = rw (none_listed me f t) refl

  begins : (me n : ℕ) → HasRead (Validator me) n [] (listed me 0 0)
  begins me n = record {
    lines = [];
    lists = record { found = nothing_read me };
    goes_on = λ rest. refl;
  }

  validators_read : (me n k : ℕ) → me < n → n < 65536 → k ≤ n → HasRead (Validator me) n (flat_map (lines_with keys me) (below k)) (listed me k 0)
  validators_read me n zero within few h = rw (no_lines (lines_with keys me)) (begins me n)
  validators_read me n (suc k) within few h =
      let more = validator_more me n k within few (omega arith) (validators_read me n k within few (omega arith)) in
      rw (← add-one) (rw (more_lines (lines_with keys me) k) more)

  client_more : (me n j : ℕ) (text : List ℕ) → me < n → n < 65536 → j < 1024 → HasRead (Validator me) n text (listed me n j) → HasRead (Validator me) n (text ++ line_of_client keys me j) (listed me n (j + 1))
  client_more me n j text within few h so_far =
      let more = read_more (Validator me) n text (listed me n j) (Client j) me so_far (fit_client me n j within few h) (new_client me n j) in
      same_set (Validator me) n _ _ _ (λ f t. elim f as (λ p. and_between (listed me n j) (Client j) me p t ≡ listed me n (j + 1) p t) [ Validator i ↦ grind (arith, nat_tests) | Client i ↦ with_client me j i t ]) more

  clients_read : (me n j : ℕ) → me < n → n < 65536 → j ≤ 1024 → HasRead (Validator me) n (flat_map (lines_with keys me) (below n) ++ flat_map (line_of_client keys me) (below j)) (listed me n j)
  clients_read me n zero within few h =
      let all = validators_read me n n within few (omega arith) in
      rw (no_lines (line_of_client keys me), append-nil) all
  clients_read me n (suc j) within few h =
      let text = flat_map (lines_with keys me) (below n) in
      let more = client_more me n j (text ++ flat_map (line_of_client keys me) (below j)) within few (omega arith) (clients_read me n j within few (omega arith)) in
      rw (← add-one) (rw (more_lines (line_of_client keys me) j, ← append_assoc) more)

  -- ---- the ring

  -- the keys of each in turn, where none is absent
  all_found : (find_at : ℕ → Option (List ℕ)) (key : ℕ → List ℕ) (n : ℕ) → ((i : ℕ) → i < n → find_at i ≡ Some (key i)) → map find_at (range_with_len 0 n) ≡ map (λ (k : List ℕ). Some k) (map key (below n))
  unfolding below
  all_found find_at key zero h = refl
  all_found find_at key (suc n) h =
      let front = all_found find_at key n (λ i less. h i (omega arith)) in
      range_more find_at n ∙ rw (front, h n (omega arith)) (sym (rw (map_push key (below n) n) (map_push (λ (k : List ℕ). Some k) (map key (below n)) (key n))))

  listed_to : (me n m i : ℕ) → i < n → listed me n m (Validator me) i ≡ true
  listed_to me n m i h = grind (arith, nat_tests)

  listed_from : (me n m i : ℕ) → i < n → listed me n m (Validator i) me ≡ true
  listed_from me n m i h = grind (arith, nat_tests)

  keys_to : (me n m : ℕ) (lines : List KeyLine) → Lists lines (listed me n m) → every_key (map (λ number. read.key_between lines (Validator me) number) (range_with_len 0 n)) ≡ Ok (map (keys (Validator me)) (below n))
  keys_to me n m lines h =
      rw (all_found (λ number. read.key_between lines (Validator me) number) (keys (Validator me)) n (λ i less. h.found (Validator me) i ∙ rw (listed_to me n m i less) refl))
      (every_key-some (map (keys (Validator me)) (below n)))

  keys_of : (me n m : ℕ) (lines : List KeyLine) → Lists lines (listed me n m) → every_key (keys_from lines (Validator me) Validator n) ≡ Ok (map (λ i. keys (Validator i) me) (below n))
  unfolding keys_from
  keys_of me n m lines h =
      rw (all_found (λ number. read.key_between lines (Validator number) me) (λ i. keys (Validator i) me) n (λ i less. h.found (Validator i) me ∙ rw (listed_from me n m i less) refl))
      (every_key-some (map (λ i. keys (Validator i) me) (below n)))

  client_at : (me n m : ℕ) (lines : List KeyLine) → m ≤ 1024 → Lists lines (listed me n m) → (i : ℕ)
      → get_or (keys_from lines (Validator me) Client 1024) i None ≡ cond (nat_lt i m) (Some (keys (Client i) me)) None
  unfolding keys_from
  client_at me n m lines few h i =
      let find_at : ℕ → Option (List ℕ) = λ number. read.key_between lines (Client number) me in
      elim (cases_lt i 1024) [
        | inl within ↦
            let own : (me == me) ≡ true = eq-eqb me me refl in
            get_or-map-range_with_len find_at 0 1024 i i None within (omega arith) ∙ h.found (Client i) me ∙ rw (own, and-true) refl
        | inr past ↦
            let unknown : nat_lt i m ≡ false = le-ltb i m (omega arith) in
            get_or_past (map find_at (range_with_len 0 1024)) i None (omega (arith, length-map-range_with_len find_at 0 1024)) ∙ rw unknown refl
      ]

  lines_read : (me n m : ℕ) → (h : HasRead (Validator me) n (flat_map (lines_with keys me) (below n) ++ flat_map (line_of_client keys me) (below m)) (listed me n m))
      → with_lines (Validator me) n [] (slice_split is_line_feed (validator_file keys me n m)) ≡ Ok h.lines
  unfolding validator_file
  lines_read me n m h = rw append-nil at (h.goes_on []) ∙ read_end (Validator me) n h.lines

  -- a ring with these keys
  abbrev setting_of : ℕ → List ℕ → Setting
  setting_of clients powers = record { powers = powers; clients = λ i. nat_lt i clients; key = keys }

  pub validator_reads : (me validators clients : ℕ) → me < validators → validators < 65536 → clients ≤ 1024
      → ReadsAs (λ ring. (powers : List ℕ) → length powers ≡ validators → IsRingOf (setting_of clients powers) me ring) (ring_of (Validator me) validators (validator_file keys me validators clients))
  validator_reads me n m within few_validators few_clients =
      let h = clients_read me n m within few_validators few_clients in
      let to = keys_to me n m h.lines h.lists in
      let from = keys_of me n m h.lines h.lists in
      let ring : ring_of (Validator me) n (validator_file keys me n m) ≡ Ok (record { me = Validator me; count = n; from_validators = map (λ i. keys (Validator i) me) (below n); from_clients = keys_from h.lines (Validator me) Client 1024; to_validators = map (keys (Validator me)) (below n) }) =
      ring_of-lines (Validator me) n (validator_file keys me n m) h.lines (lines_read me n m h)
      ∙ the_ring (Validator me) n h.lines (map (keys (Validator me)) (below n)) (map (λ i. keys (Validator i) me) (below n)) (keys_from h.lines (Validator me) Client 1024) to from refl in
      rw ring (λ powers same. record {
        me = refl;
        count = sym same;
        from_validators = λ i less. below_at (λ i. keys (Validator i) me) n i (rw same at less);
        from_clients = client_at me n m h.lines few_clients h.lists;
        to_validators = rw same refl;
      })

  -- ---- the file of a client

  -- the keys for the first k validators
  abbrev sent : ℕ → ℕ → Party → ℕ → Bool
  sent c k (Validator i) t = false
  sent c k (Client i) t = (i == c) && nat_lt t k

  sent_more : (c k i t : ℕ) → (((i == c) && nat_lt t k) || ((c == i) && (k == t))) ≡ ((i == c) && nat_lt t (k + 1))
  sent_more c k i t = grind (arith, nat_tests)

  new_sent : (c k : ℕ) → sent c k (Client c) k ≡ false
  new_sent c k = grind (arith, nat_tests)

  fit_sent : (c n k : ℕ) → c < 1024 → n < 65536 → k < n → IsFit (Client c) n (Client c) k
  fit_sent c n k within few h = record { sender = omega arith; receiver = omega arith; mine = grind (arith, nat_tests) }

  none_sent : (c : ℕ) (f : Party) (t : ℕ) → sent c 0 f t ≡ false
  none_sent c (Validator i) t = refl
  none_sent c (Client i) t = grind (arith, nat_tests)

  nothing_sent : (c : ℕ) (f : Party) (t : ℕ) → read.key_between [] f t ≡ cond (sent c 0 f t) (Some (keys f t)) None
  unfolding read.key_between
  nothing_sent c f t = rw (none_sent c f t) refl

  sent_read : (c n k : ℕ) → c < 1024 → n < 65536 → k ≤ n → HasRead (Client c) n (flat_map (line_to keys c) (below k)) (sent c k)
  sent_read c n zero within few h = rw (no_lines (line_to keys c)) (record { lines = []; lists = record { found = nothing_sent c }; goes_on = λ rest. refl })
  sent_read c n (suc k) within few h =
      let so_far = sent_read c n k within few (omega arith) in
      let more = read_more (Client c) n (flat_map (line_to keys c) (below k)) (sent c k) (Client c) k so_far (fit_sent c n k within few (omega arith)) (new_sent c k) in
      let all = same_set (Client c) n _ _ _ (λ f t. elim f as (λ p. and_between (sent c k) (Client c) k p t ≡ sent c (k + 1) p t) [ Validator i ↦ grind (arith, nat_tests) | Client i ↦ sent_more c k i t ]) more in
      rw (← add-one) (rw (more_lines (line_to keys c) k) all)

  sent_lines : (c n : ℕ) → (h : HasRead (Client c) n (flat_map (line_to keys c) (below n)) (sent c n)) → with_lines (Client c) n [] (slice_split is_line_feed (client_file keys c n)) ≡ Ok h.lines
  unfolding client_file
  sent_lines c n h = rw append-nil at (h.goes_on []) ∙ read_end (Client c) n h.lines

  sent_to : (c n i : ℕ) → i < n → sent c n (Client c) i ≡ true
  sent_to c n i h = grind (arith, nat_tests)

  keys_sent : (c n : ℕ) (lines : List KeyLine) → Lists lines (sent c n) → every_key (map (λ number. read.key_between lines (Client c) number) (range_with_len 0 n)) ≡ Ok (map (keys (Client c)) (below n))
  keys_sent c n lines h =
      rw (all_found (λ number. read.key_between lines (Client c) number) (keys (Client c)) n (λ i less. h.found (Client c) i ∙ rw (sent_to c n i less) refl))
      (every_key-some (map (keys (Client c)) (below n)))

  none_received : (c n : ℕ) (lines : List KeyLine) → every_key (keys_from lines (Client c) Validator n) ≡ Ok []
  unfolding keys_from every_key
  none_received c n lines = refl

  pub client_reads : (c validators : ℕ) → c < 1024 → validators < 65536
      → ReadsAs (λ ring. (ring.me ≡ Client c) × (ring.count ≡ validators) × (ring.to_validators ≡ map (keys (Client c)) (below validators))) (ring_of (Client c) validators (client_file keys c validators))
  client_reads c n within few =
      let h = sent_read c n n within few (omega arith) in
      let to = keys_sent c n h.lines h.lists in
      let from = none_received c n h.lines in
      let ring : ring_of (Client c) n (client_file keys c n) ≡ Ok (record { me = Client c; count = n; from_validators = []; from_clients = keys_from h.lines (Client c) Client 1024; to_validators = map (keys (Client c)) (below n) }) =
      ring_of-lines (Client c) n (client_file keys c n) h.lines (sent_lines c n h)
      ∙ the_ring (Client c) n h.lines (map (keys (Client c)) (below n)) [] (keys_from h.lines (Client c) Client 1024) to from refl in
      rw ring (refl, refl, refl)

-- The laws of a key file.
use Rattle.std.proofs.Common.{◌≡◌, ℕ, suc, ◌<◌, ◌↔◌, true, false, List, [], ◌∷◌, length, map, get_or, Option, Some, None, Ok, Err, inl, inr, refl, sym, ap, subst, ◌∙◌, arith}
use Rattle.std.specs.List.{Contains, range_with_len}
use Rattle.std.proofs.lemmas.Bool.{and_parts, cases_Bool, cases_lt, cases_order, ltb-true}
use Rattle.std.proofs.lemmas.List.{get_or_past}
use Rattle.std.proofs.lemmas.List.FromFn.{length-map-range_with_len, get_or-map-range_with_len}
use Rattle.std.proofs.lemmas.Option.{slice_get-get_or, slice_get_within}
use Rattle.authenticators.specs.Keys.{is_known, is_mine, key_between, with_lines, every_key, keys_from, ring_with, ring_of}
use Rattle.authenticators.specs.Laws.{Tells, HasKey, IsBad, IsRepeat, AreRight, AreRightBelow, IsWanted, IsComplete, LacksOne, HoldsFile, HeldLaw, GivenLaw, FaultLaw, lines_of}
use Rattle.authenticators.specs.Ring.{Ring, incoming, outgoing}
use Rattle.authenticators.specs.declared.party.Party.{Party}
use Rattle.authenticators.specs.declared.party.Party.TheVariants.{Validator, Client}
use Rattle.authenticators.specs.declared.key_line.KeyLine.{KeyLine}
use Rattle.authenticators.specs.declared.fault.KeysFault.TheVariants.{BadLine, Missing, Repeated, OutOfMemory}
use Rattle.authenticators.proofs.Between.{line_between, between_some, between_none}
use Rattle.authenticators.proofs.Files.{length-every_key, slice_get-every_key, no_key_to, no_key_from, the_ring, no_lines, ring_of-lines}
use Rattle.authenticators.proofs.Reading.{Outcome, AllRead, BadAt, RepeatAt, SoFar, tells_of, tells_one, outcome}

-- ---- a file whose lines are all right

record Read (me : Party) (count : ℕ) (file : List (List ℕ)) (lines : List KeyLine) : Type 0 where
  from_file : (told : KeyLine) → Contains lines told → (i : ℕ) × Tells file i told
  in_lines : (i : ℕ) (told : KeyLine) → Tells file i told → Contains lines told
  right : AreRight me count file

all_read : (me : Party) (count : ℕ) (file : List (List ℕ)) (lines : List KeyLine) → SoFar me count file (length file) lines → Read me count file lines
all_read me count file lines s = record {
  from_file = λ told h. let f = s.from_file told h in (f.0, f.2);
  in_lines = λ i told t. s.in_lines i told (slice_get_within file i t.0 t.1.0) t;
  right = λ i. (
    λ bad. (s.right i (slice_get_within file i bad.0 bad.1.0)).0 bad,
    λ again. (s.right i (slice_get_within file i again.5.0 again.5.1.0)).1 again,
  );
}

-- no two lines are about one pair
one_pair : (me : Party) (count : ℕ) (file : List (List ℕ)) (i j : ℕ) (a b : KeyLine) → AreRight me count file → Tells file i a → Tells file j b
    → a.from ≡ b.from → a.to ≡ b.to → a ≡ b
one_pair me count file i j a b right x y from to =
    elim (cases_order i j) [
      | inl same ↦ tells_one file j a b (rw same at x) y
      | inr other ↦ elim other [
        | inl before ↦ absurd ((right j).1 (i, before, a, b, x, y, from, to))
        | inr after ↦ absurd ((right i).1 (j, after, b, a, y, x, sym from, sym to))
      ]
    ]

has_key : (me : Party) (count : ℕ) (file : List (List ℕ)) (lines : List KeyLine) (from : Party) (to : ℕ) (key : List ℕ) → Read me count file lines
    → key_between lines from to ≡ Some key → HasKey file from to key
has_key me count file lines from to key r e = r.from_file (line_between from to key) (between_some lines from to key e)

one_key : (me : Party) (count : ℕ) (file : List (List ℕ)) (lines : List KeyLine) (from : Party) (to : ℕ) (key : List ℕ) → Read me count file lines
    → HasKey file from to key → key_between lines from to ≡ Some key
one_key me count file lines from to key r has = by_answer (key_between lines from to) refl
  where
    by_answer : (found : Option (List ℕ)) → key_between lines from to ≡ found → key_between lines from to ≡ Some key
    by_answer None e = absurd (between_none lines from to e (line_between from to key) (r.in_lines has.0 (line_between from to key) has.1) refl refl)
    by_answer (Some other) e =
        let found = has_key me count file lines from to other r e in
        let same = one_pair me count file found.0 has.0 (line_between from to other) (line_between from to key) r.right found.1 has.1 refl refl in
        e ∙ ap (λ (told : KeyLine). Some told.key) same

-- a line that isn't bad is of known parties, one of which is me
in_range : (me : Party) (count : ℕ) (file : List (List ℕ)) (from : Party) (to : ℕ) (key : List ℕ) → AreRight me count file → HasKey file from to key
    → (is_known count from ≡ true) × (to < count)
in_range me count file from to key right has =
    let told : KeyLine = line_between from to key in
    elim (cases_Bool (is_mine me count told)) [
      | inl mine ↦ (let parts = and_parts _ _ (and_parts _ _ mine).0 in (parts.0, ltb-true to count parts.1))
      | inr other ↦ absurd ((right has.0).0 (has.1.0, has.1.1, λ another is. let same : Some told ≡ Some another = sym has.1.2 ∙ is in let one : told ≡ another = cc in subst (λ (l : KeyLine). is_mine me count l ≡ false) one other))
    ]

-- ---- keys in turn

data Keys (found : List (Option (List ℕ))) : Type 0 where
  AllThere : (keys : List (List ℕ)) → every_key found ≡ Ok keys → Keys found
  OneAbsent : (i : ℕ) → i < length found → get_or found i None ≡ None → every_key found ≡ Err Missing → Keys found

more_keys : (key : List ℕ) (others : List (Option (List ℕ))) → Keys others → Keys (Some key ∷ others)
unfolding every_key
more_keys key others (AllThere keys e) = AllThere (key ∷ keys) (rw e refl)
more_keys key others (OneAbsent i below none e) = OneAbsent (suc i) (omega arith) none (rw e refl)

keys_in : (found : List (Option (List ℕ))) → Keys found
unfolding every_key
keys_in [] = AllThere [] refl
keys_in (None ∷ others) = OneAbsent 0 (omega arith) refl refl
keys_in (Some key ∷ others) = more_keys key others (keys_in others)

-- a key that is there is of some place
some_within : (found : List (Option (List ℕ))) (i : ℕ) (key : List ℕ) → get_or found i None ≡ Some key → i < length found
some_within found i key e =
    elim (cases_lt i (length found)) [
      | inl below ↦ below
      | inr past ↦ absurd (let none : None ≡ Some key = sym (get_or_past found i None past) ∙ e in cc)
    ]

every_some : (found : List (Option (List ℕ))) (keys : List (List ℕ)) (i : ℕ) → every_key found ≡ Ok keys → i < length found → (key : List ℕ) × (get_or found i None ≡ Some key)
every_some found keys i e below =
    (get_or keys i [], sym (slice_get-every_key found keys i e) ∙ slice_get-get_or keys i [] (omega (arith, length-every_key found keys e)))

abbrev to_each : List KeyLine → Party → ℕ → List (Option (List ℕ))
to_each lines me count = map (λ number. key_between lines me number) (range_with_len 0 count)

to_within : (lines : List KeyLine) (me : Party) (count i : ℕ) → i < length (to_each lines me count) → i < count
to_within lines me count i below = omega (arith, length-map-range_with_len (λ number. key_between lines me number) 0 count)

to_at : (lines : List KeyLine) (me : Party) (count i : ℕ) → i < count → get_or (to_each lines me count) i None ≡ key_between lines me i
to_at lines me count i below = get_or-map-range_with_len (λ number. key_between lines me number) 0 count i i None below (omega arith)

from_within : (lines : List KeyLine) (me : Party) (sender : ℕ → Party) (count i : ℕ) → i < length (keys_from lines me sender count) → (number : ℕ) × (i < count) × (me ≡ Validator number)
unfolding keys_from
from_within lines (Validator number) sender count i below = (number, omega (arith, length-map-range_with_len (λ other. key_between lines (sender other) number) 0 count), refl)
from_within lines (Client number) sender count i below = absurd (omega arith)

from_at : (lines : List KeyLine) (number : ℕ) (sender : ℕ → Party) (count i : ℕ) → i < count → get_or (keys_from lines (Validator number) sender count) i None ≡ key_between lines (sender i) number
unfolding keys_from
from_at lines number sender count i below = get_or-map-range_with_len (λ other. key_between lines (sender other) number) 0 count i i None below (omega arith)

each_from : (lines : List KeyLine) (number count i : ℕ) → i < count → i < length (keys_from lines (Validator number) Validator count)
unfolding keys_from
each_from lines number count i below = omega (arith, length-map-range_with_len (λ other. key_between lines (Validator other) number) 0 count)

-- ---- the ring of all lines

record IsMade (me : Party) (count : ℕ) (lines : List KeyLine) (ring : Ring) : Type 0 where
  mine : ring.me ≡ me
  of_all : ring.count ≡ count
  to : every_key (to_each lines me count) ≡ Ok ring.to_validators
  from : every_key (keys_from lines me Validator count) ≡ Ok ring.from_validators
  clients : ring.from_clients ≡ keys_from lines me Client 1024

data RingOutcome (me : Party) (count : ℕ) (lines : List KeyLine) : Type 0 where
  RingMade : (ring : Ring) → ring_with me count lines ≡ Ok ring → IsMade me count lines ring → RingOutcome me count lines
  KeyAbsent : (from : Party) (to : ℕ) → ring_with me count lines ≡ Err Missing → IsWanted me count from to → key_between lines from to ≡ None → RingOutcome me count lines

ring_by : (me : Party) (count : ℕ) (lines : List KeyLine) → Keys (to_each lines me count) → Keys (keys_from lines me Validator count) → RingOutcome me count lines
ring_by me count lines (OneAbsent i below none e) other =
    let within = to_within lines me count i below in
    KeyAbsent me i (no_key_to me count lines Missing e) (inl (refl, within)) (sym (to_at lines me count i within) ∙ none)
ring_by me count lines (AllThere to e) (OneAbsent i below none fault) =
    let within = from_within lines me Validator count i below in
    let at = from_at lines within.0 Validator count i within.1 in
    KeyAbsent (Validator i) within.0 (no_key_from me count lines to Missing e fault) (inr (i, within.1, refl, within.2)) (sym at ∙ rw within.2 at none)
ring_by me count lines (AllThere to e) (AllThere from f) =
    RingMade (record { me = me; count = count; from_validators = from; from_clients = keys_from lines me Client 1024; to_validators = to })
    (the_ring me count lines to from (keys_from lines me Client 1024) e f refl)
    (record { mine = refl; of_all = refl; to = e; from = f; clients = refl })

-- ---- what a ring holds

received_key : (me : Party) (count : ℕ) (file : List (List ℕ)) (lines : List KeyLine) (sender : ℕ → Party) (limit i : ℕ) (key : List ℕ) → Read me count file lines
    → ((number : ℕ) → HasKey file (sender i) number key → i < limit)
    → (get_or (keys_from lines me sender limit) i None ≡ Some key) ↔ ((number : ℕ) × (me ≡ Validator number) × HasKey file (sender i) number key)
received_key me count file lines sender limit i key r known = (
  λ e.
      let within = from_within lines me sender limit i (some_within _ i key e) in
      let found = sym (from_at lines within.0 sender limit i within.1) ∙ rw within.2 at e in
      (within.0, within.2, has_key me count file lines (sender i) within.0 key r found),
  λ has.
      rw has.1 (from_at lines has.0 sender limit i (known has.0 has.2) ∙ one_key me count file lines (sender i) has.0 key r has.2),
)

received : (me : Party) (count : ℕ) (file : List (List ℕ)) (lines : List KeyLine) (ring : Ring) (from : Party) (key : List ℕ) → Read me count file lines → IsMade me count lines ring
    → (incoming ring from ≡ Some key) ↔ ((number : ℕ) × (me ≡ Validator number) × HasKey file from number key)
received me count file lines ring (Validator i) key r made =
    rw (slice_get-every_key _ ring.from_validators i made.from)
    (received_key me count file lines Validator count i key r (λ number has. ltb-true i count (in_range me count file (Validator i) number key r.right has).0))
received me count file lines ring (Client i) key r made =
    rw made.clients
    (received_key me count file lines Client 1024 i key r (λ number has. ltb-true i 1024 (in_range me count file (Client i) number key r.right has).0))

sent : (me : Party) (count : ℕ) (file : List (List ℕ)) (lines : List KeyLine) (ring : Ring) (to : ℕ) (key : List ℕ) → Read me count file lines → IsMade me count lines ring
    → (outgoing ring to ≡ Some key) ↔ HasKey file me to key
sent me count file lines ring to key r made = (
  λ e.
      let there = sym (slice_get-every_key _ ring.to_validators to made.to) ∙ e in
      let within = to_within lines me count to (some_within _ to key there) in
      has_key me count file lines me to key r (sym (to_at lines me count to within) ∙ there),
  λ has.
      slice_get-every_key _ ring.to_validators to made.to
      ∙ to_at lines me count to (in_range me count file me to key r.right has).1
      ∙ one_key me count file lines me to key r has,
)

holds : (me : Party) (count : ℕ) (file : List (List ℕ)) (lines : List KeyLine) (ring : Ring) → Read me count file lines → IsMade me count lines ring → HoldsFile me count file ring
holds me count file lines ring r made = record {
  mine = made.mine;
  of_all = made.of_all;
  sent = λ to key. sent me count file lines ring to key r made;
  received = λ from key. received me count file lines ring from key r made;
  once = λ i. (r.right i).1;
}

complete : (me : Party) (count : ℕ) (file : List (List ℕ)) (lines : List KeyLine) (ring : Ring) → Read me count file lines → IsMade me count lines ring → IsComplete me count file
complete me count file lines ring r made from to (inl is) =
    let some = every_some _ ring.to_validators to made.to (omega (arith, length-map-range_with_len (λ number. key_between lines me number) 0 count, is.1)) in
    (some.0, has_key me count file lines from to some.0 r (rw is.0 (sym (to_at lines me count to is.1) ∙ some.1)))
complete me count file lines ring r made from to (inr is) =
    let there : every_key (keys_from lines (Validator to) Validator count) ≡ Ok ring.from_validators = rw is.3 at made.from in
    let some = every_some _ ring.from_validators is.0 there (each_from lines to count is.0 is.1) in
    (some.0, has_key me count file lines from to some.0 r (rw is.2 (sym (from_at lines to Validator count is.0 is.1) ∙ some.1)))

-- ---- the answers

data Answer (me : Party) (count : ℕ) (text : List ℕ) : Type 0 where
  Given : (ring : Ring) → ring_of me count text ≡ Ok ring → HoldsFile me count (lines_of text) ring → AreRight me count (lines_of text) → IsComplete me count (lines_of text) → Answer me count text
  Lacking : ring_of me count text ≡ Err Missing → AreRight me count (lines_of text) → LacksOne me count (lines_of text) → Answer me count text
  HasBad : (i : ℕ) → ring_of me count text ≡ Err BadLine → AreRightBelow me count (lines_of text) i → IsBad me count (lines_of text) i → Answer me count text
  HasRepeat : (i : ℕ) → ring_of me count text ≡ Err Repeated → AreRightBelow me count (lines_of text) i → IsRepeat (lines_of text) i → Answer me count text

by_ring : (me : Party) (count : ℕ) (text : List ℕ) (lines : List KeyLine) → with_lines me count [] (lines_of text) ≡ Ok lines → Read me count (lines_of text) lines
    → RingOutcome me count lines → Answer me count text
by_ring me count text lines e r (RingMade ring is made) =
    Given ring (ring_of-lines me count text lines e ∙ is) (holds me count (lines_of text) lines ring r made) r.right (complete me count (lines_of text) lines ring r made)
by_ring me count text lines e r (KeyAbsent from to is wanted none) =
    Lacking (ring_of-lines me count text lines e ∙ is) r.right
    (from, to, wanted, λ key has. let both : None ≡ Some key = sym none ∙ one_key me count (lines_of text) lines from to key r has in cc)

by_lines : (me : Party) (count : ℕ) (text : List ℕ) → Outcome me count (lines_of text) → Answer me count text
by_lines me count text (AllRead lines e s) =
    by_ring me count text lines e (all_read me count (lines_of text) lines s) (ring_by me count lines (keys_in (to_each lines me count)) (keys_in (keys_from lines me Validator count)))
by_lines me count text (BadAt i e right bad) = HasBad i (no_lines me count text BadLine e) right bad
by_lines me count text (RepeatAt i e right again) = HasRepeat i (no_lines me count text Repeated e) right again

answer : (me : Party) (count : ℕ) (text : List ℕ) → Answer me count text
answer me count text = by_lines me count text (outcome me count (lines_of text))

-- ---- laws

held_by : (me : Party) (count : ℕ) (text : List ℕ) (ring : Ring) → Answer me count text → ring_of me count text ≡ Ok ring → HoldsFile me count (lines_of text) ring
held_by me count text ring (Given other is held right all) e = let same : Ok other ≡ Ok ring = sym is ∙ e in let one : other ≡ ring = cc in subst (HoldsFile me count (lines_of text)) one held
held_by me count text ring (Lacking is right lacks) e = absurd (cc)
held_by me count text ring (HasBad i is right bad) e = absurd (cc)
held_by me count text ring (HasRepeat i is right again) e = absurd (cc)

pub held_law : HeldLaw
held_law me count text ring e = held_by me count text ring (answer me count text) e

given_to : (me : Party) (count : ℕ) (text : List ℕ) (ring : Ring) → Answer me count text → ring_of me count text ≡ Ok ring → AreRight me count (lines_of text) × IsComplete me count (lines_of text)
given_to me count text ring (Given other is held right all) e = (right, all)
given_to me count text ring (Lacking is right lacks) e = absurd (cc)
given_to me count text ring (HasBad i is right bad) e = absurd (cc)
given_to me count text ring (HasRepeat i is right again) e = absurd (cc)

given_from : (me : Party) (count : ℕ) (text : List ℕ) → Answer me count text → AreRight me count (lines_of text) → IsComplete me count (lines_of text) → (ring : Ring) × (ring_of me count text ≡ Ok ring)
given_from me count text (Given ring is held right all) correct whole = (ring, is)
given_from me count text (Lacking is right lacks) correct whole = absurd (let there = whole lacks.0 lacks.1 lacks.2 in lacks.3 there.0 there.1)
given_from me count text (HasBad i is right bad) correct whole = absurd ((correct i).0 bad)
given_from me count text (HasRepeat i is right again) correct whole = absurd ((correct i).1 again)

pub given_law : GivenLaw
given_law me count text = (
  λ given. given_to me count text given.0 (answer me count text) given.1,
  λ all. given_from me count text (answer me count text) all.0 all.1,
)

mine_same : (me : Party) (count : ℕ) (a b : KeyLine) → a.from ≡ b.from → a.to ≡ b.to → is_mine me count a ≡ is_mine me count b
mine_same me count a b from to =
    ap (λ (party : Party). is_mine me count (line_between party a.to a.key)) from
    ∙ ap (λ (number : ℕ). is_mine me count (line_between b.from number a.key)) to

-- where the lines before it are right, a line has one fault at most
one_fault : (me : Party) (count : ℕ) (file : List (List ℕ)) (i : ℕ) → AreRightBelow me count file i → IsBad me count file i → IsRepeat file i → ⊥
one_fault me count file i right bad again =
    let other : is_mine me count again.3 ≡ false = bad.2 again.3 (tells_of file i bad.0 again.3 bad.1.0 again.5).1 in
    let earlier : is_mine me count again.2 ≡ false = mine_same me count again.2 again.3 again.6 again.7 ∙ other in
    (right again.0 again.1).0
    (again.4.0, again.4.1, λ another is. let same : Some again.2 ≡ Some another = sym again.4.2 ∙ is in let one : again.2 ≡ another = cc in subst (λ (l : KeyLine). is_mine me count l ≡ false) one earlier)

bad_to : (me : Party) (count : ℕ) (text : List ℕ) → Answer me count text → ring_of me count text ≡ Err BadLine → (i : ℕ) × AreRightBelow me count (lines_of text) i × IsBad me count (lines_of text) i
bad_to me count text (Given ring is held right all) e = absurd (cc)
bad_to me count text (Lacking is right lacks) e = absurd (cc)
bad_to me count text (HasBad i is right bad) e = (i, right, bad)
bad_to me count text (HasRepeat i is right again) e = absurd (cc)

bad_from : (me : Party) (count : ℕ) (text : List ℕ) (j : ℕ) → Answer me count text → AreRightBelow me count (lines_of text) j → IsBad me count (lines_of text) j → ring_of me count text ≡ Err BadLine
bad_from me count text j (Given ring is held right all) before here = absurd ((right j).0 here)
bad_from me count text j (Lacking is right lacks) before here = absurd ((right j).0 here)
bad_from me count text j (HasBad i is right bad) before here = is
bad_from me count text j (HasRepeat i is right again) before here =
    absurd (elim (cases_order i j) [
      | inl same ↦ one_fault me count (lines_of text) j before here (rw same at again)
      | inr other ↦ elim other [
        | inl first ↦ (before i first).1 again
        | inr later ↦ (right j later).0 here
      ]
    ])

repeat_to : (me : Party) (count : ℕ) (text : List ℕ) → Answer me count text → ring_of me count text ≡ Err Repeated → (i : ℕ) × AreRightBelow me count (lines_of text) i × IsRepeat (lines_of text) i
repeat_to me count text (Given ring is held right all) e = absurd (cc)
repeat_to me count text (Lacking is right lacks) e = absurd (cc)
repeat_to me count text (HasBad i is right bad) e = absurd (cc)
repeat_to me count text (HasRepeat i is right again) e = (i, right, again)

repeat_from : (me : Party) (count : ℕ) (text : List ℕ) (j : ℕ) → Answer me count text → AreRightBelow me count (lines_of text) j → IsRepeat (lines_of text) j → ring_of me count text ≡ Err Repeated
repeat_from me count text j (Given ring is held right all) before here = absurd ((right j).1 here)
repeat_from me count text j (Lacking is right lacks) before here = absurd ((right j).1 here)
repeat_from me count text j (HasRepeat i is right again) before here = is
repeat_from me count text j (HasBad i is right bad) before here =
    absurd (elim (cases_order i j) [
      | inl same ↦ one_fault me count (lines_of text) j before (rw same at bad) here
      | inr other ↦ elim other [
        | inl first ↦ (before i first).0 bad
        | inr later ↦ (right j later).1 here
      ]
    ])

missing_to : (me : Party) (count : ℕ) (text : List ℕ) → Answer me count text → ring_of me count text ≡ Err Missing → AreRight me count (lines_of text) × LacksOne me count (lines_of text)
missing_to me count text (Given ring is held right all) e = absurd (cc)
missing_to me count text (Lacking is right lacks) e = (right, lacks)
missing_to me count text (HasBad i is right bad) e = absurd (cc)
missing_to me count text (HasRepeat i is right again) e = absurd (cc)

missing_from : (me : Party) (count : ℕ) (text : List ℕ) → Answer me count text → AreRight me count (lines_of text) → LacksOne me count (lines_of text) → ring_of me count text ≡ Err Missing
missing_from me count text (Given ring is held right all) correct lacks = absurd (let there = all lacks.0 lacks.1 lacks.2 in lacks.3 there.0 there.1)
missing_from me count text (Lacking is right lack) correct lacks = is
missing_from me count text (HasBad i is right bad) correct lacks = absurd ((correct i).0 bad)
missing_from me count text (HasRepeat i is right again) correct lacks = absurd ((correct i).1 again)

no_other : (me : Party) (count : ℕ) (text : List ℕ) → Answer me count text → ring_of me count text ≡ Err OutOfMemory → ⊥
no_other me count text (Given ring is held right all) e = cc
no_other me count text (Lacking is right lacks) e = cc
no_other me count text (HasBad i is right bad) e = cc
no_other me count text (HasRepeat i is right again) e = cc

pub fault_law : FaultLaw
fault_law me count text = (
  (λ e. bad_to me count text (answer me count text) e, λ bad. bad_from me count text bad.0 (answer me count text) bad.1 bad.2),
  (λ e. repeat_to me count text (answer me count text) e, λ again. repeat_from me count text again.0 (answer me count text) again.1 again.2),
  (λ e. missing_to me count text (answer me count text) e, λ all. missing_from me count text (answer me count text) all.0 all.1),
  λ e. no_other me count text (answer me count text) e,
)

-- What reading a file's lines in turn comes to: all of its key lines, or the first line with a fault.
use Rattle.std.proofs.Common.{◌≡◌, ℕ, zero, suc, ◌+◌, ◌<◌, ◌⊎◌, true, false, List, [], ◌∷◌, ◌++◌, length, drop, get_or, Option, Some, None, Ok, Err, inl, inr, refl, sym, ap, subst, ◌∙◌, arith, below_more}
use Rattle.std.specs.List.{Contains, slice_get}
use Rattle.std.proofs.lemmas.Bool.{both_ways, cases_Bool, cases_lt}
use Rattle.std.proofs.lemmas.List.Elements.{Contains-append_left, Contains-push, Contains-push_cases}
use Rattle.std.proofs.lemmas.Option.{get_or_from_slice_get, slice_get-get_or}
use Rattle.authenticators.specs.Lines.{key_line}
use Rattle.authenticators.specs.Keys.{is_mine, is_skipped, key_between, with_line, with_lines}
use Rattle.authenticators.specs.Laws.{Stands, Tells, IsBad, IsRepeat, IsRight, AreRightBelow}
use Rattle.authenticators.specs.declared.party.Party.{Party}
use Rattle.authenticators.specs.declared.key_line.KeyLine.{KeyLine}
use Rattle.authenticators.specs.declared.fault.KeysFault.TheVariants.{BadLine, Repeated}
use Rattle.authenticators.proofs.Between.{line_between, between_some, between_none}
use Rattle.authenticators.proofs.Files.{lines_more, lines_fail, lines_done}

-- ---- one line

abbrev File : Type 0
File = List (List ℕ)

one_line : (file : File) (i : ℕ) (a b : List ℕ) → slice_get file i ≡ Some a → slice_get file i ≡ Some b → a ≡ b
one_line file i a b x y = let same : Some a ≡ Some b = sym x ∙ y in cc

-- what a line tells is one thing
pub tells_of : (file : File) (i : ℕ) (line : List ℕ) (told : KeyLine) → slice_get file i ≡ Some line → Tells file i told → (is_skipped line ≡ false) × (key_line line ≡ Some told)
tells_of file i line told at t =
    let same : t.0 ≡ line = one_line file i t.0 line t.1.0 at in
    (rw same at t.1.1, rw same at t.2)

pub tells_one : (file : File) (i : ℕ) (a b : KeyLine) → Tells file i a → Tells file i b → a ≡ b
tells_one file i a b x y =
    let other = tells_of file i x.0 b x.1.0 y in
    let same : Some a ≡ Some b = sym x.2 ∙ other.1 in
    cc

-- ---- the lines before a place

-- the list holds the key lines before line n, each of which is right
pub record SoFar (me : Party) (count : ℕ) (file : File) (n : ℕ) (lines : List KeyLine) : Type 0 where
  pub rest : with_lines me count lines (drop n file) ≡ with_lines me count [] file
  pub from_file : (told : KeyLine) → Contains lines told → (i : ℕ) × (i < n) × Tells file i told
  pub in_lines : (i : ℕ) (told : KeyLine) → i < n → Tells file i told → Contains lines told
  pub right : AreRightBelow me count file n

at_none : (me : Party) (count : ℕ) (file : File) → SoFar me count file 0 []
at_none me count file = record {
  rest = refl;
  from_file = λ told in_none. absurd (omega (arith, in_none.1));
  in_lines = λ i told below t. absurd (omega arith);
  right = λ j below. absurd (omega arith);
}

-- one line more
more : (me : Party) (count : ℕ) (file : File) (n : ℕ) (lines next : List KeyLine) → SoFar me count file n lines
    → with_lines me count next (drop (n + 1) file) ≡ with_lines me count lines (drop n file)
    → ((told : KeyLine) → Contains next told → Contains lines told ⊎ Tells file n told)
    → ((told : KeyLine) → Contains lines told → Contains next told)
    → ((told : KeyLine) → Tells file n told → Contains next told)
    → IsRight me count file n → SoFar me count file (n + 1) next
more me count file n lines next s rest split old new right = record {
  rest = rest ∙ s.rest;
  from_file = λ told in_next. elim (split told in_next) [
    | inl before ↦ (let f = s.from_file told before in (f.0, omega (arith, f.1), f.2))
    | inr here ↦ (n, omega arith, here)
  ];
  in_lines = λ i told below t. elim (cases_lt i n) [
    | inl before ↦ old told (s.in_lines i told before t)
    | inr past ↦ (let here : i ≡ n = omega arith in new told (rw here at t))
  ];
  right = below_more (IsRight me count file) n s.right right;
}

-- an empty line or a comment
skipped : (me : Party) (count : ℕ) (file : File) (n : ℕ) (lines : List KeyLine) (line : List ℕ) → SoFar me count file n lines
    → n < length file → slice_get file n ≡ Some line → is_skipped line ≡ true → SoFar me count file (n + 1) lines
unfolding with_line
skipped me count file n lines line s below at skip =
    let nothing : (told : KeyLine) → Tells file n told → ⊥ = λ told t. both_ways _ (tells_of file n line told at t).0 skip in
    let taken : with_line me count lines line ≡ Ok lines = rw skip refl in
    more me count file n lines lines s
    (lines_more me count lines lines file n line below (sym (get_or_from_slice_get file n line line at)) taken)
    (λ told h. inl h) (λ told h. h) (λ told t. absurd (nothing told t))
    (λ bad. both_ways _ (let same : bad.0 ≡ line = one_line file n bad.0 line bad.1.0 at in rw same at bad.1.1) skip, λ again. nothing again.3 again.5)

-- a key line of parties in range, about a new pair
taken : (me : Party) (count : ℕ) (file : File) (n : ℕ) (lines : List KeyLine) (line : List ℕ) (told : KeyLine) → SoFar me count file n lines
    → n < length file → Stands file n line → key_line line ≡ Some told → is_mine me count told ≡ true → key_between lines told.from told.to ≡ None
    → SoFar me count file (n + 1) (lines ++ told ∷ [])
unfolding with_line
taken me count file n lines line told s below stands says mine new =
    let here : Tells file n told = (line, stands, says) in
    let taken : with_line me count lines line ≡ Ok (lines ++ told ∷ []) = rw (stands.1, says, mine, new) refl in
    more me count file n lines (lines ++ told ∷ []) s
    (lines_more me count lines (lines ++ told ∷ []) file n line below (sym (get_or_from_slice_get file n line line stands.0)) taken)
    (λ other h. elim (Contains-push_cases lines told other h) [
      | inl old ↦ inl old
      | inr same ↦ inr (subst (Tells file n) same here)
    ])
    (λ other h. Contains-append_left lines (told ∷ []) other h)
    (λ other t. subst (Contains (lines ++ told ∷ [])) (tells_one file n told other here t) (Contains-push lines told)) (
      λ bad. (let same : line ≡ bad.0 = one_line file n line bad.0 stands.0 bad.1.0 in both_ways _ (bad.2 told (rw same at says)) mine),
      λ again.
          let later : again.3 ≡ told = tells_one file n again.3 told again.5 here in
          between_none lines told.from told.to new again.2 (s.in_lines again.0 again.2 again.1 again.4)
          (again.6 ∙ ap (λ (l : KeyLine). l.from) later) (again.7 ∙ ap (λ (l : KeyLine). l.to) later),
    )

-- ---- the whole file

pub data Outcome (me : Party) (count : ℕ) (file : File) : Type 0 where
  AllRead : (lines : List KeyLine) → with_lines me count [] file ≡ Ok lines → SoFar me count file (length file) lines → Outcome me count file
  BadAt : (i : ℕ) → with_lines me count [] file ≡ Err BadLine → AreRightBelow me count file i → IsBad me count file i → Outcome me count file
  RepeatAt : (i : ℕ) → with_lines me count [] file ≡ Err Repeated → AreRightBelow me count file i → IsRepeat file i → Outcome me count file

bad : (me : Party) (count : ℕ) (file : File) (n : ℕ) (lines : List KeyLine) (line : List ℕ) → SoFar me count file n lines
    → n < length file → Stands file n line → with_line me count lines line ≡ Err BadLine
    → ((told : KeyLine) → key_line line ≡ Some told → is_mine me count told ≡ false) → Outcome me count file
bad me count file n lines line s below stands fault none =
    BadAt n (sym s.rest ∙ lines_fail me count lines file n line BadLine below (sym (get_or_from_slice_get file n line line stands.0)) fault) s.right (line, stands, none)

repeated : (me : Party) (count : ℕ) (file : File) (n : ℕ) (lines : List KeyLine) (line : List ℕ) (told : KeyLine) (key : List ℕ) → SoFar me count file n lines
    → n < length file → Stands file n line → key_line line ≡ Some told → is_mine me count told ≡ true → key_between lines told.from told.to ≡ Some key
    → Outcome me count file
unfolding with_line
repeated me count file n lines line told key s below stands says mine old =
    let fault : with_line me count lines line ≡ Err Repeated = rw (stands.1, says, mine, old) refl in
    let earlier = s.from_file (line_between told.from told.to key) (between_some lines told.from told.to key old) in
    RepeatAt n (sym s.rest ∙ lines_fail me count lines file n line Repeated below (sym (get_or_from_slice_get file n line line stands.0)) fault) s.right
    (earlier.0, earlier.1, line_between told.from told.to key, told, earlier.2, (line, stands, says), refl, refl)

-- the line is taken, or it has the fault
abbrev Step : Party → ℕ → File → ℕ → Type 0
Step me count file n = ((next : List KeyLine) × SoFar me count file (n + 1) next) ⊎ Outcome me count file

new_pair : (me : Party) (count : ℕ) (file : File) (n : ℕ) (lines : List KeyLine) (line : List ℕ) (told : KeyLine) → SoFar me count file n lines
    → n < length file → Stands file n line → key_line line ≡ Some told → is_mine me count told ≡ true
    → (key : Option (List ℕ)) → key_between lines told.from told.to ≡ key → Step me count file n
new_pair me count file n lines line told s below stands says mine (Some key) old = inr (repeated me count file n lines line told key s below stands says mine old)
new_pair me count file n lines line told s below stands says mine None new = inl (lines ++ told ∷ [], taken me count file n lines line told s below stands says mine new)

kept_line : (me : Party) (count : ℕ) (file : File) (n : ℕ) (lines : List KeyLine) (line : List ℕ) → SoFar me count file n lines
    → n < length file → Stands file n line → (told : Option KeyLine) → key_line line ≡ told → Step me count file n
unfolding with_line
kept_line me count file n lines line s below stands None says =
    inr (bad me count file n lines line s below stands (rw (stands.1, says) refl) (λ told is. absurd (let none : None ≡ Some told = sym says ∙ is in cc)))
kept_line me count file n lines line s below stands (Some told) says =
    elim (cases_Bool (is_mine me count told)) [
      | inl mine ↦ new_pair me count file n lines line told s below stands says mine (key_between lines told.from told.to) refl
      | inr other ↦
          inr (bad me count file n lines line s below stands (rw (stands.1, says, other) refl)
          (λ another is. let same : Some told ≡ Some another = sym says ∙ is in let one : told ≡ another = cc in rw one at other))
    ]

step : (me : Party) (count : ℕ) (file : File) (n : ℕ) (lines : List KeyLine) → SoFar me count file n lines → n < length file → Step me count file n
step me count file n lines s below =
    let line : List ℕ = get_or file n [] in
    let at : slice_get file n ≡ Some line = slice_get-get_or file n [] below in
    elim (cases_Bool (is_skipped line)) [
      | inl skip ↦ inl (lines, skipped me count file n lines line s below at skip)
      | inr kept ↦ kept_line me count file n lines line s below (at, kept) (key_line line) refl
    ]

from_place : (me : Party) (count : ℕ) (file : File) (left n : ℕ) (lines : List KeyLine) → n + left ≡ length file → SoFar me count file n lines → Outcome me count file
from_place me count file zero n lines e s =
    let end : n ≡ length file = omega arith in
    AllRead lines (sym s.rest ∙ lines_done me count lines file n end) (rw end at s)
from_place me count file (suc left) n lines e s =
    elim (step me count file n lines s (omega arith)) [
      | inl next ↦ from_place me count file left (n + 1) next.0 (omega arith) next.1
      | inr end ↦ end
    ]

pub outcome : (me : Party) (count : ℕ) (file : File) → Outcome me count file
outcome me count file = from_place me count file (length file) 0 [] (omega arith) (at_none me count file)

-- The key between two parties, by a list of key lines.
use Rattle.std.proofs.Common.{◌≡◌, ℕ, zero, suc, ◌<◌, Bool, true, false, List, [], ◌∷◌, length, get_or, eqb, Option, Some, None, inl, inr, refl, ap, subst, ◌∙◌, arith}
use Rattle.std.specs.List.{Contains, find}
use Rattle.std.specs.Prelude.{option_map}
use Rattle.std.proofs.lemmas.Bool.{and_from, and_parts, both_ways, cases_Bool, eq-eqb, eqb-true}
use Rattle.authenticators.specs.Keys.{same_party, is_between, key_between}
use Rattle.authenticators.specs.declared.party.Party.{Party}
use Rattle.authenticators.specs.declared.key_line.KeyLine.{KeyLine}
use Rattle.authenticators.proofs.Parties.{same_is, is_same}

-- ---- the first element that passes

find_some : {X : Type 0} (p : X → Bool) (xs : List X) (x : X) → find p xs ≡ Some x → Contains xs x × (p x ≡ true)
find_some p [] x e = absurd (cc)
find_some p (y ∷ ys) x e =
    elim (cases_Bool (p y)) [
      | inl passes ↦
          let hit : Some y ≡ Some x = rw passes at e in
          let same : y ≡ x = cc in
          ((0, omega arith, same), rw (← same) passes)
      | inr fails ↦
          let rest = find_some p ys x (rw fails at e) in
          ((suc rest.0.0, omega (arith, rest.0.1), rest.0.2), rest.1)
    ]

none_at : {X : Type 0} (p : X → Bool) (xs : List X) (x : X) (k : ℕ) → find p xs ≡ None → k < length xs → get_or xs k x ≡ x → p x ≡ false
none_at p [] x k e h is = absurd (omega arith)
none_at p (y ∷ ys) x zero e h is =
    elim (cases_Bool (p y)) [
      | inl passes ↦ absurd (let hit : Some y ≡ None = rw passes at e in cc)
      | inr fails ↦ rw (← is) fails
    ]
none_at p (y ∷ ys) x (suc k) e h is =
    elim (cases_Bool (p y)) [
      | inl passes ↦ absurd (let hit : Some y ≡ None = rw passes at e in cc)
      | inr fails ↦ none_at p ys x k (rw fails at e) (omega arith) is
    ]

-- ---- key lines

abbrev pub line_between : Party → ℕ → List ℕ → KeyLine
line_between from to key = record { from = from; to = to; key = key }

pub same_line : (a b : KeyLine) → a.from ≡ b.from → a.to ≡ b.to → a.key ≡ b.key → a ≡ b
same_line a b from to key =
    ap (λ (party : Party). line_between party a.to a.key) from
    ∙ ap (λ (number : ℕ). line_between b.from number a.key) to
    ∙ ap (λ (bytes : List ℕ). line_between b.from b.to bytes) key

pub between_some : (lines : List KeyLine) (from : Party) (to : ℕ) (key : List ℕ) → key_between lines from to ≡ Some key → Contains lines (line_between from to key)
unfolding key_between
between_some lines from to key e = found (find (is_between from to) lines) refl e
  where
    found : (line : Option KeyLine) → find (is_between from to) lines ≡ line → option_map (λ (l : KeyLine). l.key) line ≡ Some key → Contains lines (line_between from to key)
    found None at e = absurd (cc)
    found (Some line) at e =
        let hit = find_some (is_between from to) lines line at in
        let parts = and_parts (same_party line.from from) (eqb line.to to) hit.1 in
        let bytes : line.key ≡ key = cc in
        subst (Contains lines) (same_line line (line_between from to key) (same_is line.from from parts.0) (eqb-true line.to to parts.1) bytes) hit.0

pub between_none : (lines : List KeyLine) (from : Party) (to : ℕ) → key_between lines from to ≡ None → (line : KeyLine) → Contains lines line → line.from ≡ from → line.to ≡ to → ⊥
unfolding key_between
between_none lines from to e line in_lines same_from same_to = none (find (is_between from to) lines) refl e
  where
    none : (found : Option KeyLine) → find (is_between from to) lines ≡ found → option_map (λ (l : KeyLine). l.key) found ≡ None → ⊥
    none (Some other) at e = absurd (cc)
    none None at e =
        both_ways (is_between from to line) (none_at (is_between from to) lines line in_lines.0 at in_lines.1 in_lines.2)
        (and_from _ _ (is_same line.from from same_from) (eq-eqb line.to to same_to))

-- The walk finds the items of sessions in turn.
use Rattle.std.proofs.Common.{◌≡◌, ◌≢◌, ℕ, suc, Bool, true, false, List, [], ◌∷◌, ◌++◌, refl, sym, ◌∙◌, ap, subst, eq-eqb}
use Rattle.std.specs.Prelude.{◌==◌}
use Rattle.std.proofs.lemmas.Bool.{and_from}
use Rattle.protocol.specs.declared.standing.Standing.{Standing}
use Rattle.protocol.specs.Values.{Op, Bytes, Close, Item, is_close, left_by, fits, in_turn}
use Rattle.client_order.specs.Sessions.{EndsWithClose, AreSessions, joined}
use Rattle.client_order.proofs.Numbered.{GoesOn, numbered}

-- where a client stands
abbrev pub stands : ℕ → ℕ → Bool → Standing
stands session last closed = record { session = session; last = last; closed = closed }

-- after a close the walk goes on as at the next session's beginning
pub closed_next : (session last : ℕ) (ts : List Item) → in_turn (stands session last true) ts ≡ in_turn (stands (suc session) 0 false) ts
closed_next session last [] = refl
closed_next session last (t ∷ ts) = refl

pub left_at : (session last : ℕ) (t : Item) (b : Bool) → t.session ≡ session → t.number ≡ last → is_close t.op ≡ b → left_by t ≡ stands session last b
left_at session last t b e f g = rw (e, f, g) refl

first_fits : (session last : ℕ) (t : Item) (b : Bool) (ts : List Item) → t.session ≡ session → t.number ≡ suc last → is_close t.op ≡ b → in_turn (stands session (suc last) b) ts ≡ true → in_turn (stands session last false) (t ∷ ts) ≡ true
first_fits session last t b ts e f g h =
    and_from (fits (stands session last false) t) (in_turn (left_by t) ts) (and_from (t.session == session) (t.number == suc last) (eq-eqb _ _ e) (eq-eqb _ _ f)) (subst (λ (s : Standing). in_turn s ts ≡ true) (sym (left_at session (suc last) t b e f g)) h)

pub is_a_close : (op : Op) → is_close op ≡ true → op ≡ Close
is_a_close Close h = refl
is_a_close (Bytes b) h = absurd (let e : false ≡ true = h in cc)

pub no_close : (op : Op) → (op ≡ Close → ⊥) → is_close op ≡ false
no_close Close h = absurd (h refl)
no_close (Bytes b) h = refl

pub cons_some : {X : Type 0} (x : X) (xs : List X) → x ∷ xs ≢ []
cons_some x xs e = absurd (let f : true ≡ false = cc in cc)

module _ (session : ℕ) (parts : List (List Item)) (next : in_turn (stands (suc session) 0 false) (joined parts) ≡ true) where
  last_in_turn : (last : ℕ) (t : Item) (more : List (List Item)) → more ≡ parts → t.session ≡ session → t.number ≡ suc last → (more ≢ [] → t.op ≡ Close) → in_turn (stands session last false) (t ∷ joined parts) ≡ true
  last_in_turn last t [] e f g c = first_fits session last t (is_close t.op) (joined parts) f g refl (subst (λ (ps : List (List Item)). in_turn (stands session (suc last) (is_close t.op)) (joined ps) ≡ true) e refl)
  last_in_turn last t (q ∷ qs) e f g c = first_fits session last t true (joined parts) f g (ap is_close (c (cons_some q qs))) (closed_next session (suc last) (joined parts) ∙ next)

  part_in_turn : (last : ℕ) (part : List Item) → part ≢ [] → GoesOn session last part → (parts ≢ [] → EndsWithClose part) → in_turn (stands session last false) (part ++ joined parts) ≡ true
  part_in_turn last [] some g c = absurd (some refl)
  part_in_turn last (t ∷ []) some g c = last_in_turn last t parts refl g.0 g.1 c
  part_in_turn last (t ∷ u ∷ part) some g c = first_fits session last t false ((u ∷ part) ++ joined parts) g.0 g.1 (no_close t.op (λ k. cons_some u part (g.2 k))) (part_in_turn (suc last) (u ∷ part) (cons_some u part) g.3 c)

pub walked : (session : ℕ) (parts : List (List Item)) → AreSessions session parts → in_turn (stands session 0 false) (joined parts) ≡ true
walked session [] h = refl
walked session (part ∷ parts) h = part_in_turn session parts (walked (suc session) parts h.3) 0 part h.0 (numbered session part h.1) h.2

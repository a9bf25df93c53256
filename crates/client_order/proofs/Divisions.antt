-- Dividing a list behind each close gives its sessions, where its items are in turn; and of the items of sessions, these sessions.
use Rattle.std.proofs.Common.{◌≡◌, ℕ, suc, true, false, cond, List, [], ◌∷◌, ◌++◌, refl, sym, ◌∙◌, ap, subst, eqb-true}
use Rattle.std.specs.Prelude.{◌==◌, ◌≢◌}
use Rattle.std.specs.List.{onto_first}
use Rattle.std.proofs.lemmas.Bool.{and_parts, cond_both}
use Rattle.protocol.specs.declared.standing.Standing.{Standing}
use Rattle.protocol.specs.Values.{Close, Item, is_close, left_by, fits, in_turn}
use Rattle.client_order.specs.Sessions.{EndsWithClose, AreSessions, joined}
use Rattle.client_order.proofs.Numbered.{GoesOn, numbered, is_session}
use Rattle.client_order.proofs.Walks.{stands, closed_next, left_at, is_a_close, no_close, cons_some}

abbrev pub divided : List Item → List (List Item)
divided [] = []
divided (t ∷ ts) = cond (is_close t.op) ((t ∷ []) ∷ divided ts) (onto_first t (divided ts))

joined_onto : (t : Item) (parts : List (List Item)) → joined (onto_first t parts) ≡ t ∷ joined parts
joined_onto t [] = refl
joined_onto t (part ∷ parts) = refl

pub joined_again : (ts : List Item) → joined (divided ts) ≡ ts
joined_again [] = refl
joined_again (t ∷ ts) = cond_both (is_close t.op) ((t ∷ []) ∷ divided ts) (onto_first t (divided ts)) (λ parts. joined parts ≡ t ∷ ts)
    (λ _. ap (λ l. t ∷ l) (joined_again ts)) (λ _. joined_onto t (divided ts) ∙ ap (λ l. t ∷ l) (joined_again ts))

-- ---- of items in turn

-- the sessions from this one on, of which the items up to a number are left out
abbrev FromNumber : ℕ → ℕ → List (List Item) → Type 0
FromNumber session last [] = Unit {0}
FromNumber session last (part ∷ parts) = (part ≢ []) × GoesOn session last part × (parts ≢ [] → EndsWithClose part) × AreSessions (suc session) parts

from_first : (session : ℕ) (parts : List (List Item)) → FromNumber session 0 parts → AreSessions session parts
from_first session [] h = tt
from_first session (part ∷ parts) h = (h.0, is_session session part h.1, h.2, h.3)

open_before : (session last : ℕ) (t : Item) → t.session ≡ session → t.number ≡ suc last → is_close t.op ≡ false → (parts : List (List Item)) → FromNumber session (suc last) parts → FromNumber session last (onto_first t parts)
open_before session last t e f n [] h = (cons_some t [], (e, f, (λ _. refl), tt), (λ k. absurd (k refl)), tt)
open_before session last t e f n ([] ∷ parts) h = absurd (h.0 refl)
open_before session last t e f n ((u ∷ part) ∷ parts) h = (cons_some t (u ∷ part), (e, f, (λ k. absurd (let g : true ≡ false = sym (ap is_close k) ∙ n in cc)), h.1), h.2, h.3)

in_sessions : (session last : ℕ) (ts : List Item) → in_turn (stands session last false) ts ≡ true → FromNumber session last (divided ts)
in_sessions session last [] h = tt
in_sessions session last (t ∷ ts) h =
    let k = and_parts (fits (stands session last false) t) (in_turn (left_by t) ts) h in
    let at = and_parts (t.session == session) (t.number == suc last) k.0 in
    let e : t.session ≡ session = eqb-true _ _ at.0 in
    let f : t.number ≡ suc last = eqb-true _ _ at.1 in
    cond_both (is_close t.op) ((t ∷ []) ∷ divided ts) (onto_first t (divided ts)) (FromNumber session last)
    (λ c. let rest : in_turn (stands session (suc last) true) ts ≡ true = subst (λ (s : Standing). in_turn s ts ≡ true) (left_at session (suc last) t true e f c) k.1 in
    (cons_some t [], (e, f, (λ _. refl), tt), (λ _. is_a_close t.op c), from_first (suc session) (divided ts) (in_sessions (suc session) 0 ts (sym (closed_next session (suc last) ts) ∙ rest))))
    (λ n. open_before session last t e f n (divided ts) (in_sessions session (suc last) ts (subst (λ (s : Standing). in_turn s ts ≡ true) (left_at session (suc last) t false e f n) k.1)))

pub sessions_of : (ts : List Item) → in_turn (stands 0 0 false) ts ≡ true → AreSessions 0 (divided ts)
sessions_of ts h = from_first 0 (divided ts) (in_sessions 0 0 ts h)

-- ---- of sessions

module _ (parts : List (List Item)) (rest : divided (joined parts) ≡ parts) where
  last_divided : (t : Item) (more : List (List Item)) → more ≡ parts → (more ≢ [] → t.op ≡ Close) → divided (t ∷ joined parts) ≡ (t ∷ []) ∷ parts
  last_divided t [] e c = subst (λ (ps : List (List Item)). divided (t ∷ joined ps) ≡ (t ∷ []) ∷ ps) e (cond_both (is_close t.op) ((t ∷ []) ∷ []) ((t ∷ []) ∷ []) (λ ps. ps ≡ (t ∷ []) ∷ []) (λ _. refl) (λ _. refl))
  last_divided t (q ∷ qs) e c = rw (ap is_close (c (cons_some q qs))) (ap (λ ps. (t ∷ []) ∷ ps) rest)

  part_divided : (session last : ℕ) (part : List Item) → part ≢ [] → GoesOn session last part → (parts ≢ [] → EndsWithClose part) → divided (part ++ joined parts) ≡ part ∷ parts
  part_divided session last [] some g c = absurd (some refl)
  part_divided session last (t ∷ []) some g c = last_divided t parts refl c
  part_divided session last (t ∷ u ∷ part) some g c = rw (no_close t.op (λ k. cons_some u part (g.2 k))) (ap (onto_first t) (part_divided session (suc last) (u ∷ part) (cons_some u part) g.3 c))

pub divided_again : (session : ℕ) (parts : List (List Item)) → AreSessions session parts → divided (joined parts) ≡ parts
divided_again session [] h = refl
divided_again session (part ∷ parts) h = part_divided parts (divided_again (suc session) parts h.3) session 0 part h.0 (numbered session part h.1) h.2

-- A part's items, from one of its places on: which session and which numbers they have.
use Rattle.std.proofs.Common.{◌≡◌, ℕ, zero, suc, ◌+◌, true, false, List, [], ◌∷◌, length, Some, refl, subst, arith}
use Rattle.std.specs.Prelude.{slice_get}
use Rattle.protocol.specs.Values.{Close, Item}
use Rattle.client_order.specs.Sessions.{IsSession}

-- the items of a session behind those up to this number
abbrev pub GoesOn : ℕ → ℕ → List Item → Type 0
GoesOn session last [] = Unit {0}
GoesOn session last (t ∷ part) = (t.session ≡ session) × (t.number ≡ suc last) × (t.op ≡ Close → part ≡ []) × GoesOn session (suc last) part

-- the same, by places
abbrev Places : ℕ → ℕ → List Item → Type 0
Places session last part = (place : ℕ) (t : Item) → slice_get part place ≡ Some t → (t.session ≡ session) × (t.number ≡ suc (last + place)) × (t.op ≡ Close → suc place ≡ length part)

none_behind : (part : List Item) → 1 ≡ suc (length part) → part ≡ []
none_behind [] e = refl
none_behind (t ∷ part) e = absurd (omega arith)

goes_on : (session last : ℕ) (part : List Item) → Places session last part → GoesOn session last part
goes_on session last [] h = tt
goes_on session last (t ∷ part) h =
    let f = h 0 t refl in
    (f.0, (let e = f.1 in omega arith), (λ c. none_behind part (f.2 c)), goes_on session (suc last) part (λ place u e. let g = h (suc place) u e in (g.0, (let k = g.1 in omega arith), (λ c. let k = g.2 c in omega arith))))

by_places : (session last : ℕ) (part : List Item) → GoesOn session last part → Places session last part
by_places session last [] g place u e = absurd (let f : false ≡ true = cc in cc)
by_places session last (t ∷ part) g zero u e =
    let same : t ≡ u = cc in
    subst (λ (x : Item). (x.session ≡ session) × (x.number ≡ suc (last + 0)) × (x.op ≡ Close → 1 ≡ suc (length part))) same (g.0, (let k = g.1 in omega arith), (λ c. rw (g.2 c) refl))
by_places session last (t ∷ part) g (suc place) u e =
    let f = by_places session (suc last) part g.3 place u e in
    (f.0, (let k = f.1 in omega arith), (λ c. let k = f.2 c in omega arith))

pub numbered : (session : ℕ) (part : List Item) → IsSession session part → GoesOn session 0 part
numbered session part h = goes_on session 0 part (λ place t e. let f = h place t e in (f.0, (let k = f.1 in omega arith), f.2))

pub is_session : (session : ℕ) (part : List Item) → GoesOn session 0 part → IsSession session part
is_session session part g place t e = let f = by_places session 0 part g place t e in (f.0, (let k = f.1 in omega arith), f.2)

-- A correct client's items are in turn, and a list in turn whose items it sent begins what it sent.
use Rattle.std.proofs.Common.{◌≡◌, ◌&&◌, ℕ, suc, ◌<◌, ◌≤◌, ◌⊎◌, inl, inr, Bool, true, false, cond, List, [], ◌∷◌, ◌++◌, refl, sym, ◌∙◌, ap, ap₂, subst, arith, eqb-true, eq-eqb}
use Rattle.std.specs.Prelude.{◌==◌}
use Rattle.std.proofs.lemmas.Bool.{and_parts, and_from, cond_both}
use Rattle.protocol.specs.Values.{Op, Item, Standing, is_close, fresh, fits, session_wanted, number_wanted, left_by, left_after, of, in_turn}
use Rattle.protocol.specs.Tags.{Setting}
use Rattle.protocol.specs.Messages.{◌∈◌}
use Rattle.protocol.specs.World.{World, Event, Sends, Comes, Fires, Asks, Resends, Restarts, happens, run, next_item}
use Rattle.protocol.specs.Premises.{Begins}

-- ---- lists in turn

turn_head : (s : Standing) (x : Item) (xs : List Item) → in_turn s (x ∷ xs) ≡ true → fits s x ≡ true
turn_head s x xs k = (and_parts (fits s x) (in_turn (left_by x) xs) k).0

turn_tail : (s : Standing) (x : Item) (xs : List Item) → in_turn s (x ∷ xs) ≡ true → in_turn (left_by x) xs ≡ true
turn_tail s x xs k = (and_parts (fits s x) (in_turn (left_by x) xs) k).1

fits_session : (s : Standing) (t : Item) → fits s t ≡ true → t.session ≡ session_wanted s
fits_session s t k = eqb-true _ _ (and_parts _ _ k).0

fits_number : (s : Standing) (t : Item) → fits s t ≡ true → t.number ≡ number_wanted s
fits_number s t k = eqb-true _ _ (and_parts _ _ k).1

pub turn_push : (s : Standing) (ts : List Item) (t : Item) → in_turn s ts ≡ true → fits (left_after s ts) t ≡ true → in_turn s (ts ++ t ∷ []) ≡ true
turn_push s [] t k f = and_from _ _ f refl
turn_push s (x ∷ ts) t k f = and_from _ _ (turn_head s x ts k) (turn_push (left_by x) ts t (turn_tail s x ts k) f)

-- of a later session, or of this one with this number or a later one
abbrev Beyond : ℕ → ℕ → Item → Type 0
Beyond session number t = (session < t.session) ⊎ ((session ≡ t.session) × (number ≤ t.number))

-- what is not before an item's next is beyond the item
past : (closed : Bool) (session last : ℕ) (t : Item) → Beyond (cond closed (suc session) session) (cond closed 1 (suc last)) t → Beyond session (suc last) t
past false session last t h = h
past true session last t (inl h) = inl (omega arith)
past true session last t (inr h) = inl (let e = h.0 in omega arith)

same_place : (x t : Item) → t ≡ x → Beyond x.session (suc x.number) t → ⊥
same_place x t e (inl h) = let a = ap (λ (y : Item). y.session) e in omega arith
same_place x t e (inr h) = let a = ap (λ (y : Item). y.number) e in let b = h.1 in omega arith

-- those of a list in turn are not before its first place
turn_beyond : (s : Standing) (ts : List Item) → in_turn s ts ≡ true → (t : Item) → t ∈ ts → Beyond (session_wanted s) (number_wanted s) t
turn_beyond s [] k t i = absurd i
turn_beyond s (x ∷ ts) k t (inl e) =
    let f : t.session ≡ session_wanted s = ap (λ (y : Item). y.session) e ∙ fits_session s x (turn_head s x ts k) in
    let g : t.number ≡ number_wanted s = ap (λ (y : Item). y.number) e ∙ fits_number s x (turn_head s x ts k) in
    inr (sym f, omega arith)
turn_beyond s (x ∷ ts) k t (inr i) =
    let f = fits_session s x (turn_head s x ts k) in
    let g = fits_number s x (turn_head s x ts k) in
    elim (past (is_close x.op) x.session x.number t (turn_beyond (left_by x) ts (turn_tail s x ts k) t i)) [
      | inl h ↦ inl (omega arith)
      | inr h ↦ inr (sym f ∙ h.0, let m = h.1 in omega arith)
    ]

-- those behind an item are beyond it
behind : (s : Standing) (x : Item) (ts : List Item) → in_turn s (x ∷ ts) ≡ true → (t : Item) → t ∈ ts → Beyond x.session (suc x.number) t
behind s x ts k t i = past (is_close x.op) x.session x.number t (turn_beyond (left_by x) ts (turn_tail s x ts k) t i)

-- two first items of one standing have one place
one_place : (s : Standing) (x y t : Item) → fits s x ≡ true → fits s y ≡ true → Beyond y.session (suc y.number) t → Beyond x.session (suc x.number) t
one_place s x y t f g b =
    let es : y.session ≡ x.session = fits_session s y g ∙ sym (fits_session s x f) in
    let en : y.number ≡ x.number = fits_number s y g ∙ sym (fits_number s x f) in
    subst (λ n. Beyond n (suc x.number) t) es (subst (λ n. Beyond y.session (suc n) t) en b)

-- Of two lists in turn from one standing, one whose items are all in the other begins it.
pub begins_sent : (s : Standing) (xs ys : List Item) → in_turn s xs ≡ true → in_turn s ys ≡ true → ((t : Item) → t ∈ xs → t ∈ ys) → Begins xs ys
begins_sent s [] ys k m sub = (ys, refl)
begins_sent s (x ∷ xs) [] k m sub = absurd (sub x (inl refl))
begins_sent s (x ∷ xs) (y ∷ ys) k m sub =
    let f : fits s x ≡ true = turn_head s x xs k in
    let g : fits s y ≡ true = turn_head s y ys m in
    let same : x ≡ y = elim (sub x (inl refl)) [ inl e ↦ e | inr i ↦ absurd (same_place x x refl (one_place s x y x f g (behind s y ys m x i))) ] in
    let rest : in_turn (left_by y) xs ≡ true = subst (λ (z : Item). in_turn (left_by z) xs ≡ true) same (turn_tail s x xs k) in
    let tail = begins_sent (left_by y) xs ys rest (turn_tail s y ys m) (λ t i. elim (sub t (inr i)) [
      | inl e ↦ absurd (same_place y t e (one_place s y x t g f (behind s x xs k t i)))
      | inr l ↦ l
    ]) in
    (tail.0, ap₂ (λ (z : Item) l. z ∷ l) same tail.1)

-- ---- what clients send

-- what a client sends next fits
next_fits : (client : ℕ) (op : Op) (items : List Item) → fits (left_after fresh items) (next_item client op items) ≡ true
next_fits client op items =
    let s = left_after fresh items in
    and_from (session_wanted s == session_wanted s) (number_wanted s == number_wanted s) (eq-eqb (session_wanted s) (session_wanted s) refl) (eq-eqb (number_wanted s) (number_wanted s) refl)

-- each client's sent list is in turn
abbrev pub AllInTurn : World → Type 0
AllInTurn w = (client : ℕ) → in_turn fresh (w.sent client) ≡ true

happens_in_turn : (c : Setting) (w : World) (e : Event) → AllInTurn w → AllInTurn (happens c w e)
happens_in_turn c w (Sends k op) a client =
    cond_both (client == k) (w.sent k ++ next_item k op (w.sent k) ∷ []) (w.sent client) (λ l. in_turn fresh l ≡ true) (λ _. turn_push fresh (w.sent k) (next_item k op (w.sent k)) (a k) (next_fits k op (w.sent k))) (λ _. a client)
happens_in_turn c w (Comes p bytes) a client = a client
happens_in_turn c w (Fires p k) a client = a client
happens_in_turn c w (Asks p) a client = a client
happens_in_turn c w (Resends p) a client = a client
happens_in_turn c w (Restarts p cut) a client = a client

pub run_in_turn : (c : Setting) (w : World) (es : List Event) → AllInTurn w → AllInTurn (run c w es)
run_in_turn c w [] a = a
run_in_turn c w (e ∷ es) a = run_in_turn c (happens c w e) es (happens_in_turn c w e a)

pub in_of : (client : ℕ) (t : Item) (d : List Item) → t ∈ of client d → (t ∈ d) × (t.client ≡ client)
in_of client t [] i = absurd i
in_of client t (x ∷ d) i = cond_both (x.client == client) (x ∷ of client d) (of client d) (λ l. t ∈ l → (t ∈ (x ∷ d)) × (t.client ≡ client))
    (λ e. elim [ inl k ↦ (inl k, ap (λ (y : Item). y.client) k ∙ eqb-true _ _ e) | inr k ↦ (let f = in_of client t d k in (inr f.0, f.1)) ])
    (λ _ k. let f = in_of client t d k in (inr f.0, f.1)) i

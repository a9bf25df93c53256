-- Turns of several validators, one after the other.
use Rattle.std.proofs.Common.{◌≡◌, ℕ, zero, suc, ◌+◌, ◌<◌, ◌≤◌, Bool, true, false, Option, Some, None, List, [], ◌∷◌, ◌++◌, map, filter, length, take, get_or, cond, refl, sym, ap, ap₂, ◌∙◌, subst, append_assoc, append-nil, arith, lt-ltb}
use Rattle.std.specs.Prelude.{◌&&◌, not, slice_get, nat_lt, IfSome}
use Rattle.std.proofs.lemmas.List.{map-append, take_more, take_all}
use Rattle.std.proofs.lemmas.Bool.Decides.{nat_tests}
use Rattle.protocol.specs.Tags.{Setting}
use Rattle.protocol.specs.Messages.{Body}
use Rattle.protocol.specs.History.{Given}
use Rattle.world_schedule.specs.Cores.{frame_in}
use Rattle.world_schedule.specs.Reports.{Made, is_by, told, newly, said}
use Rattle.world_schedule.specs.Making.{Request, Hands, Scene, AreTurns, scene_next, scene_after}
use Rattle.world_schedule.specs.Standings.{Holds, sayer}
use Rattle.world_schedule.specs.Validators.{AreUp, HaveTurned}
use Rattle.world_schedule.specs.Events.{asked_of, is_wanting, passes}
use Rattle.world_schedule.specs.Worlds.{LeadOn, HaveMet, has_come}
use Rattle.world_schedule.specs.declared.brought.Brought.{Brought}
use Rattle.world_schedule.specs.declared.seat.Seat.{Seat}
use Rattle.world_schedule.specs.declared.chronicle.Chronicle.{Chronicle}
use Rattle.world_schedule.proofs.Saying.{no_body}
use Rattle.world_schedule.proofs.Turning.{scene_append, told_append}

-- ---- turns

pub turns_append : (c : Setting) (s : Scene) (k : ℕ) (rs qs : List (ℕ × Request)) (ms ns : List Made) → AreTurns c s k rs ms → AreTurns c (scene_after c s ms) k qs ns → AreTurns c s k (rs ++ qs) (ms ++ ns)
turns_append c s k [] qs ms ns e b = subst (λ x. AreTurns c s k qs (x ++ ns)) (sym e) (subst (λ x. AreTurns c (scene_after c s x) k qs ns) e b)
turns_append c s k (r ∷ rs) qs ms ns a b = (
  a.0,
  a.1 ++ ns,
  ap (λ l. l ++ ns) a.2 ∙ append_assoc a.0 a.1 ns,
  a.3,
  turns_append c (scene_after c s a.0) k rs qs a.1 ns a.4 (subst (λ t. AreTurns c t k qs ns) (ap (scene_after c s) a.2 ∙ scene_append c s a.0 a.1) b),
)

pub leads_none : (c : Setting) (s : Scene) (validators : List Seat) (chronicle : Chronicle) → AreUp c s validators → Holds c s.standing.numbered chronicle.messages → LeadOn c s [] validators validators chronicle chronicle
leads_none c s validators chronicle up holds = record { up = up; places_are = refl; holds = holds; told = sym (append-nil chronicle.told.items); event = refl }

pub leads_both : (c : Setting) (s : Scene) (xs ys : List Made) (old mid new : List Seat) (before between after : Chronicle) → LeadOn c s xs old mid before between → LeadOn c (scene_after c s xs) ys mid new between after → LeadOn c s (xs ++ ys) old new before after
leads_both c s xs ys old mid new before between after a b = record {
  up = subst (λ t. AreUp c t new) (sym (scene_append c s xs ys)) b.up;
  places_are = b.places_are ∙ a.places_are;
  holds = subst (λ (t : Scene). Holds c t.standing.numbered after.messages) (sym (scene_append c s xs ys)) b.holds;
  told = b.told ∙ ap (λ l. l ++ told c (scene_after c s xs).standing ys) a.told ∙ append_assoc before.told.items (told c s.standing xs) (told c (scene_after c s xs).standing ys) ∙ ap (λ l. before.told.items ++ l) (sym (told_append c s xs ys));
  event = b.event ∙ a.event;
}

pub met_none : (c : Setting) (s : Scene) (validators : List Seat) (chronicle : Chronicle) → AreUp c s validators → Holds c s.standing.numbered chronicle.messages → HaveMet c s [] validators validators chronicle chronicle
met_none c s validators chronicle up holds = record { made = []; turn = refl; leads = leads_none c s validators chronicle up holds }

pub turned_leads : (c : Setting) (s : Scene) (p : ℕ) (request : Request) (old new : List Seat) (before after : Chronicle) → (k : HaveTurned c s p request old new before after) → LeadOn c s k.made old new before after
turned_leads c s p request old new before after k = record { up = k.up; places_are = k.places_are; holds = k.holds; told = k.told; event = k.event }

pub met_one : (c : Setting) (s : Scene) (p : ℕ) (request : Request) (old new : List Seat) (before after : Chronicle) → HaveTurned c s p request old new before after → HaveMet c s (asked_of request p ∷ []) old new before after
met_one c s p request old new before after k = record { made = k.made; turn = (k.made, [], sym (append-nil k.made), k.turn, refl); leads = turned_leads c s p request old new before after k }

pub met_both : (c : Setting) (s : Scene) (rs qs : List (ℕ × Request)) (old mid new : List Seat) (before between after : Chronicle) → (a : HaveMet c s rs old mid before between) → HaveMet c (scene_after c s a.made) qs mid new between after → HaveMet c s (rs ++ qs) old new before after
met_both c s rs qs old mid new before between after a b = record {
  made = a.made ++ b.made;
  turn = turns_append c s before.event rs qs a.made b.made a.turn (subst (λ k. AreTurns c (scene_after c s a.made) k qs b.made) a.leads.event b.turn);
  leads = leads_both c s a.made b.made old mid new before between after a.leads b.leads;
}

-- one of a list more
pub met_more : (c : Setting) (s : Scene) (request : Request) (ps : List ℕ) (i : ℕ) (old mid new : List Seat) (before between after : Chronicle) → i < length ps
    → (a : HaveMet c s (map (asked_of request) (take i ps)) old mid before between) → HaveTurned c (scene_after c s a.made) (get_or ps i 0) request mid new between after → HaveMet c s (map (asked_of request) (take (i + 1) ps)) old new before after
met_more c s request ps i old mid new before between after l a b =
    subst (λ t. HaveMet c s t old new before after) (sym (ap (map (asked_of request)) (take_more ps i 0 l) ∙ map-append (asked_of request) (take i ps) (get_or ps i 0 ∷ [])))
    (met_both c s _ _ old mid new before between after a (met_one c (scene_after c s a.made) (get_or ps i 0) request mid new between after b))

pub met_all : (c : Setting) (s : Scene) (request : Request) (ps : List ℕ) (i : ℕ) (old new : List Seat) (before after : Chronicle) → length ps ≤ i → HaveMet c s (map (asked_of request) (take i ps)) old new before after → HaveMet c s (map (asked_of request) ps) old new before after
met_all c s request ps i old new before after l a = subst (λ t. HaveMet c s (map (asked_of request) t) old new before after) (take_all i ps l) a

-- ---- messages stay

-- the messages after some calls are those before and more
pub grows : (c : Setting) (s : Scene) (ms : List Made) → (more : List Body) × ((scene_after c s ms).standing.numbered ≡ s.standing.numbered ++ more)
grows c s [] = ([], sym (append-nil s.standing.numbered))
grows c s (m ∷ ms) =
    let k = grows c (scene_next c s m) ms in
    let first : List Body = newly s.standing.numbered (said c s.standing m.call) in (first ++ k.0, k.1 ∙ append_assoc s.standing.numbered first k.0)

pub get_front : {X : Type 0} (xs ys : List X) (i : ℕ) (x : X) → slice_get xs i ≡ Some x → slice_get (xs ++ ys) i ≡ Some x
get_front [] ys i x e = absurd (let f : None ≡ Some x = e in cc)
get_front (z ∷ zs) ys zero x e = e
get_front (z ∷ zs) ys (suc i) x e = get_front zs ys i x e

pub still_there : (c : Setting) (s : Scene) (ms : List Made) (i : ℕ) (b : Body) → slice_get s.standing.numbered i ≡ Some b → slice_get (scene_after c s ms).standing.numbered i ≡ Some b
still_there c s ms i b e = let k = grows c s ms in subst (λ l. slice_get l i ≡ Some b) (sym k.1) (get_front s.standing.numbered k.0 i b e)

-- the same place of two lists that are seen alike
pub at_same : {X Y Z : Type 0} (f : X → Z) (g : Y → Z) (xs : List X) (ys : List Y) (i : ℕ) (x : X) (y : Y) → map f xs ≡ map g ys → slice_get xs i ≡ Some x → slice_get ys i ≡ Some y → f x ≡ g y
at_same f g [] ys i x y e a b = absurd (let z : None ≡ Some x = a in cc)
at_same f g (u ∷ us) [] i x y e a b = absurd (let z : None ≡ Some y = b in cc)
at_same f g (u ∷ us) (v ∷ vs) zero x y e a b =
    let one : f u ≡ g v = cc in
    let left : u ≡ x = cc in
    let right : v ≡ y = cc in
    ap f (sym left) ∙ one ∙ ap g right
at_same f g (u ∷ us) (v ∷ vs) (suc i) x y e a b = let rest : map f us ≡ map g vs = cc in at_same f g us vs i x y rest a b

-- ---- passes

pub passes_append : (c : Setting) (came : ℕ → ℕ → Bool) (ps : List ℕ) (k : ℕ) (xs ys : List Body) → passes c came ps k (xs ++ ys) ≡ passes c came ps k xs ++ passes c came ps (k + length xs) ys
passes_append c came ps k [] ys = ap (λ n. passes c came ps n ys) (let e : k ≡ k + 0 = omega arith in e)
passes_append c came ps k (x ∷ xs) ys =
    let e : suc k + length xs ≡ k + suc (length xs) = omega arith in
    let front : List (ℕ × Request) = map (asked_of (Hands (Given (frame_in c x)))) (filter (is_wanting came k (sayer x)) ps) in
    ap (λ l. front ++ l) (passes_append c came ps (suc k) xs ys ∙ ap (λ n. passes c came ps (suc k) xs ++ passes c came ps n ys) e) ∙ sym (append_assoc front (passes c came ps (suc k) xs) (passes c came ps (k + suc (length xs)) ys))

and_no : (a b : Bool) → b ≡ true → (a && not b) ≡ false
and_no true true e = refl
and_no false true e = refl
and_no a false e = absurd (let f : false ≡ true = e in cc)

filter_none : (test : ℕ → Bool) (ps : List ℕ) → ((p : ℕ) → test p ≡ false) → filter test ps ≡ []
filter_none test [] none = refl
filter_none test (p ∷ ps) none = rw (none p) (filter_none test ps none)

-- no message that came to all is passed
pub passes_none : (c : Setting) (came : ℕ → ℕ → Bool) (ps : List ℕ) (k : ℕ) (bs : List Body) → ((n p : ℕ) → n < k + length bs → came n p ≡ true) → passes c came ps k bs ≡ []
passes_none c came ps k [] all = refl
passes_none c came ps k (b ∷ bs) all =
    let here : filter (is_wanting came k (sayer b)) ps ≡ [] = filter_none (is_wanting came k (sayer b)) ps (λ p. and_no (not (is_by p (sayer b))) (came k p) (all k p (omega arith))) in
    ap (λ l. map (asked_of (Hands (Given (frame_in c b)))) l ++ passes c came ps (suc k) bs) here ∙ passes_none c came ps (suc k) bs (λ n p l. all n p (omega (arith, l)))

filter_same : (f g : ℕ → Bool) (ps : List ℕ) → ((p : ℕ) → f p ≡ g p) → filter f ps ≡ filter g ps
filter_same f g [] e = refl
filter_same f g (p ∷ ps) e = ap₂ (λ t l. cond t (p ∷ l) l) (e p) (filter_same f g ps e)

-- what was brought is seen alike
pub passes_same : (c : Setting) (came brought : ℕ → ℕ → Bool) (ps : List ℕ) (k : ℕ) (bs : List Body) → ((n p : ℕ) → came n p ≡ brought n p) → passes c came ps k bs ≡ passes c brought ps k bs
passes_same c came brought ps k [] e = refl
passes_same c came brought ps k (b ∷ bs) e =
    ap₂ (λ l r. map (asked_of (Hands (Given (frame_in c b)))) l ++ r) (filter_same (is_wanting came k (sayer b)) (is_wanting brought k (sayer b)) ps (λ p. ap (λ t. not (is_by p (sayer b)) && not t) (e k p))) (passes_same c came brought ps (suc k) bs e)

pub length_take : {X : Type 0} (i : ℕ) (xs : List X) → i ≤ length xs → length (take i xs) ≡ i
length_take zero xs l = refl
length_take (suc i) [] l = absurd (omega (arith, l))
length_take (suc i) (x ∷ xs) l = ap suc (length_take i xs (omega (arith, l)))

-- one message more
pub passes_more : (c : Setting) (came : ℕ → ℕ → Bool) (ps : List ℕ) (bs : List Body) (i : ℕ) → i < length bs
    → passes c came ps 0 (take (i + 1) bs) ≡ passes c came ps 0 (take i bs) ++ map (asked_of (Hands (Given (frame_in c (get_or bs i no_body))))) (filter (is_wanting came i (sayer (get_or bs i no_body))) ps)
passes_more c came ps bs i l =
    let one : List (ℕ × Request) = map (asked_of (Hands (Given (frame_in c (get_or bs i no_body))))) (filter (is_wanting came i (sayer (get_or bs i no_body))) ps) in
    let size : 0 + length (take i bs) ≡ i = let e = length_take i bs (omega (arith, l)) in omega (arith, e) in
    ap (passes c came ps 0) (take_more bs i no_body l) ∙ passes_append c came ps 0 (take i bs) (get_or bs i no_body ∷ [])
    ∙ ap (λ n. passes c came ps 0 (take i bs) ++ passes c came ps n (get_or bs i no_body ∷ [])) size
    ∙ ap (λ m. passes c came ps 0 (take i bs) ++ m) (append-nil one)

pub at_some : {X : Type 0} (P : X → Type 0) (result : Option X) (x : X) → IfSome result P → result ≡ Some x → P x
at_some P None x i e = absurd (let f : None ≡ Some x = e in cc)
at_some P (Some y) x i e = let same : y ≡ x = cc in subst P same i

short_take : {X : Type 0} (i : ℕ) (xs : List X) → length (take i xs) ≤ i
short_take zero xs = omega arith
short_take (suc i) [] = omega arith
short_take (suc i) (x ∷ xs) = let e = short_take i xs in omega (arith, e)

-- those that were passed come to nobody again
pub passes_passed : (c : Setting) (b : Brought) (ps : List ℕ) (bs : List Body) → passes c (has_come b) ps 0 (take b.passed bs) ≡ []
passes_passed c b ps bs = passes_none c (has_come b) ps 0 (take b.passed bs) (λ n p l. let few = short_take b.passed bs in let below : n < b.passed = omega (arith, l, few) in rw (lt-ltb n b.passed below) refl)

-- a number that tests as less is less
pub less_of : (i n : ℕ) → nat_lt i n ≡ true → i < n
less_of i n e = grind (arith, nat_tests)

-- The correct validators, by their places.
use Rattle.std.proofs.Common.{◌≡◌, ℕ, zero, suc, ◌+◌, ◌<◌, ◌≤◌, ◌⊎◌, inl, inr, Bool, true, false, Option, Some, None, List, [], ◌∷◌, ◌++◌, map, filter, flat_map, length, take, get_or, cond, refl, sym, ap, ap₂, ◌∙◌, subst, append-nil, arith, add-one, length-append}
use Rattle.std.specs.Prelude.{◌&&◌, not, slice_get, slice_index_or, nat_lt, is_some, option_map, IfSome}
use Rattle.std.proofs.lemmas.Bool.{cases_eq, cases_Bool}
use Rattle.std.proofs.lemmas.Bool.Decides.{nat_tests}
use Rattle.std.proofs.lemmas.List.{map-append, take_more, take_all, length-map}
use Rattle.std.proofs.lemmas.List.Elements.{filter-append}
use Rattle.std.proofs.lemmas.Grind.{flat_map-append}
use Rattle.std.proofs.lemmas.Option.{slice_get-get_or, slice_get-map}
use Rattle.protocol.specs.Tags.{Setting}
use Rattle.protocol.specs.Messages.{below}
use Rattle.protocol.specs.State.{Node, State}
use Rattle.round_states.specs.Machine.{Machine}
use Rattle.node_core.specs.Core.{JournalSeen}
use Rattle.world_parties.specs.Cast.{Cast, setting_of, is_correct, correct}
use Rattle.world_schedule.specs.Calls.{node_after}
use Rattle.world_schedule.specs.Reports.{Made, calls_of, end_of}
use Rattle.world_schedule.specs.Making.{Scene, beginning, scene_after}
use Rattle.world_schedule.specs.Health.{Health, Serving, Broken, Closed, has_node, HasHealth}
use Rattle.world_schedule.specs.Validators.{IsUp, IsStopped, IsSeated, AreUp, is_correct_seat, places}
use Rattle.world_schedule.specs.Worlds.{end_in, end_of_stopped, ends_in, machine_of, machine_in, machine_at}
use Rattle.world_schedule.specs.declared.restarting.Stopped.{Stopped}
use Rattle.world_schedule.specs.declared.validator.Validator.{Validator}
use Rattle.world_schedule.specs.declared.seat.Seat.{Seat}
use Rattle.world_schedule.specs.declared.seat.Seat.TheVariants as seats
use Rattle.world_schedule.specs.declared.report.End.{End}
use Rattle.world_schedule.proofs.Ends.{scene_nodes}
use Rattle.world_schedule.proofs.InTurn.{get_front, less_of}

-- ---- numbers

pub below_none : below 0 ≡ []
unfolding below
below_none = refl

pub below_more : (n : ℕ) → below (n + 1) ≡ below n ++ n ∷ []
unfolding below
below_more n = rw add-one refl

pub no_filtered : (test : ℕ → Bool) → filter test (below 0) ≡ []
no_filtered test = ap (filter test) below_none

pub filter_below : (test : ℕ → Bool) (n : ℕ) → filter test (below (n + 1)) ≡ filter test (below n) ++ cond (test n) (n ∷ []) []
filter_below test n = ap (filter test) (below_more n) ∙ filter-append test (below n) (n ∷ [])

-- ---- one validator more

pub places_pushed : (vs : List Seat) (v : Seat) (test : ℕ → Bool) (n : ℕ) → places vs ≡ map test (below n) → is_correct_seat v ≡ test n → places (vs ++ v ∷ []) ≡ map test (below (n + 1))
places_pushed vs v test n e one = map-append is_correct_seat vs (v ∷ []) ∙ ap₂ (λ l b. l ++ b ∷ []) e one ∙ sym (ap (map test) (below_more n) ∙ map-append test (below n) (n ∷ []))

length_below : (n : ℕ) → length (below n) ≡ n
unfolding below
length_below zero = refl
length_below (suc n) = length-append (below n) (n ∷ []) ∙ let e = length_below n in omega (arith, e)

pub count_of : (vs : List Seat) (test : ℕ → Bool) (n : ℕ) → places vs ≡ map test (below n) → length vs ≡ n
count_of vs test n e = sym (length-map vs is_correct_seat) ∙ ap (λ (l : List Bool). length l) e ∙ length-map (below n) test ∙ length_below n

get_pushed : {X : Type 0} (xs : List X) (x y : X) (i : ℕ) → slice_get (xs ++ x ∷ []) i ≡ Some y → (slice_get xs i ≡ Some y) ⊎ ((i ≡ length xs) × (x ≡ y))
get_pushed [] x y zero e = inr (refl, (let same : x ≡ y = cc in same))
get_pushed [] x y (suc i) e = absurd (let f : None ≡ Some y = e in cc)
get_pushed (z ∷ zs) x y zero e = inl e
get_pushed (z ∷ zs) x y (suc i) e = elim (get_pushed zs x y i e) [ inl k ↦ inl k | inr k ↦ inr (ap suc k.0, k.1) ]

pub up_none : (c : Setting) (s : Scene) (vs : List Seat) → vs ≡ [] → AreUp c s vs
up_none c s vs e i seat at = absurd (let f : None ≡ Some seat = ap (λ l. slice_get l i) (sym e) ∙ at in cc)

pub up_pushed : (c : Setting) (s : Scene) (vs : List Seat) (place : Seat) → AreUp c s vs → IsSeated c s (length vs) place → AreUp c s (vs ++ place ∷ [])
up_pushed c s vs place up one i seat at = elim (get_pushed vs place seat i at) [ inl k ↦ up i seat k | inr k ↦ subst (IsSeated c s i) k.1 (subst (λ j. IsSeated c s j place) (sym k.0) one) ]

-- ---- how validators end

get_last : {X : Type 0} (xs : List X) (x : X) → slice_get (xs ++ x ∷ []) (length xs) ≡ Some x
get_last [] x = refl
get_last (y ∷ ys) x = get_last ys x

below_get : (n i : ℕ) → i < n → slice_get (below n) i ≡ Some i
unfolding below
below_get zero i l = absurd (omega (arith, l))
below_get (suc n) i l = elim (cases_eq i n) [
  | inl e ↦ subst (λ k. slice_get (below n ++ n ∷ []) k ≡ Some i) (length_below n ∙ sym e) (get_last (below n) n ∙ ap Some (sym e))
  | inr e ↦ get_front (below n) (n ∷ []) i i (below_get n i (omega (arith, l, e)))
]

test_at : (vs : List Seat) (test : ℕ → Bool) (i : ℕ) → i < length vs → places vs ≡ map test (below (length vs)) → is_correct_seat (get_or vs i seats.Liar) ≡ test i
test_at vs test i l e =
    let left : slice_get (places vs) i ≡ Some (is_correct_seat (get_or vs i seats.Liar)) = slice_get-map is_correct_seat vs i ∙ ap (option_map is_correct_seat) (slice_get-get_or vs i seats.Liar l) in
    let right : slice_get (map test (below (length vs))) i ≡ Some (test i) = slice_get-map test (below (length vs)) i ∙ ap (option_map test) (below_get (length vs) i l) in
    let both : Some (is_correct_seat (get_or vs i seats.Liar)) ≡ Some (test i) = sym left ∙ ap (λ xs. slice_get xs i) e ∙ right in
    cc

-- the end of validator p with this node
abbrev pub end_at : (ℕ → Node) → ℕ → End
end_at nodes p = record { validator = p; height = (nodes p).state.height; round = (nodes p).state.round; delivered = (nodes p).state.delivered }

end_up : (c : Setting) (s : Scene) (v : Validator) → IsUp c s v → end_in v ≡ end_at s.standing.nodes v.number
end_up c s v up = ap (λ (x : State). let e : End = record { validator = v.number; height = x.height; round = x.round; delivered = x.delivered } in e) up.stands.stands.state

end_closed : (c : Setting) (s : Scene) (v : Stopped) → IsStopped c s v → end_of_stopped v ≡ end_at s.standing.nodes v.number
end_closed c s v k = λ i. record { validator = v.number; height = k.height i; round = k.round i; delivered = k.delivered i }

one_end : (c : Setting) (s : Scene) (place : Seat) (test : ℕ → Bool) (i : ℕ) → IsSeated c s i place → is_correct_seat place ≡ test i → ends_in place ≡ map (end_at s.standing.nodes) (cond (test i) (i ∷ []) [])
one_end c s seats.Liar test i up e = rw (← e) refl
one_end c s (seats.Closed v) test i k e = ap (λ x. x ∷ []) (end_closed c s v k.1.stopped ∙ ap (end_at s.standing.nodes) k.0) ∙ ap (λ b. map (end_at s.standing.nodes) (cond b (i ∷ []) [])) e
one_end c s (seats.Up v) test i k e = ap (λ x. x ∷ []) (end_up c s v k.1 ∙ ap (end_at s.standing.nodes) k.0) ∙ ap (λ b. map (end_at s.standing.nodes) (cond b (i ∷ []) [])) e

ends_upto : (c : Setting) (s : Scene) (vs : List Seat) (test : ℕ → Bool) (n : ℕ) → AreUp c s vs → n ≤ length vs → places vs ≡ map test (below (length vs)) → flat_map ends_in (take n vs) ≡ map (end_at s.standing.nodes) (filter test (below n))
ends_upto c s vs test zero up l e = sym (ap (map (end_at s.standing.nodes)) (no_filtered test))
ends_upto c s vs test (suc n) up l e =
    let within : n < length vs = omega (arith, l) in
    let more : suc n ≡ n + 1 = omega arith in
    let place : Seat = get_or vs n seats.Liar in
    let here : ends_in place ≡ map (end_at s.standing.nodes) (cond (test n) (n ∷ []) []) = one_end c s place test n (up n place (slice_get-get_or vs n seats.Liar within)) (test_at vs test n within e) in
    ap (λ k. flat_map ends_in (take k vs)) more ∙ ap (flat_map ends_in) (take_more vs n seats.Liar within) ∙ flat_map-append ends_in (take n vs) (place ∷ []) ∙ ap₂ (λ x y. x ++ y) (ends_upto c s vs test n up (omega (arith, l)) e) (append-nil (ends_in place) ∙ here)
    ∙ sym (ap (λ k. map (end_at s.standing.nodes) (filter test (below k))) more ∙ ap (map (end_at s.standing.nodes)) (filter_below test n) ∙ map-append (end_at s.standing.nodes) (filter test (below n)) (cond (test n) (n ∷ []) []))

map_same : {X Y : Type 0} (f g : X → Y) (xs : List X) → ((x : X) → f x ≡ g x) → map f xs ≡ map g xs
map_same f g [] e = refl
map_same f g (x ∷ xs) e = ap₂ (λ y ys. y ∷ ys) (e x) (map_same f g xs e)

pub ends_are : (cast : Cast) (ms : List Made) (vs : List Seat) → AreUp (setting_of cast) (scene_after (setting_of cast) beginning ms) vs → places vs ≡ map (is_correct cast) (below (length cast.powers))
    → flat_map ends_in vs ≡ map (end_of (setting_of cast) (calls_of ms)) (correct cast)
ends_are cast ms vs up e =
    let size : length vs ≡ length cast.powers = count_of vs (is_correct cast) (length cast.powers) e in
    let s : Scene = scene_after (setting_of cast) beginning ms in
    let all : flat_map ends_in (take (length vs) vs) ≡ map (end_at s.standing.nodes) (filter (is_correct cast) (below (length vs))) = ends_upto (setting_of cast) s vs (is_correct cast) (length vs) up (omega arith) (e ∙ ap (λ n. map (is_correct cast) (below n)) (sym size)) in
    ap (flat_map ends_in) (sym (take_all (length vs) vs (omega arith))) ∙ all ∙ ap (λ n. map (end_at s.standing.nodes) (filter (is_correct cast) (below n))) size
    ∙ map_same (end_at s.standing.nodes) (end_of (setting_of cast) (calls_of ms)) (correct cast) (λ p. ap (λ (n : Node). let x : End = record { validator = p; height = n.state.height; round = n.state.round; delivered = n.state.delivered } in x) (scene_nodes (setting_of cast) beginning ms p))

-- ---- how validators stand

-- in the run of the calls
pub state_in : (cast : Cast) (ms : List Made) (vs : List Seat) (p : ℕ) (seat : Option Seat) (m : Machine) → AreUp (setting_of cast) (scene_after (setting_of cast) beginning ms) vs → slice_get vs p ≡ seat → machine_in seat ≡ Some m → m.state ≡ (node_after (setting_of cast) p (calls_of ms)).state
state_in cast ms vs p None m up at is = absurd (let f : None ≡ Some m = is in cc)
state_in cast ms vs p (Some seats.Liar) m up at is = absurd (let f : None ≡ Some m = is in cc)
state_in cast ms vs p (Some (seats.Closed stopped)) m up at is = absurd (let f : None ≡ Some m = is in cc)
state_in cast ms vs p (Some (seats.Up v)) m up at is =
    let k = up p (seats.Up v) at in
    let same : v.core.machine ≡ m = (let f : Some v.core.machine ≡ Some m = is in cc) in
    ap (λ (x : Machine). x.state) (sym same) ∙ k.1.stands.stands.state ∙ ap (λ q. ((scene_after (setting_of cast) beginning ms).standing.nodes q).state) k.0 ∙ ap (λ (n : Node). n.state) (scene_nodes (setting_of cast) beginning ms p)

healthy : (c : Setting) (p : ℕ) (n : Node) (h : Health) (journal : JournalSeen) → HasHealth c p n h journal → has_node h ≡ true
healthy c p n Serving journal k = refl
healthy c p n (Broken cut) journal k = refl
healthy c p n (Closed cut) journal k = absurd k

-- the place of a correct validator has a node, but where the last opening failed
node_machine : (c : Setting) (s : Scene) (i : ℕ) (seat : Seat) → IsSeated c s i seat → is_some (machine_of seat) ≡ (is_correct_seat seat && has_node (s.health i))
node_machine c s i seats.Liar k = refl
node_machine c s i (seats.Up v) k = sym (ap (λ j. has_node (s.health j)) (sym k.0) ∙ healthy c v.number (s.standing.nodes v.number) (s.health v.number) v.core.journal k.1.health)
node_machine c s i (seats.Closed v) k = sym (ap (λ j. has_node (s.health j)) (sym k.0) ∙ ap has_node k.1.health)

none_beyond : {X : Type 0} (xs : List X) (i : ℕ) → length xs ≤ i → slice_get xs i ≡ None
none_beyond [] i l = refl
none_beyond (x ∷ xs) zero l = absurd (omega (arith, l))
none_beyond (x ∷ xs) (suc i) l = none_beyond xs i (omega (arith, l))

not_less : (i n : ℕ) → nat_lt i n ≡ false → n ≤ i
not_less i n e = grind (arith, nat_tests)

pub known_in : (cast : Cast) (s : Scene) (vs : List Seat) (p : ℕ) → AreUp (setting_of cast) s vs → places vs ≡ map (is_correct cast) (below (length cast.powers)) → is_some (machine_at p vs) ≡ (is_correct cast p && has_node (s.health p))
known_in cast s vs p up e =
    let size : length vs ≡ length cast.powers = count_of vs (is_correct cast) (length cast.powers) e in
    elim (cases_Bool (nat_lt p (length cast.powers))) [
      | inl within ↦ (
          let l : p < length vs = let k = less_of p (length cast.powers) within in omega (arith, k, size) in
          ap (λ o. is_some (machine_in o)) (slice_get-get_or vs p seats.Liar l) ∙ node_machine (setting_of cast) s p (get_or vs p seats.Liar) (up p (get_or vs p seats.Liar) (slice_get-get_or vs p seats.Liar l)) ∙ ap (λ b. b && has_node (s.health p)) (test_at vs (is_correct cast) p l (e ∙ ap (λ n. map (is_correct cast) (below n)) (sym size))))
      | inr beyond ↦ (
          let l : length vs ≤ p = let k = not_less p (length cast.powers) beyond in omega (arith, k, size) in
          ap (λ o. is_some (machine_in o)) (none_beyond vs p l) ∙ sym (ap (λ b. (b && not (slice_index_or cast.lies p false)) && has_node (s.health p)) beyond))
    ]

-- what is seen of an option is there, where the option is
pub seen_some : {X Y : Type 0} (f : X → Y) (P : X → Type 0) (o : Option X) (seen : Option Y) → option_map f o ≡ seen → ((x : X) → seen ≡ Some (f x) → P x) → IfSome o P
seen_some f P None seen e g = tt
seen_some f P (Some x) seen e g = g x (sym e)

pub seen_is : {X Y : Type 0} (f : X → Y) (o : Option X) (seen : Option Y) → option_map f o ≡ seen → is_some o ≡ is_some seen
seen_is f None seen e = ap is_some e
seen_is f (Some x) seen e = ap is_some e

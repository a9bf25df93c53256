-- What calls do to a node, release and schedule, by the order of firing, is what their events do in a run.
use Rattle.std.proofs.Common.{◌≡◌, ℕ, zero, suc, ◌<◌, Bool, true, cond, not, ◌&&◌, List, [], ◌∷◌, ◌++◌, map, reverse, refl, sym, ◌∙◌, ap, subst, arith, Option, Some, None, option_map, eq-eqb, ne_eqb, append_assoc, append-nil, option_to_list}
use Rattle.std.specs.Prelude.{unwrap_or}
use Rattle.std.proofs.lemmas.List.{reverse-append}
use Rattle.std.proofs.lemmas.Bool.{and_from}
use Rattle.protocol.specs.Tags.{Setting}
use Rattle.protocol.specs.Messages.{Body}
use Rattle.protocol.specs.State.{Node, Rule, Timeout, Start, PrevoteFresh, PrevoteAgain, AwaitPrevotes, Lock, PrecommitNil, AwaitPrecommits, Decide, DecideByBundle, SkipRound, TimedOut}
use Rattle.protocol.specs.Rules.{holds, saved, released_by}
use Rattle.protocol.specs.Queues.{pick}
use Rattle.protocol.specs.Refusals.{context}
use Rattle.protocol.specs.Arrivals.{Outcome, arrival, firing, nothing}
use Rattle.protocol.specs.World.{World, Event, Comes, Fires, happens, run, is_bundles, tried}
use Rattle.protocol.specs.Order.{enabled, row}
use Rattle.protocol.specs.History.{firsts, Input, Settle, Given, Due, taken, after, replay}
use Rattle.protocol.specs.Effects.{bodies_of, timeouts_of, bodies_taken, timeouts_taken, timeouts_after, along}
use Rattle.protocol.specs.Laws.{events_of, call_events, scheduled_by, schedule_of, history_events, Leaves, HistoryLaw, ReplayLaw}
use Rattle.protocol.proofs.Growth.{run_append}
use Rattle.protocol.proofs.Order.{enabled_named}

-- a rule that needs no bundle isn't a bundle's
not_bundles : (k : Rule) → row k < 9 → not (is_bundles k) ≡ true
not_bundles Start i = refl
not_bundles (PrevoteFresh v) i = refl
not_bundles (PrevoteAgain r v) i = refl
not_bundles AwaitPrevotes i = refl
not_bundles (Lock v) i = refl
not_bundles PrecommitNil i = refl
not_bundles AwaitPrecommits i = refl
not_bundles (Decide r v) i = refl
not_bundles (DecideByBundle b) i = absurd (omega arith)
not_bundles (SkipRound r) i = refl
not_bundles (TimedOut t) i = refl

schedule_append : (c : Setting) (w : World) (es fs : List Event) → schedule_of c w (es ++ fs) ≡ schedule_of c w es ++ schedule_of c (run c w es) fs
schedule_append c w [] fs = refl
schedule_append c w (e ∷ es) fs = ap (λ l. scheduled_by c w e ++ l) (schedule_append c (happens c w e) es fs) ∙ sym (append_assoc (scheduled_by c w e) (schedule_of c (happens c w e) es) (schedule_of c (run c (happens c w e) es) fs))

-- events, and then others
leaves_more : (c : Setting) (w : World) (p : ℕ) (es fs : List Event) (n m : Node) (before later : List Body) (ts us : List Timeout) → Leaves c w p es n before ts → Leaves c (run c w es) p fs m later us → Leaves c w p (es ++ fs) m (later ++ before) (ts ++ us)
leaves_more c w p es fs n m before later ts us a b = record {
  node = ap (λ (v : World). v.nodes p) (run_append c w es fs) ∙ b.node;
  others = λ q ne. ap (λ (v : World). v.nodes q) (run_append c w es fs) ∙ b.others q ne ∙ a.others q ne;
  sent = ap (λ (v : World). v.sent) (run_append c w es fs) ∙ b.sent ∙ a.sent;
  released_are = ap (λ (v : World). v.released) (run_append c w es fs) ∙ b.released_are ∙ ap (λ l. later ++ l) a.released_are ∙ sym (append_assoc later before w.released);
  scheduled_are = schedule_append c w es fs ∙ ap (λ l. l ++ schedule_of c (run c w es) fs) a.scheduled_are ∙ ap (λ l. ts ++ l) b.scheduled_are;
}

leaves_none : (c : Setting) (w : World) (p : ℕ) → Leaves c w p [] (w.nodes p) [] []
leaves_none c w p = record { node = refl; others = λ q ne. refl; sent = refl; released_are = refl; scheduled_are = refl }

-- ---- one event

comes_leaves : (c : Setting) (w : World) (p : ℕ) (bytes : List ℕ) → Leaves c w p (Comes p bytes ∷ []) (arrival c p (w.nodes p) bytes).node (arrival c p (w.nodes p) bytes).out []
comes_leaves c w p bytes = record { node = rw (eq-eqb p p refl) refl; others = λ q ne. rw (ne_eqb q p ne) refl; sent = refl; released_are = refl; scheduled_are = refl }

-- what a rule that is tried schedules, where this says whether it fires
abbrev timeouts_if : Setting → ℕ → Node → Rule → Bool → List Timeout
timeouts_if c p n k b = cond b (timeouts_of c p n k) []

tried_leaves : (c : Setting) (w : World) (p : ℕ) (k : Rule) → Leaves c w p (Fires p k ∷ []) (tried c p (w.nodes p) k).node (tried c p (w.nodes p) k).out (timeouts_if c p (w.nodes p) k (not (is_bundles k) && holds (context c p) (w.nodes p).state k))
tried_leaves c w p k = record { node = rw (eq-eqb p p refl) refl; others = λ q ne. rw (ne_eqb q p ne) refl; sent = refl; released_are = refl; scheduled_are = append-nil _ }

fires_leaves : (c : Setting) (w : World) (p : ℕ) (k : Rule) → not (is_bundles k) && holds (context c p) (w.nodes p).state k ≡ true → Leaves c w p (Fires p k ∷ []) (firing c p (w.nodes p) k).node (bodies_of c p (w.nodes p) k) (timeouts_of c p (w.nodes p) k)
fires_leaves c w p k e =
    let n : Node = w.nodes p in
    let outcome : Bool → Outcome = λ b. cond b (firing c p n k) (nothing n) in
    subst (λ b. Leaves c w p (Fires p k ∷ []) (outcome b).node (outcome b).out (timeouts_if c p n k b)) e (tried_leaves c w p k)

-- ---- firings of the first enabled rules

abbrev rule_of : Node → Rule → List Rule
rule_of m k = k ∷ []

-- what so many of them leave, from a node
abbrev LeavesAlong : Setting → World → ℕ → ℕ → Node → Type 0
LeavesAlong c w p times n = Leaves c w p (map (Fires p) (along rule_of c p times n)) (firsts c p times n) (reverse (along (bodies_of c p) c p times n)) (along (timeouts_of c p) c p times n)

-- a firing releases one body at most
reverse_one : (o : Option Body) → reverse (option_to_list o) ≡ option_to_list o
reverse_one None = refl
reverse_one (Some b) = refl

reverse_out : (c : Setting) (p : ℕ) (n : Node) (k : Rule) (later : List Body) → reverse later ++ bodies_of c p n k ≡ reverse (bodies_of c p n k ++ later)
reverse_out c p n k later = ap (λ l. reverse later ++ l) (sym (reverse_one (released_by p (saved (context c p) (pick n.queues) n.state k)))) ∙ sym (reverse-append (bodies_of c p n k) later)

-- what a rule gives, and the node after it, where the order names one
abbrev pub by_rule : {X : Type 0} → (Node → Rule → List X) → Node → Option Rule → List X
by_rule give n named = unwrap_or (option_map (give n) named) []

abbrev first_by : Setting → ℕ → Node → Option Rule → Node
first_by c p n named = unwrap_or (option_map (λ k. (firing c p n k).node) named) n

-- one more first, where the order names this rule or none
one_more : (c : Setting) (w : World) (p times : ℕ) → ((v : World) → LeavesAlong c v p times (v.nodes p)) → (o : Option Rule) → enabled c.powers (w.nodes p).state ≡ o
    → Leaves c w p (map (Fires p) (by_rule rule_of (w.nodes p) o ++ along rule_of c p times (first_by c p (w.nodes p) o))) (firsts c p times (first_by c p (w.nodes p) o))
    (reverse (by_rule (bodies_of c p) (w.nodes p) o ++ along (bodies_of c p) c p times (first_by c p (w.nodes p) o))) (by_rule (timeouts_of c p) (w.nodes p) o ++ along (timeouts_of c p) c p times (first_by c p (w.nodes p) o))
one_more c w p times rest None e = rest w
one_more c w p times rest (Some k) e =
    let n : Node = w.nodes p in
    let m : Node = (firing c p n k).node in
    let named = enabled_named (context c p) n.state k e in
    let one = fires_leaves c w p k (and_from _ _ (not_bundles k named.1) named.0) in
    let v : World = happens c w (Fires p k) in
    let later : LeavesAlong c v p times m = subst (LeavesAlong c v p times) one.node (rest v) in
    let both = leaves_more c w p (Fires p k ∷ []) (map (Fires p) (along rule_of c p times m)) m (firsts c p times m) (bodies_of c p n k) (reverse (along (bodies_of c p) c p times m)) (timeouts_of c p n k) (along (timeouts_of c p) c p times m) one later in
    subst (λ bodies. Leaves c w p (map (Fires p) (k ∷ along rule_of c p times m)) (firsts c p times m) bodies (timeouts_of c p n k ++ along (timeouts_of c p) c p times m)) (reverse_out c p n k (along (bodies_of c p) c p times m)) both

firsts_leave : (c : Setting) (p times : ℕ) (w : World) → LeavesAlong c w p times (w.nodes p)
firsts_leave c p zero w = leaves_none c w p
firsts_leave c p (suc times) w = one_more c w p times (firsts_leave c p times) (enabled c.powers (w.nodes p).state) refl

-- ---- a call

taken_leaves : (c : Setting) (w : World) (p : ℕ) (input : Input) → Leaves c w p (events_of p input) (taken c p (w.nodes p) input) (bodies_taken c p (w.nodes p) input) (timeouts_taken c p (w.nodes p) input)
taken_leaves c w p Settle = leaves_none c w p
taken_leaves c w p (Given bytes) = comes_leaves c w p bytes
taken_leaves c w p (Due t) = tried_leaves c w p (TimedOut t)

-- what a call leaves, from a node
abbrev LeavesCall : Setting → World → ℕ → Input → ℕ → Node → Type 0
LeavesCall c w p input times n = Leaves c w p (call_events c p n input times) (after c p n input times) (reverse (along (bodies_of c p) c p times (taken c p n input)) ++ bodies_taken c p n input) (timeouts_after c p n input times)

pub history_law : HistoryLaw
history_law c w p input times =
    let n : Node = taken c p (w.nodes p) input in
    let now = taken_leaves c w p input in
    let later : LeavesAlong c (run c w (events_of p input)) p times n = subst (LeavesAlong c (run c w (events_of p input)) p times) now.node (firsts_leave c p times (run c w (events_of p input))) in
    leaves_more c w p (events_of p input) (map (Fires p) (along rule_of c p times n)) n (firsts c p times n) (bodies_taken c p (w.nodes p) input) (reverse (along (bodies_of c p) c p times n)) (timeouts_taken c p (w.nodes p) input) (along (timeouts_of c p) c p times n) now later

pub replay_law : ReplayLaw
replay_law c w p [] = (refl, λ q ne. refl, refl)
replay_law c w p (e ∷ earlier) =
    let before = replay_law c w p earlier in
    let events = history_events c p (w.nodes p) earlier in
    let n : Node = replay c p (w.nodes p) earlier in
    let call = call_events c p n e.0 e.1 in
    let middle : World = run c w events in
    let now : LeavesCall c middle p e.0 e.1 n = subst (LeavesCall c middle p e.0 e.1) before.0 (history_law c middle p e.0 e.1) in
    let whole = run_append c w events call in (
      ap (λ (v : World). v.nodes p) whole ∙ now.node,
      λ q ne. ap (λ (v : World). v.nodes q) whole ∙ now.others q ne ∙ before.1 q ne,
      ap (λ (v : World). v.sent) whole ∙ now.sent ∙ before.2,
    )

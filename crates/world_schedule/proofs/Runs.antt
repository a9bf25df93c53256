-- Calls leave what their events leave.
use Rattle.std.proofs.Common.{◌≡◌, ℕ, ◌⊎◌, inl, inr, true, false, cond, List, [], ◌∷◌, ◌++◌, refl, sym, ◌∙◌, ap, ap₂, subst, subst₂, eqb-true, eq-eqb, append_assoc, reverse, ◌↔◌}
use Rattle.std.specs.Prelude.{◌==◌}
use Rattle.std.proofs.Math.Path.{fun_ext}
use Rattle.std.proofs.lemmas.Bool.{cases_Bool}
use Rattle.std.proofs.lemmas.List.{reverse-append, reverse-reverse}
use Rattle.protocol.specs.Values.{Op, Item, of, fresh, in_turn}
use Rattle.protocol.specs.Tags.{Setting}
use Rattle.protocol.specs.Messages.{◌∈◌, Body, OfAsk}
use Rattle.protocol.specs.State.{Node}
use Rattle.protocol.specs.declared.types.Timeout.{Timeout}
use Rattle.protocol.specs.Restart.{opened, own_since}
use Rattle.protocol.specs.World.{World, Event, cut_record, beginning, happens, run, sending, delivered}
use Rattle.protocol.specs.History.{Input, taken, after}
use Rattle.protocol.specs.Effects.{along, bodies_of, bodies_taken}
use Rattle.protocol.specs.Laws.{Leaves, Comparable, call_events, scheduled_by, schedule_of}
use Rattle.protocol.specs.Premises.{Unforged, Distinct, Begins}
use Rattle.protocol.proofs.Membership.{in_append, in_left, in_right}
use Rattle.protocol.proofs.Growth.{run_append}
use Rattle.protocol.proofs.Replays.{history_law}
use Rattle.protocol.proofs.Local.{lock_law}
use Rattle.protocol.proofs.Agreement.{lasts_law}
use Rattle.protocol.proofs.Headline.{begins_law as theorem}
use Rattle.world_schedule.specs.Calls.{Call, Sent, Began, Handed, Asked, Resent, Reopened, moved, all_moved, adding, events_by, bodies_by, lived, sent_by, events, bodies, timeouts, unopened, node_after, run_of, sent}
use Rattle.world_schedule.specs.Runs.{IsMade, MadeLaw, RunLaw, delivered_after, PastLaw, DeliveredLaw}

-- ---- what is released

abbrev Holds : Body → List Body → List Body → List Body → Type 0
Holds b all more before = (b ∈ all) ↔ ((b ∈ more) ⊎ (b ∈ before))

-- the list is joined of the two
holds_joined : (b : Body) (all more before : List Body) → all ≡ more ++ before → Holds b all more before
holds_joined b all more before e = (
  λ i. in_append b more before (subst (λ l. b ∈ l) e i),
  λ i. subst (λ l. b ∈ l) (sym e) (elim i [ inl k ↦ in_left b more before k | inr k ↦ in_right b more before k ]),
)

in_reverse : {X : Type 0} (x : X) (xs : List X) → x ∈ xs → x ∈ reverse xs
in_reverse x [] i = absurd i
in_reverse x (y ∷ ys) (inl e) = subst (λ l. x ∈ l) (sym (reverse-append (y ∷ []) ys)) (in_right x (reverse ys) (y ∷ []) (inl e))
in_reverse x (y ∷ ys) (inr i) = subst (λ l. x ∈ l) (sym (reverse-append (y ∷ []) ys)) (in_left x (reverse ys) (y ∷ []) (in_reverse x ys i))

out_of_reverse : {X : Type 0} (x : X) (xs : List X) → x ∈ reverse xs → x ∈ xs
out_of_reverse x xs i = subst (λ l. x ∈ l) (reverse-reverse xs) (in_reverse x (reverse xs) i)

-- of two parts the later one stands first, the newest of it at its head
pub holds_turned : (b : Body) (all later now before : List Body) → all ≡ (reverse later ++ now) ++ before → Holds b all (now ++ later) before
holds_turned b all later now before e =
    let k = holds_joined b all (reverse later ++ now) before e in (
      λ i. elim (k.0 i) [ inl m ↦ inl (turned b later now m) | inr m ↦ inr m ],
      λ i. k.1 (elim i [ inl m ↦ inl (back b later now m) | inr m ↦ inr m ]),
    )
  where
    turned : (b : Body) (later now : List Body) → b ∈ (reverse later ++ now) → b ∈ (now ++ later)
    turned b later now m = elim (in_append b (reverse later) now m) [ inl j ↦ in_right b now later (out_of_reverse b later j) | inr j ↦ in_left b now later j ]

    back : (b : Body) (later now : List Body) → b ∈ (now ++ later) → b ∈ (reverse later ++ now)
    back b later now m = elim (in_append b now later m) [ inl j ↦ in_right b (reverse later) now j | inr j ↦ in_left b (reverse later) now (in_reverse b later j) ]

-- more, and then yet more
holds_more : (b : Body) (all later middle now before : List Body) → Holds b all later middle → Holds b middle now before → Holds b all (now ++ later) before
holds_more b all later middle now before k m = (
  λ i. elim (k.0 i) [ inl j ↦ inl (in_right b now later j) | inr j ↦ (elim (m.0 j) [ inl l ↦ inl (in_left b now later l) | inr l ↦ inr l ]) ],
  λ i. elim i [
    | inl j ↦ (elim (in_append b now later j) [ inl l ↦ k.1 (inr (m.1 (inl l))) | inr l ↦ k.1 (inl l) ])
    | inr j ↦ k.1 (inr (m.1 (inr j)))
  ],
)

-- ---- one call

-- validator p's node, or another's
at_own : (p q : ℕ) (n : Node) (nodes : ℕ → Node) (next : ℕ → Node) → next q ≡ n → cond (p == q) n (nodes p) ≡ cond (p == q) (next p) (nodes p)
at_own p q n nodes next e = elim (cases_Bool (p == q)) [
  | inl t ↦ (let same : p ≡ q = eqb-true p q t in rw t (sym e ∙ ap next (sym same)))
  | inr t ↦ rw t refl
]

leaves_nodes : (c : Setting) (w : World) (q : ℕ) (es : List Event) (n : Node) (bodies : List Body) (ts : List Timeout) → Leaves c w q es n bodies ts → (p : ℕ) → (run c w es).nodes p ≡ cond (p == q) n (w.nodes p)
leaves_nodes c w q es n bodies ts l p = elim (cases_Bool (p == q)) [
  | inl t ↦ (let same : p ≡ q = eqb-true p q t in rw t (ap (run c w es).nodes same ∙ l.node))
  | inr t ↦ rw t (l.others p (λ same. let u : p == q ≡ true = eq-eqb p q same in let v : true ≡ false = sym u ∙ t in absurd (cc)))
]

handed_made : (c : Setting) (w : World) (q : ℕ) (input : Input) (times : ℕ) → IsMade c w (Handed q input times)
handed_made c w q input times =
    let l = history_law c w q input times in record {
      nodes = λ p. leaves_nodes c w q (call_events c q (w.nodes q) input times) (after c q (w.nodes q) input times) _ _ l p ∙ at_own p q (after c q (w.nodes q) input times) w.nodes (λ r. after c r (w.nodes r) input times) refl;
      sent = λ client. ap (λ (f : ℕ → List Item). f client) l.sent;
      released = λ b. holds_turned b (run c w (call_events c q (w.nodes q) input times)).released (along (bodies_of c q) c q times (taken c q (w.nodes q) input)) (bodies_taken c q (w.nodes q) input) w.released l.released_are;
      scheduled = l.scheduled_are;
    }

-- a client sends, and the others send nothing
sent_made : (w : World) (client : ℕ) (op : Op) (who : ℕ) → (sending w client op).sent who ≡ adding who (w.sent who) (Sent client op)
sent_made w client op who = elim (cases_Bool (who == client)) [
  | inl t ↦ (let same : who ≡ client = eqb-true who client t in subst (λ k. (sending w client op).sent k ≡ adding k (w.sent k) (Sent client op)) (sym same) refl)
  | inr t ↦ rw t refl
]

-- a node in its own place
stays : (p q : ℕ) (nodes : ℕ → Node) → cond (p == q) (nodes q) (nodes p) ≡ nodes p
stays p q nodes = elim (cases_Bool (p == q)) [
  | inl t ↦ (let same : p ≡ q = eqb-true p q t in rw t (ap nodes (sym same)))
  | inr t ↦ rw t refl
]

pub made_law : MadeLaw
made_law c w (Handed q input times) = handed_made c w q input times
made_law c w (Sent client op) = record { nodes = λ p. refl; sent = sent_made w client op; released = λ b. holds_joined b w.released [] w.released refl; scheduled = refl }
made_law c w (Began client) = record { nodes = λ p. refl; sent = λ who. refl; released = λ b. holds_joined b w.released [] w.released refl; scheduled = refl }
made_law c w (Asked q) = record { nodes = λ p. stays p q w.nodes; sent = λ client. refl; released = λ b. holds_joined b _ (OfAsk (record { height = (w.nodes q).state.height; sender = q }) ∷ []) w.released refl; scheduled = refl }
made_law c w (Resent q) = record { nodes = λ p. stays p q w.nodes; sent = λ client. refl; released = λ b. holds_joined b _ (own_since q (w.nodes q).journal) w.released refl; scheduled = refl }
made_law c w (Reopened q cut) = record {
  nodes = λ p. at_own p q (opened q (cut_record c q (w.nodes q) cut ++ (w.nodes q).journal)) w.nodes (λ r. opened r (cut_record c r (w.nodes r) cut ++ (w.nodes r).journal)) refl;
  sent = λ client. refl;
  released = λ b. holds_joined b w.released [] w.released refl;
  scheduled = refl;
}

-- ---- many calls

-- the same, where the nodes are told beside the world
record IsRunFrom (c : Setting) (w : World) (nodes : ℕ → Node) (calls : List Call) : Type 0 where
  lives : (p : ℕ) → (run c w (events c nodes calls)).nodes p ≡ lived c p (nodes p) calls
  sends : (client : ℕ) → (run c w (events c nodes calls)).sent client ≡ sent_by client (w.sent client) calls
  released : (b : Body) → Holds b (run c w (events c nodes calls)).released (bodies c nodes calls) w.released
  scheduled : schedule_of c w (events c nodes calls) ≡ timeouts c nodes calls

schedule_append : (c : Setting) (w : World) (es fs : List Event) → schedule_of c w (es ++ fs) ≡ schedule_of c w es ++ schedule_of c (run c w es) fs
schedule_append c w [] fs = refl
schedule_append c w (e ∷ es) fs = ap (λ l. scheduled_by c w e ++ l) (schedule_append c (happens c w e) es fs) ∙ sym (append_assoc (scheduled_by c w e) (schedule_of c (happens c w e) es) (schedule_of c (run c (happens c w e) es) fs))

-- a call, and then others
one_more : (c : Setting) (w : World) (call : Call) (calls : List Call) → IsMade c w call → IsRunFrom c (run c w (events_by c w.nodes call)) (all_moved c w.nodes call) calls → IsRunFrom c w w.nodes (call ∷ calls)
one_more c w call calls one rest =
    let es : List Event = events_by c w.nodes call in
    let fs : List Event = events c (all_moved c w.nodes call) calls in
    let whole : run c w (es ++ fs) ≡ run c (run c w es) fs = run_append c w es fs in record {
      lives = λ p. ap (λ (v : World). v.nodes p) whole ∙ rest.lives p;
      sends = λ client. ap (λ (v : World). v.sent client) whole ∙ rest.sends client ∙ ap (λ items. sent_by client items calls) (one.sent client);
      released = λ b. holds_more b _ (bodies c (all_moved c w.nodes call) calls) (run c w es).released (bodies_by c w.nodes call) w.released (subst (λ (v : World). Holds b v.released (bodies c (all_moved c w.nodes call) calls) (run c w es).released) (sym whole) (rest.released b)) (one.released b);
      scheduled = schedule_append c w es fs ∙ ap₂ (λ ts us. ts ++ us) one.scheduled rest.scheduled;
    }

runs : (c : Setting) (w : World) (calls : List Call) → IsRunFrom c w w.nodes calls
runs c w [] = record { lives = λ p. refl; sends = λ client. refl; released = λ b. holds_joined b w.released [] w.released refl; scheduled = refl }
runs c w (call ∷ calls) =
    let one = made_law c w call in
    let v : World = run c w (events_by c w.nodes call) in
    let same : v.nodes ≡ all_moved c w.nodes call = fun_ext one.nodes in
    one_more c w call calls one (subst (λ nodes. IsRunFrom c v nodes calls) same (runs c v calls))

pub run_law : RunLaw
run_law c w calls = let k = runs c w calls in record { nodes = k.lives; sent = k.sends; released = k.released; scheduled = k.scheduled }

-- ---- calls, and then others

pub lived_append : (c : Setting) (p : ℕ) (n : Node) (early late : List Call) → lived c p n (early ++ late) ≡ lived c p (lived c p n early) late
lived_append c p n [] late = refl
lived_append c p n (call ∷ early) late = lived_append c p (moved c p n call) early late

events_append : (c : Setting) (nodes : ℕ → Node) (early late : List Call) → events c nodes (early ++ late) ≡ events c nodes early ++ events c (λ p. lived c p (nodes p) early) late
events_append c nodes [] late = refl
events_append c nodes (call ∷ early) late = ap (λ es. events_by c nodes call ++ es) (events_append c (all_moved c nodes call) early late)
    ∙ sym (append_assoc (events_by c nodes call) (events c (all_moved c nodes call) early) (events c (λ p. lived c p (moved c p (nodes p) call) early) late))

-- the events of the later calls
abbrev later : Setting → List Call → List Call → List Event
later c early late = events c (λ p. node_after c p early) late

-- ---- what nodes have delivered

delivered_is : (c : Setting) (calls : List Call) (p : ℕ) → delivered (run c (beginning c) (run_of c calls)) p ≡ delivered_after c p calls
delivered_is c calls p = sym (lock_law c (run_of c calls) p).0 ∙ ap (λ (n : Node). n.state.delivered) ((run_law c (beginning c) calls).nodes p)

-- and after the events of both parts
delivered_late : (c : Setting) (early late : List Call) (p : ℕ) → delivered (run c (beginning c) (run_of c early ++ later c early late)) p ≡ delivered_after c p (early ++ late)
delivered_late c early late p = subst (λ es. delivered (run c (beginning c) es) p ≡ delivered_after c p (early ++ late)) (events_append c unopened early late) (delivered_is c (early ++ late) p)

sent_late : (c : Setting) (early late : List Call) (client : ℕ) → (run c (beginning c) (run_of c early ++ later c early late)).sent client ≡ sent client (early ++ late)
sent_late c early late client = subst (λ es. (run c (beginning c) es).sent client ≡ sent client (early ++ late)) (events_append c unopened early late) ((run_law c (beginning c) (early ++ late)).sent client)

pub past_law : PastLaw
past_law c early late p = subst₂ Begins (delivered_is c early p) (delivered_late c early late p) (lasts_law c (run_of c early) (later c early late) p)

pub delivered_law : DeliveredLaw
delivered_law c h early late fair p q okp okq =
    let whole : run_of c (early ++ late) ≡ run_of c early ++ later c early late = events_append c unopened early late in
    let unforged = subst (Unforged c h (beginning c)) whole fair.unforged in
    let distinct = subst (Distinct c h) whole fair.distinct in
    let of_p = theorem c h (run_of c early) (later c early late) fair.few unforged distinct p okp in
    let of_q = theorem c h (run_of c early) (later c early late) fair.few unforged distinct q okq in
    let late_q = delivered_late c early late q in record {
      begins = subst₂ Comparable (delivered_is c early p) late_q (of_p.1 q okq);
      in_order = λ client. subst (λ d. in_turn fresh (of client d) ≡ true) late_q (of_q.2 client);
      begins_sent = λ client honest. subst₂ (λ d items. Begins (of client d) items) late_q (sent_late c early late client) (of_q.3 client honest);
    }

-- A run's report tells each released body, and each decision in a journal but those that cuts added.
use Rattle.std.proofs.Common.{◌≡◌, ℕ, suc, ◌+◌, inl, length, arith, true, false, cond, List, [], ◌∷◌, ◌++◌, map, reverse, flat_map, refl, sym, ◌∙◌, ap, ap₂, subst, Option, Some, None, append-nil, append_assoc, option_to_list, eqb-true, Result}
use Rattle.std.specs.Prelude.{◌==◌}
use Rattle.std.proofs.lemmas.Bool.{cond_both}
use Rattle.std.proofs.lemmas.Grind.{flat_map-append}
use Rattle.std.proofs.lemmas.List.{reverse-append, map-append}
use Rattle.transactions.specs.declared.fault.Fault.{Fault}
use Rattle.messages.specs.Framing.{message_of}
use Rattle.protocol.specs.Tags.{Setting}
use Rattle.protocol.specs.Messages.{◌∈◌, Body, Message, Record, Own, Decided}
use Rattle.protocol.specs.State.{Node, Rule, TimedOut}
use Rattle.protocol.specs.Restart.{restart, opened, own_since}
use Rattle.protocol.specs.Refusals.{Refusal, refusal_of, refusal_number}
use Rattle.protocol.specs.Calls.{timeout_answer}
use Rattle.protocol.specs.Arrivals.{Outcome, arrival}
use Rattle.protocol.specs.World.{World, Event, Sends, Comes, Fires, Asks, Resends, Restarts, happens, run, beginning, tried, cut_record}
use Rattle.protocol.specs.Premises.{at_validator}
use Rattle.protocol.specs.Reports.{What, Answered, DecidedAt, Released, Told, Decision, decision_of, decisions_in, answered, decided_by, told_of, firing_answer, tells, untold, noted, by_event, joined, report, body_in, bodies, is_by, decision_in, decisions}
use Rattle.protocol.specs.Laws.{RefusalsTold, ReportLaw}
use Rattle.protocol.proofs.Membership.{in_left, in_right}
use Rattle.protocol.proofs.Arrivals.{come_cases, try_cases}

-- ---- the parts of what is told

noted_bodies : (n : ℕ) (v : Option ℕ) (whats : List What) → bodies (noted n v whats) ≡ flat_map body_in whats
noted_bodies n v [] = refl
noted_bodies n v (x ∷ xs) = ap (λ l. body_in x ++ l) (noted_bodies n v xs)

released_bodies : (bs : List Body) → flat_map body_in (map Released bs) ≡ bs
released_bodies [] = refl
released_bodies (b ∷ bs) = ap (λ l. b ∷ l) (released_bodies bs)

decided_bodies : (ds : List Decision) → flat_map body_in (map (λ (d : Decision). DecidedAt d.height d.round d.id) ds) ≡ []
decided_bodies [] = refl
decided_bodies (d ∷ ds) = decided_bodies ds

answered_bodies : (r : Option Refusal) (rest : List What) → flat_map body_in (answered r ++ rest) ≡ flat_map body_in rest
answered_bodies None rest = refl
answered_bodies (Some r) rest = refl

told_bodies : (r : Option Refusal) (o : Outcome) → flat_map body_in (told_of r o) ≡ o.out
told_bodies r o = answered_bodies r _
    ∙ flat_map-append body_in (decided_by (option_to_list o.wrote)) (map Released o.out)
    ∙ ap₂ (λ a b. a ++ b) (decided_bodies (decisions_in (option_to_list o.wrote))) (released_bodies o.out)

noted_here : (p n : ℕ) (v : Option ℕ) (whats : List What) → is_by p v ≡ true → decisions p (noted n v whats) ≡ flat_map decision_in whats
noted_here p n v [] e = refl
noted_here p n v (x ∷ xs) e = rw e (ap (λ l. decision_in x ++ l) (noted_here p n v xs e))

noted_elsewhere : (p n : ℕ) (v : Option ℕ) (whats : List What) → is_by p v ≡ false → decisions p (noted n v whats) ≡ []
noted_elsewhere p n v [] e = refl
noted_elsewhere p n v (x ∷ xs) e = rw e (noted_elsewhere p n v xs e)

answered_decisions : (r : Option Refusal) (rest : List What) → flat_map decision_in (answered r ++ rest) ≡ flat_map decision_in rest
answered_decisions None rest = refl
answered_decisions (Some r) rest = refl

released_decisions : (bs : List Body) → flat_map decision_in (map Released bs) ≡ []
released_decisions [] = refl
released_decisions (b ∷ bs) = released_decisions bs

named_decisions : (ds : List Decision) → flat_map decision_in (map (λ (d : Decision). DecidedAt d.height d.round d.id) ds) ≡ ds
named_decisions [] = refl
named_decisions (d ∷ ds) = ap (λ l. d ∷ l) (named_decisions ds)

told_decisions : (r : Option Refusal) (o : Outcome) → flat_map decision_in (told_of r o) ≡ decisions_in (option_to_list o.wrote)
told_decisions r o = answered_decisions r _
    ∙ flat_map-append decision_in (decided_by (option_to_list o.wrote)) (map Released o.out)
    ∙ ap₂ (λ a b. a ++ b) (named_decisions (decisions_in (option_to_list o.wrote))) (released_decisions o.out)
    ∙ append-nil _

joined_journals : (new old : List Record) → decisions_in (new ++ old) ≡ decisions_in old ++ decisions_in new
joined_journals [] old = sym (append-nil (decisions_in old))
joined_journals (Own h r act ∷ new) old = joined_journals new old
joined_journals (Decided b ∷ new) old = ap (λ l. l ++ decision_of b ∷ []) (joined_journals new old) ∙ append_assoc (decisions_in old) (decisions_in new) (decision_of b ∷ [])

-- ---- bodies

event_bodies : (read : List ℕ → Result Message Fault) (c : Setting) (w : World) (e : Event) → (happens c w e).released ≡ flat_map body_in (tells read c w e) ++ w.released
event_bodies read c w (Sends client op) = refl
event_bodies read c w (Comes p bytes) = ap (λ l. l ++ w.released) (sym (told_bodies _ (arrival c p (w.nodes p) bytes)))
event_bodies read c w (Fires p k) = ap (λ l. l ++ w.released) (sym (told_bodies _ (tried c p (w.nodes p) k)))
event_bodies read c w (Asks p) = refl
event_bodies read c w (Resends p) = ap (λ l. l ++ w.released) (sym (released_bodies _))
event_bodies read c w (Restarts p cut) = refl

run_bodies : (read : List ℕ → Result Message Fault) (c : Setting) (n : ℕ) (w : World) (es : List Event) → (run c w es).released ≡ flat_map bodies (reverse (by_event (tells read) n c w es)) ++ w.released
run_bodies read c n w [] = refl
run_bodies read c n w (e ∷ es) =
    let now = noted n (at_validator e) (tells read c w e) in
    let later = by_event (tells read) (suc n) c (happens c w e) es in
    let here : (happens c w e).released ≡ bodies now ++ w.released = event_bodies read c w e ∙ ap (λ l. l ++ w.released) (sym (noted_bodies n (at_validator e) (tells read c w e))) in
    let parts : flat_map bodies (reverse (now ∷ later)) ≡ flat_map bodies (reverse later) ++ bodies now =
    ap (flat_map bodies) (reverse-append (now ∷ []) later) ∙ flat_map-append bodies (reverse later) (now ∷ []) ∙ ap (λ l. flat_map bodies (reverse later) ++ l) (append-nil (bodies now)) in
    run_bodies read c (suc n) (happens c w e) es
    ∙ ap (λ l. flat_map bodies (reverse later) ++ l) here
    ∙ sym (append_assoc (flat_map bodies (reverse later)) (bodies now) w.released)
    ∙ ap (λ l. l ++ w.released) (sym parts)

-- ---- decisions

-- an outcome's record is what its journal got
arrival_saves : (c : Setting) (p : ℕ) (n : Node) (bytes : List ℕ) → (arrival c p n bytes).node.journal ≡ option_to_list (arrival c p n bytes).wrote ++ n.journal
arrival_saves c p n bytes = come_cases c p n (message_of bytes) (λ o. o.node.journal ≡ option_to_list o.wrote ++ n.journal) refl (λ m b _ _ _. refl) (λ m b _ _ _. refl)

tried_saves : (c : Setting) (p : ℕ) (n : Node) (k : Rule) → (tried c p n k).node.journal ≡ option_to_list (tried c p n k).wrote ++ n.journal
tried_saves c p n k = try_cases c p n k (λ o. o.node.journal ≡ option_to_list o.wrote ++ n.journal) refl (λ _ _. refl)

-- at its validator an event tells, or leaves untold, the decisions that the journal got
at_moved : (p q n : ℕ) (nodes : ℕ → Node) (after : Node) (got : List Record) (whats : List What) → after.journal ≡ got ++ (nodes q).journal → flat_map decision_in whats ≡ decisions_in got
    → decisions_in (cond (p == q) after (nodes p)).journal ≡ decisions_in (nodes p).journal ++ decisions p (noted n (Some q) whats)
at_moved p q n nodes after got whats grown named = cond_both (p == q) after (nodes p) (λ (m : Node). decisions_in m.journal ≡ decisions_in (nodes p).journal ++ decisions p (noted n (Some q) whats))
    (λ e. ap decisions_in grown ∙ joined_journals got (nodes q).journal
    ∙ ap₂ (λ i (l : List Decision). decisions_in (nodes i).journal ++ l) (sym (eqb-true p q e)) (sym named ∙ sym (noted_here p n (Some q) whats e)))
    (λ e. sym (append-nil (decisions_in (nodes p).journal)) ∙ ap (λ l. decisions_in (nodes p).journal ++ l) (sym (noted_elsewhere p n (Some q) whats e)))

-- what an event tells, and leaves untold
abbrev both : (List ℕ → Result Message Fault) → Setting → World → Event → List What
both read c w e = tells read c w e ++ untold c w e

told_alone : (r : Option Refusal) (o : Outcome) → flat_map decision_in (told_of r o ++ []) ≡ decisions_in (option_to_list o.wrote)
told_alone r o = ap (flat_map decision_in) (append-nil (told_of r o)) ∙ told_decisions r o

event_decisions : (read : List ℕ → Result Message Fault) (c : Setting) (n : ℕ) (w : World) (e : Event) (p : ℕ)
    → decisions_in ((happens c w e).nodes p).journal ≡ decisions_in (w.nodes p).journal ++ decisions p (noted n (at_validator e) (both read c w e))
event_decisions read c n w (Sends client op) p = sym (append-nil (decisions_in (w.nodes p).journal))
event_decisions read c n w (Comes q bytes) p =
    let o = arrival c q (w.nodes q) bytes in
    at_moved p q n w.nodes o.node (option_to_list o.wrote) _ (arrival_saves c q (w.nodes q) bytes) (told_alone (refusal_of c q (w.nodes q) (read bytes)) o)
event_decisions read c n w (Fires q k) p =
    let o = tried c q (w.nodes q) k in
    at_moved p q n w.nodes o.node (option_to_list o.wrote) _ (tried_saves c q (w.nodes q) k) (told_alone (firing_answer (w.nodes q) k) o)
event_decisions read c n w (Asks q) p = at_moved p q n w.nodes (w.nodes q) [] (both read c w (Asks q)) refl refl
event_decisions read c n w (Resends q) p = at_moved p q n w.nodes (w.nodes q) [] (both read c w (Resends q)) refl (ap (flat_map decision_in) (append-nil (map Released (own_since q (w.nodes q).journal))) ∙ released_decisions (own_since q (w.nodes q).journal))
event_decisions read c n w (Restarts q cut) p =
    let got = cut_record c q (w.nodes q) cut in
    at_moved p q n w.nodes (opened q (got ++ (w.nodes q).journal)) got (both read c w (Restarts q cut)) refl (named_decisions (decisions_in got))

joined_decisions : (p : ℕ) (part : List Told) (parts : List (List Told)) → decisions p (joined (part ∷ parts)) ≡ decisions p part ++ decisions p (joined parts)
joined_decisions p part parts = flat_map-append _ part (joined parts)

run_decisions : (read : List ℕ → Result Message Fault) (c : Setting) (n : ℕ) (w : World) (es : List Event) (p : ℕ) → decisions_in ((run c w es).nodes p).journal ≡ decisions_in (w.nodes p).journal ++ decisions p (joined (by_event (both read) n c w es))
run_decisions read c n w [] p = sym (append-nil (decisions_in (w.nodes p).journal))
run_decisions read c n w (e ∷ es) p =
    let now = noted n (at_validator e) (both read c w e) in
    let later = by_event (both read) (suc n) c (happens c w e) es in
    run_decisions read c (suc n) (happens c w e) es p
    ∙ ap (λ l. l ++ decisions p (joined later)) (event_decisions read c n w e p)
    ∙ append_assoc (decisions_in (w.nodes p).journal) (decisions p now) (decisions p (joined later))
    ∙ ap (λ l. decisions_in (w.nodes p).journal ++ l) (sym (joined_decisions p now later))

-- ---- where no cut added a decision

nothing_first : (xs ys : List Decision) → xs ++ ys ≡ [] → xs ≡ []
nothing_first [] ys e = refl
nothing_first (x ∷ xs) ys e = absurd (cc)

nothing_later : (xs ys : List Decision) → xs ++ ys ≡ [] → ys ≡ []
nothing_later [] ys e = e
nothing_later (x ∷ xs) ys e = absurd (cc)

noted_decisions : (p n : ℕ) (v : Option ℕ) (a b : List What) → decisions p (noted n v (a ++ b)) ≡ decisions p (noted n v a) ++ decisions p (noted n v b)
noted_decisions p n v a b = ap (decisions p) (map-append _ a b) ∙ flat_map-append _ (noted n v a) (noted n v b)

all_told : (read : List ℕ → Result Message Fault) (c : Setting) (n : ℕ) (w : World) (es : List Event) (p : ℕ) → decisions p (joined (by_event untold n c w es)) ≡ [] → decisions p (joined (by_event (both read) n c w es)) ≡ decisions p (joined (by_event (tells read) n c w es))
all_told read c n w [] p none = refl
all_told read c n w (e ∷ es) p none =
    let v = at_validator e in
    let split = sym (joined_decisions p (noted n v (untold c w e)) (by_event untold (suc n) c (happens c w e) es)) ∙ none in
    let first = nothing_first _ _ split in
    let later = all_told read c (suc n) (happens c w e) es p (nothing_later _ _ split) in
    joined_decisions p (noted n v (both read c w e)) (by_event (both read) (suc n) c (happens c w e) es)
    ∙ ap₂ (λ (a b : List Decision). a ++ b) (noted_decisions p n v (tells read c w e) (untold c w e) ∙ ap (λ l. decisions p (noted n v (tells read c w e)) ++ l) first ∙ append-nil _) later
    ∙ sym (joined_decisions p (noted n v (tells read c w e)) (by_event (tells read) (suc n) c (happens c w e) es))

-- ---- refusals

told_in : (n : ℕ) (v : Option ℕ) (r : Refusal) (o : Option Refusal) (rest : List What) → o ≡ Some r → record { event = n; validator = v; what = Answered (refusal_number r) } ∈ noted n v (answered o ++ rest)
told_in n v r None rest e = absurd (cc)
told_in n v r (Some s) rest e = inl (let f : s ≡ r = cc in ap (λ a. record { event = n; validator = v; what = Answered (refusal_number a) }) (sym f))

-- what an event tells is in the report, with the event's number
in_report : (read : List ℕ → Result Message Fault) (c : Setting) (t : Told) (n : ℕ) (w : World) (early late : List Event) (e : Event) → t ∈ noted (n + length early) (at_validator e) (tells read c (run c w early) e) → t ∈ joined (by_event (tells read) n c w (early ++ e ∷ late))
in_report read c t n w [] late e i = in_left t (noted n (at_validator e) (tells read c w e)) _ (subst (λ k. t ∈ noted k (at_validator e) (tells read c w e)) (omega arith) i)
in_report read c t n w (x ∷ early) late e i = in_right t (noted n (at_validator x) (tells read c w x)) _
    (in_report read c t (suc n) (happens c w x) early late e (subst (λ k. t ∈ noted k (at_validator e) (tells read c (run c (happens c w x) early) e)) (omega arith) i))

refusals_told : (read : List ℕ → Result Message Fault) (c : Setting) → RefusalsTold read c
refusals_told read c early late p r =
    let n : Node = (run c (beginning c) early).nodes p in
    let told : Told = record { event = suc (length early); validator = Some p; what = Answered (refusal_number r) } in
    let at : (e : Event) → told ∈ noted (suc (length early)) (at_validator e) (tells read c (run c (beginning c) early) e) → told ∈ report read c (beginning c) (early ++ e ∷ late) =
    λ e i. in_report read c told 1 (beginning c) early late e (subst (λ k. told ∈ noted k (at_validator e) (tells read c (run c (beginning c) early) e)) (omega arith) i) in (
      λ bytes e. at (Comes p bytes) (told_in (suc (length early)) (Some p) r (refusal_of c p n (read bytes)) _ e),
      λ t e. at (Fires p (TimedOut t)) (told_in (suc (length early)) (Some p) r (timeout_answer n.state t) _ e),
    )

pub report_law : ReportLaw
unfolding restart
report_law read c events =
    let w = beginning c in
    let all : (p : ℕ) → decisions_in ((run c w events).nodes p).journal ≡ decisions p (joined (by_event (both read) 1 c w events)) = λ p. run_decisions read c 1 w events p in (
      run_bodies read c 1 w events ∙ append-nil _,
      all,
      λ p none. all p ∙ all_told read c 1 w events p none,
      refusals_told read c,
    )

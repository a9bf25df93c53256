-- A report tells every decision and every message.
use Rattle.std.proofs.Common.{◌≡◌, ℕ, suc, ◌⊎◌, inl, inr, true, false, cond, Option, Some, None, List, [], ◌∷◌, ◌++◌, map, flat_map, length, drop, refl, sym, ◌∙◌, ap, ap₂, subst, eqb-true, eq-eqb, append_assoc, append-nil, length-append, arith}
use Rattle.std.specs.Prelude.{◌==◌}
use Rattle.std.specs.List.{slice_get}
use Rattle.std.specs.Str.{bytes_eq}
use Rattle.std.proofs.lemmas.Bool.{cases_Bool, cond_both}
use Rattle.std.proofs.lemmas.List.{map-append}
use Rattle.std.proofs.lemmas.Slice.Eq.{bytes_eq-Decides}
use Rattle.std.proofs.lemmas.Grind.{flat_map-append}
use Rattle.messages.specs.Grammar.{body_spelling}
use Rattle.protocol.specs.Values.{Item}
use Rattle.protocol.specs.Tags.{Setting}
use Rattle.protocol.specs.Messages.{◌∈◌, Body, Bundle, Record, Own, Decided as DecidedBy}
use Rattle.protocol.specs.State.{Node}
use Rattle.protocol.specs.World.{World, next_item}
use Rattle.protocol.specs.Effects.{bundles_in}
use Rattle.protocol.proofs.Membership.{in_map, in_append, in_left, in_right, any_in, any_found}
use Rattle.protocol.proofs.Growth.{Longer, run_longer}
use Rattle.world_schedule.specs.Calls.{Call, Sent, Began, Handed, Asked, Resent, Reopened, moved, all_moved, adding, bodies_by, bodies, events_by, lived, sent_by}
use Rattle.world_schedule.specs.declared.report.What.{What}
use Rattle.world_schedule.specs.declared.report.What.TheVariants.{Decided, Released}
use Rattle.world_schedule.specs.declared.report.Told.{Told}
use Rattle.world_schedule.specs.declared.report.Decision.{Decision}
use Rattle.world_schedule.specs.declared.report.Answer.{Answer}
use Rattle.world_schedule.specs.declared.report.Release.{Release}
use Rattle.world_schedule.specs.Reports.{Made, calls_of, is_numbered, newly, said_as, Standing, start, said, next, standing_after, validator_of, decided_in, decision_of, told_of_validator, released_from, told_of_call, noted, told, decision_in, is_by, decisions_told, message_in, messages_told, answer_in, answers_told, answer_of, answers_of, IsAmong, IsPlaced, AreNew, ReportLaw}
use Rattle.world_schedule.proofs.Runs.{made_law}

-- ---- a journal grows by a call's decisions

joined_journals : (more old : List Record) → bundles_in (more ++ old) ≡ bundles_in old ++ bundles_in more
joined_journals [] old = sym (append-nil (bundles_in old))
joined_journals (Own h r act ∷ more) old = joined_journals more old
joined_journals (DecidedBy b ∷ more) old = ap (λ l. l ++ b ∷ []) (joined_journals more old) ∙ append_assoc (bundles_in old) (bundles_in more) (b ∷ [])

drop_front : {X : Type 0} (xs ys : List X) → drop (length xs) (xs ++ ys) ≡ ys
drop_front [] ys = refl
drop_front (x ∷ xs) ys = drop_front xs ys

-- a world in which every validator's node is this one
abbrev world_of : Node → World
world_of n = record { nodes = λ _. n; released = []; sent = λ _. [] }

grown : (c : Setting) (p : ℕ) (n : Node) (call : Call) → bundles_in (moved c p n call).journal ≡ bundles_in n.journal ++ decided_in c p n call
grown c p n call =
    let w : World = world_of n in
    let longer : Longer n.journal (moved c p n call).journal = subst (λ (m : Node). Longer n.journal m.journal) ((made_law c w call).nodes p) (run_longer c w (events_by c w.nodes call) p) in
    let all : bundles_in (moved c p n call).journal ≡ bundles_in n.journal ++ bundles_in longer.more = ap bundles_in longer.is ∙ joined_journals longer.more n.journal in
    all ∙ ap (λ l. bundles_in n.journal ++ l) (sym (ap (drop (length (bundles_in n.journal))) all ∙ drop_front (bundles_in n.journal) (bundles_in longer.more)))

-- ---- decisions

noted_here : (p : ℕ) (m : Made) (whats : List What) → is_by p (validator_of m.call) ≡ true → decisions_told p (noted m whats) ≡ flat_map decision_in whats
noted_here p m [] e = refl
noted_here p m (x ∷ xs) e = rw e (ap (λ l. decision_in x ++ l) (noted_here p m xs e))

noted_elsewhere : (p : ℕ) (m : Made) (whats : List What) → is_by p (validator_of m.call) ≡ false → decisions_told p (noted m whats) ≡ []
noted_elsewhere p m [] e = refl
noted_elsewhere p m (x ∷ xs) e = rw e (noted_elsewhere p m xs e)

named_decisions : (bs : List Bundle) → flat_map decision_in (map (λ (b : Bundle). Decided (decision_of b)) bs) ≡ map decision_of bs
named_decisions [] = refl
named_decisions (b ∷ bs) = ap (λ l. decision_of b ∷ l) (named_decisions bs)

released_decisions : (n : ℕ) (bs : List Body) → flat_map decision_in (released_from n bs) ≡ []
released_decisions n [] = refl
released_decisions n (b ∷ bs) = released_decisions (suc n) bs

-- what is told of validator p's own call
own_decisions : (c : Setting) (s : Standing) (m : Made) (p : ℕ) (v : Option ℕ) → is_by p v ≡ true → flat_map decision_in (told_of_validator c s m v) ≡ map decision_of (decided_in c p (s.nodes p) m.call)
own_decisions c s m p None e = absurd (let f : false ≡ true = e in cc)
own_decisions c s m p (Some q) e = subst (λ i. flat_map decision_in (told_of_validator c s m (Some i)) ≡ map decision_of (decided_in c p (s.nodes p) m.call)) (eqb-true p q e) (named_decisions (decided_in c p (s.nodes p) m.call))

-- another's call leaves the node
pub stays : (c : Setting) (p : ℕ) (n : Node) (call : Call) → is_by p (validator_of call) ≡ false → moved c p n call ≡ n
stays c p n (Sent client op) e = refl
stays c p n (Began client) e = refl
stays c p n (Handed q input times) e = rw e refl
stays c p n (Asked q) e = refl
stays c p n (Resent q) e = refl
stays c p n (Reopened q cut) e = rw e refl

abbrev decided_by_node : Node → List Decision
decided_by_node n = map decision_of (bundles_in n.journal)

one_decided : (c : Setting) (s : Standing) (m : Made) (p : ℕ) → decided_by_node (moved c p (s.nodes p) m.call) ≡ decided_by_node (s.nodes p) ++ decisions_told p (noted m (told_of_call c s m))
one_decided c s m p = elim (cases_Bool (is_by p (validator_of m.call))) [
  | inl e ↦ (
      let news : List Body = newly s.numbered (said c s m.call) in
      let at_call : decisions_told p (noted m (told_of_call c s m)) ≡ map decision_of (decided_in c p (s.nodes p) m.call)
      = noted_here p m (told_of_call c s m) e
      ∙ flat_map-append decision_in (told_of_validator c s m (validator_of m.call)) (released_from (length s.numbered) news)
      ∙ ap₂ (λ xs ys. xs ++ ys) (own_decisions c s m p (validator_of m.call) e) (released_decisions (length s.numbered) news)
      ∙ append-nil (map decision_of (decided_in c p (s.nodes p) m.call)) in
      ap (map decision_of) (grown c p (s.nodes p) m.call) ∙ map-append decision_of (bundles_in (s.nodes p).journal) (decided_in c p (s.nodes p) m.call) ∙ ap (λ l. decided_by_node (s.nodes p) ++ l) (sym at_call))
  | inr e ↦ ap decided_by_node (stays c p (s.nodes p) m.call e) ∙ sym (append-nil (decided_by_node (s.nodes p))) ∙ ap (λ l. decided_by_node (s.nodes p) ++ l) (sym (noted_elsewhere p m (told_of_call c s m) e))
]

all_decided : (c : Setting) (s : Standing) (ms : List Made) (p : ℕ) → decided_by_node (lived c p (s.nodes p) (calls_of ms)) ≡ decided_by_node (s.nodes p) ++ decisions_told p (told c s ms)
all_decided c s [] p = sym (append-nil (decided_by_node (s.nodes p)))
all_decided c s (m ∷ ms) p =
    let here : List Told = noted m (told_of_call c s m) in
    let later : List Told = told c (next c s m.call) ms in
    all_decided c (next c s m.call) ms p
    ∙ ap (λ l. l ++ decisions_told p later) (one_decided c s m p)
    ∙ append_assoc (decided_by_node (s.nodes p)) (decisions_told p here) (decisions_told p later)
    ∙ ap (λ l. decided_by_node (s.nodes p) ++ l) (sym (flat_map-append (λ (t : Told). cond (is_by p t.validator) (decision_in t.what) []) here later))

-- ---- answers

answers_here : (p : ℕ) (m : Made) (whats : List What) → is_by p (validator_of m.call) ≡ true → answers_told p (noted m whats) ≡ flat_map answer_in whats
answers_here p m [] e = refl
answers_here p m (x ∷ xs) e = rw e (ap (λ l. answer_in x ++ l) (answers_here p m xs e))

answers_elsewhere : (p : ℕ) (m : Made) (whats : List What) → is_by p (validator_of m.call) ≡ false → answers_told p (noted m whats) ≡ []
answers_elsewhere p m [] e = refl
answers_elsewhere p m (x ∷ xs) e = rw e (answers_elsewhere p m xs e)

decided_answers : (bs : List Bundle) → flat_map answer_in (map (λ (b : Bundle). Decided (decision_of b)) bs) ≡ []
decided_answers [] = refl
decided_answers (b ∷ bs) = decided_answers bs

released_answers : (n : ℕ) (bs : List Body) → flat_map answer_in (released_from n bs) ≡ []
released_answers n [] = refl
released_answers n (b ∷ bs) = released_answers (suc n) bs

own_answer : (c : Setting) (s : Standing) (m : Made) (p : ℕ) (v : Option ℕ) → is_by p v ≡ true → flat_map answer_in (told_of_validator c s m v) ≡ answer_of m ∷ []
own_answer c s m p None e = absurd (let f : false ≡ true = e in cc)
own_answer c s m p (Some q) e = ap (λ l. answer_of m ∷ l) (decided_answers (decided_in c q (s.nodes q) m.call))

-- what one call answers, where it is validator p's
abbrev answer_if : ℕ → Made → List Answer
answer_if p m = cond (is_by p (validator_of m.call)) (answer_of m ∷ []) []

one_answered : (c : Setting) (s : Standing) (m : Made) (p : ℕ) → answers_told p (noted m (told_of_call c s m)) ≡ answer_if p m
one_answered c s m p = elim (cases_Bool (is_by p (validator_of m.call))) [
  | inl e ↦ (
      let news : List Body = newly s.numbered (said c s m.call) in
      answers_here p m (told_of_call c s m) e
      ∙ flat_map-append answer_in (told_of_validator c s m (validator_of m.call)) (released_from (length s.numbered) news)
      ∙ ap₂ (λ xs ys. xs ++ ys) (own_answer c s m p (validator_of m.call) e) (released_answers (length s.numbered) news)
      ∙ ap (λ b. cond b (answer_of m ∷ []) []) (sym e))
  | inr e ↦ answers_elsewhere p m (told_of_call c s m) e ∙ ap (λ b. cond b (answer_of m ∷ []) []) (sym e)
]

all_answered : (c : Setting) (s : Standing) (ms : List Made) (p : ℕ) → answers_told p (told c s ms) ≡ answers_of p ms
all_answered c s [] p = refl
all_answered c s (m ∷ ms) p = flat_map-append (λ (t : Told). cond (is_by p t.validator) (answer_in t.what) []) (noted m (told_of_call c s m)) (told c (next c s m.call) ms)
    ∙ ap₂ (λ xs ys. xs ++ ys) (one_answered c s m p) (all_answered c (next c s m.call) ms p)

-- ---- messages

noted_messages : (m : Made) (whats : List What) → messages_told (noted m whats) ≡ flat_map message_in whats
noted_messages m [] = refl
noted_messages m (x ∷ xs) = ap (λ l. message_in x ++ l) (noted_messages m xs)

decided_messages : (bs : List Bundle) → flat_map message_in (map (λ (b : Bundle). Decided (decision_of b)) bs) ≡ []
decided_messages [] = refl
decided_messages (b ∷ bs) = decided_messages bs

validator_messages : (c : Setting) (s : Standing) (m : Made) (v : Option ℕ) → flat_map message_in (told_of_validator c s m v) ≡ []
validator_messages c s m None = refl
validator_messages c s m (Some p) = decided_messages (decided_in c p (s.nodes p) m.call)

released_messages : (n : ℕ) (bs : List Body) → flat_map message_in (released_from n bs) ≡ bs
released_messages n [] = refl
released_messages n (b ∷ bs) = ap (λ l. b ∷ l) (released_messages (suc n) bs)

one_numbered : (c : Setting) (s : Standing) (m : Made) → messages_told (noted m (told_of_call c s m)) ≡ newly s.numbered (said c s m.call)
one_numbered c s m =
    let news : List Body = newly s.numbered (said c s m.call) in
    noted_messages m (told_of_call c s m)
    ∙ flat_map-append message_in (told_of_validator c s m (validator_of m.call)) (released_from (length s.numbered) news)
    ∙ ap₂ (λ xs ys. xs ++ ys) (validator_messages c s m (validator_of m.call)) (released_messages (length s.numbered) news)

all_numbered : (c : Setting) (s : Standing) (ms : List Made) → s.numbered ++ messages_told (told c s ms) ≡ (standing_after c s (calls_of ms)).numbered
all_numbered c s [] = append-nil s.numbered
all_numbered c s (m ∷ ms) =
    let here : List Told = noted m (told_of_call c s m) in
    let later : List Told = told c (next c s m.call) ms in
    ap (λ l. s.numbered ++ l) (flat_map-append (λ (t : Told). message_in t.what) here later ∙ ap (λ l. l ++ messages_told later) (one_numbered c s m))
    ∙ sym (append_assoc s.numbered (newly s.numbered (said c s m.call)) (messages_told later))
    ∙ all_numbered c (next c s m.call) ms

-- ---- the places of messages

place_at : (front : List Body) (b : Body) (back : List Body) → slice_get (front ++ b ∷ back) (length front) ≡ Some b
place_at [] b back = refl
place_at (x ∷ front) b back = place_at front b back

-- what is released from a number on stands behind so many messages
placed : (front news back : List Body) (r : Release) → Released r ∈ released_from (length front) news → IsPlaced (front ++ (news ++ back)) r
placed front [] back r i = absurd i
placed front (b ∷ news) back r (inl e) = let same : r ≡ record { number = length front; body = b } = cc in subst (IsPlaced (front ++ b ∷ (news ++ back))) (sym same) (place_at front b (news ++ back))
placed front (b ∷ news) back r (inr i) =
    let longer : length (front ++ b ∷ []) ≡ suc (length front) = omega (arith, length-append front (b ∷ [])) in
    subst (λ l. IsPlaced l r) (append_assoc front (b ∷ []) (news ++ back)) (placed (front ++ b ∷ []) news back r (subst (λ n. Released r ∈ released_from n news) (sym longer) i))

-- a validator's answer and decisions are no messages
not_of_validator : (c : Setting) (s : Standing) (m : Made) (v : Option ℕ) (r : Release) → Released r ∈ told_of_validator c s m v → ⊥
not_of_validator c s m None r i = i
not_of_validator c s m (Some p) r (inl e) = cc
not_of_validator c s m (Some p) r (inr i) = let k = in_map (λ (b : Bundle). Decided (decision_of b)) (Released r) (decided_in c p (s.nodes p) m.call) i in let e : Decided (decision_of k.0) ≡ Released r = k.2 in cc

-- the messages of a call and of those after it
messages_later : (c : Setting) (s : Standing) (m : Made) (ms : List Made) → messages_told (told c s (m ∷ ms)) ≡ newly s.numbered (said c s m.call) ++ messages_told (told c (next c s m.call) ms)
messages_later c s m ms =
    let later : List Told = told c (next c s m.call) ms in
    flat_map-append (λ (t : Told). message_in t.what) (noted m (told_of_call c s m)) later ∙ ap (λ l. l ++ messages_told later) (one_numbered c s m)

-- from a standing on
abbrev AllPlaced : Setting → Standing → List Made → Type 0
AllPlaced c s ms = (t : Told) (r : Release) → t ∈ told c s ms → t.what ≡ Released r → IsPlaced (s.numbered ++ messages_told (told c s ms)) r

one_placed : (c : Setting) (s : Standing) (m : Made) (back : List Body) (r : Release) → Released r ∈ told_of_call c s m → IsPlaced (s.numbered ++ (newly s.numbered (said c s m.call) ++ back)) r
one_placed c s m back r i = elim (in_append (Released r) (told_of_validator c s m (validator_of m.call)) (released_from (length s.numbered) (newly s.numbered (said c s m.call))) i) [
  | inl k ↦ absurd (not_of_validator c s m (validator_of m.call) r k)
  | inr k ↦ placed s.numbered (newly s.numbered (said c s m.call)) back r k
]

all_placed : (c : Setting) (s : Standing) (ms : List Made) → AllPlaced c s ms
all_placed c s [] t r i e = absurd i
all_placed c s (m ∷ ms) t r i e =
    let news : List Body = newly s.numbered (said c s m.call) in
    let back : List Body = messages_told (told c (next c s m.call) ms) in
    subst (λ l. IsPlaced (s.numbered ++ l) r) (sym (messages_later c s m ms)) (elim (in_append t (noted m (told_of_call c s m)) (told c (next c s m.call) ms) i) [
      | inl k ↦ (
          let f = in_map (λ (what : What). record { event = m.event; validator = validator_of m.call; what = what }) t (told_of_call c s m) k in
          let same : f.0 ≡ Released r = ap (λ (x : Told). x.what) f.2 ∙ e in
          one_placed c s m back r (subst (λ what. what ∈ told_of_call c s m) same f.1))
      | inr k ↦ subst (λ l. IsPlaced l r) (append_assoc s.numbered news back) (all_placed c (next c s m.call) ms t r k e)
    ])

-- ---- no message is told twice

newly_new : (known bs : List Body) → AreNew known (newly known bs)
newly_new known [] = tt
newly_new known (b ∷ bs) = cond_both (is_numbered known b) (newly known bs) (b ∷ newly (known ++ b ∷ []) bs) (AreNew known) (λ _. newly_new known bs) (λ e. (e, newly_new (known ++ b ∷ []) bs))

new_append : (known xs ys : List Body) → AreNew known xs → AreNew (known ++ xs) ys → AreNew known (xs ++ ys)
new_append known [] ys a b = subst (λ l. AreNew l ys) (append-nil known) b
new_append known (x ∷ xs) ys a b = (a.0, new_append (known ++ x ∷ []) xs ys a.1 (subst (λ l. AreNew l ys) (sym (append_assoc known (x ∷ []) xs)) b))

all_new : (c : Setting) (s : Standing) (ms : List Made) → AreNew s.numbered (messages_told (told c s ms))
all_new c s [] = tt
all_new c s (m ∷ ms) = subst (AreNew s.numbered) (sym (messages_later c s m ms)) (new_append s.numbered (newly s.numbered (said c s m.call)) (messages_told (told c (next c s m.call) ms)) (newly_new s.numbered (said c s m.call)) (all_new c (next c s m.call) ms))

-- ---- each message is numbered

among_more : (xs ys : List Body) (b : Body) → IsAmong xs b → IsAmong (xs ++ ys) b
among_more xs ys b e = let f = any_found (λ known. bytes_eq (body_spelling known) (body_spelling b)) xs e in any_in (λ known. bytes_eq (body_spelling known) (body_spelling b)) f.0 (xs ++ ys) (in_left f.0 xs ys f.1) f.2

among_self : (xs : List Body) (b : Body) → b ∈ xs → IsAmong xs b
among_self xs b i = any_in (λ known. bytes_eq (body_spelling known) (body_spelling b)) b xs i ((bytes_eq-Decides (body_spelling b) (body_spelling b)).1 refl)

newly_all : (known bs : List Body) (b : Body) → b ∈ bs → IsAmong (known ++ newly known bs) b
newly_all known [] b i = absurd i
newly_all known (x ∷ xs) b i = elim (cases_Bool (is_numbered known x)) [
  | inl e ↦ rw e (elim i [ inl same ↦ among_more known (newly known xs) b (subst (IsAmong known) (sym same) e) | inr later ↦ newly_all known xs b later ])
  | inr e ↦ rw e (subst (λ l. IsAmong l b) (append_assoc known (x ∷ []) (newly (known ++ x ∷ []) xs)) (elim i [
    | inl same ↦ among_more (known ++ x ∷ []) (newly (known ++ x ∷ []) xs) b (among_self (known ++ x ∷ []) b (in_right b known (x ∷ []) (inl same)))
    | inr later ↦ newly_all (known ++ x ∷ []) xs b later
  ]))
]

newly_only : (known bs : List Body) (b : Body) → b ∈ newly known bs → b ∈ bs
newly_only known [] b i = absurd i
newly_only known (x ∷ xs) b i = cond_both (is_numbered known x) (newly known xs) (x ∷ newly (known ++ x ∷ []) xs) (λ l. b ∈ l → b ∈ (x ∷ xs))
    (λ _ k. inr (newly_only known xs b k))
    (λ _ k. elim k [ inl e ↦ inl e | inr l ↦ inr (newly_only (known ++ x ∷ []) xs b l) ]) i

-- what is numbered stays so
numbered_later : (c : Setting) (s : Standing) (calls : List Call) (b : Body) → IsAmong s.numbered b → IsAmong (standing_after c s calls).numbered b
numbered_later c s [] b e = e
numbered_later c s (call ∷ calls) b e = numbered_later c (next c s call) calls b (among_more s.numbered (newly s.numbered (said c s call)) b e)

-- what a call releases it says
said_by : (c : Setting) (s : Standing) (call : Call) (b : Body) → b ∈ bodies_by c s.nodes call → b ∈ said c s call
said_by c s (Sent client op) b i = absurd i
said_by c s (Began client) b i = i
said_by c s (Handed p input times) b i = i
said_by c s (Asked p) b i = i
said_by c s (Resent p) b i = i
said_by c s (Reopened p cut) b i = i

each_released : (c : Setting) (s : Standing) (calls : List Call) (b : Body) → b ∈ bodies c s.nodes calls → IsAmong (standing_after c s calls).numbered b
each_released c s [] b i = absurd i
each_released c s (call ∷ calls) b i = elim (in_append b (bodies_by c s.nodes call) (bodies c (all_moved c s.nodes call) calls) i) [
  | inl k ↦ numbered_later c (next c s call) calls b (newly_all s.numbered (said c s call) b (said_by c s call b k))
  | inr k ↦ each_released c (next c s call) calls b k
]

-- ---- what clients send

-- an item that a call adds is one that it says
added : (c : Setting) (s : Standing) (client : ℕ) (t : Item) (call : Call) → t ∈ adding client (s.sent client) call → (t ∈ s.sent client) ⊎ (said_as t ∈ said c s call)
added c s client t (Sent sender op) i = cond_both (client == sender) (s.sent client ++ next_item client op (s.sent client) ∷ []) (s.sent client)
    (λ l. t ∈ l → (t ∈ s.sent client) ⊎ (said_as t ∈ said c s (Sent sender op)))
    (λ e k. elim (in_append t (s.sent client) (next_item client op (s.sent client) ∷ []) k) [
      | inl l ↦ inl l
      | inr (inl same) ↦ inr (subst (λ n. said_as t ∈ said c s (Sent n op)) (eqb-true client sender e) (inl (ap said_as same)))
      | inr (inr none) ↦ absurd none
    ])
    (λ _ k. inl k) i
added c s client t (Began beginner) i = inl i
added c s client t (Handed p input times) i = inl i
added c s client t (Asked p) i = inl i
added c s client t (Resent p) i = inl i
added c s client t (Reopened p cut) i = inl i

each_sent : (c : Setting) (s : Standing) (calls : List Call) (client : ℕ) (t : Item) → ((u : Item) → u ∈ s.sent client → IsAmong s.numbered (said_as u)) → t ∈ sent_by client (s.sent client) calls → IsAmong (standing_after c s calls).numbered (said_as t)
each_sent c s [] client t before i = before t i
each_sent c s (call ∷ calls) client t before i = each_sent c (next c s call) calls client t (λ u k. elim (added c s client u call k) [
  | inl l ↦ among_more s.numbered (newly s.numbered (said c s call)) (said_as u) (before u l)
  | inr l ↦ newly_all s.numbered (said c s call) (said_as u) l
]) i

-- ---- and no other

-- what a client sent stays sent
sent_stays : (client : ℕ) (items : List Item) (calls : List Call) (t : Item) → t ∈ items → t ∈ sent_by client items calls
sent_stays client items [] t i = i
sent_stays client items (call ∷ calls) t i = sent_stays client (adding client items call) calls t (kept call)
  where
    kept : (call : Call) → t ∈ adding client items call
    kept (Sent sender op) = cond_both (client == sender) (items ++ next_item client op items ∷ []) items (λ l. t ∈ l) (λ _. in_left t items (next_item client op items ∷ []) i) (λ _. i)
    kept (Began beginner) = i
    kept (Handed p input times) = i
    kept (Asked p) = i
    kept (Resent p) = i
    kept (Reopened p cut) = i

-- a body that a call says is released by it, or is what a client then has sent
abbrev SaidBy : Setting → Standing → Call → Body → Type 0
SaidBy c s call b = (b ∈ bodies_by c s.nodes call) ⊎ ((client : ℕ) × (t : Item) × (t ∈ adding client (s.sent client) call) × (b ≡ said_as t))

said_whence : (c : Setting) (s : Standing) (call : Call) (b : Body) → b ∈ said c s call → SaidBy c s call b
said_whence c s (Sent client op) b i = inr (client, next_item client op (s.sent client), is_added, elim i [ inl same ↦ same | inr none ↦ absurd none ])
  where
    is_added : next_item client op (s.sent client) ∈ adding client (s.sent client) (Sent client op)
    is_added = rw (eq-eqb client client refl) (in_right (next_item client op (s.sent client)) (s.sent client) (next_item client op (s.sent client) ∷ []) (inl refl))
said_whence c s (Began client) b i = inl i
said_whence c s (Handed p input times) b i = inl i
said_whence c s (Asked p) b i = inl i
said_whence c s (Resent p) b i = inl i
said_whence c s (Reopened p cut) b i = inl i

-- from a standing on
abbrev Whence : Setting → Standing → List Call → Body → Type 0
Whence c s calls b = (b ∈ bodies c s.nodes calls) ⊎ ((client : ℕ) × (t : Item) × (t ∈ sent_by client (s.sent client) calls) × (b ≡ said_as t))

no_other : (c : Setting) (s : Standing) (calls : List Call) (b : Body) → b ∈ (standing_after c s calls).numbered → (b ∈ s.numbered) ⊎ Whence c s calls b
no_other c s [] b i = inl i
no_other c s (call ∷ calls) b i = elim (no_other c (next c s call) calls b i) [
  | inl k ↦ (elim (in_append b s.numbered (newly s.numbered (said c s call)) k) [
    | inl l ↦ inl l
    | inr l ↦ (elim (said_whence c s call b (newly_only s.numbered (said c s call) b l)) [
      | inl r ↦ inr (inl (in_left b (bodies_by c s.nodes call) (bodies c (all_moved c s.nodes call) calls) r))
      | inr r ↦ inr (inr (r.0, r.1, sent_stays r.0 (adding r.0 (s.sent r.0) call) calls r.1 r.2, r.3))
    ])
  ])
  | inr (inl k) ↦ inr (inl (in_right b (bodies_by c s.nodes call) (bodies c (all_moved c s.nodes call) calls) k))
  | inr (inr k) ↦ inr (inr k)
]

pub report_law : ReportLaw
report_law c ms =
    let whole : messages_told (told c start ms) ≡ (standing_after c start (calls_of ms)).numbered = all_numbered c start ms in record {
      answers = all_answered c start ms;
      decisions = λ p. sym (all_decided c start ms p);
      messages = whole;
      once = all_new c start ms;
      places = all_placed c start ms;
      each_released = λ b i. subst (λ l. IsAmong l b) (sym whole) (each_released c start (calls_of ms) b i);
      each_sent = λ client t i. subst (λ l. IsAmong l (said_as t)) (sym whole) (each_sent c start (calls_of ms) client t (λ u k. absurd k) i);
      no_other = λ b i. elim (no_other c start (calls_of ms) b (subst (λ l. b ∈ l) whole i)) [ inl k ↦ absurd k | inr k ↦ k ];
    }

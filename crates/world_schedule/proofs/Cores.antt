-- What a core's calls ensure in the setting that its own keys tell of holds in the world.
use Rattle.std.proofs.Common.{◌≡◌, ℕ, zero, suc, ◌<◌, inl, inr, Bool, true, false, cond, List, [], ◌∷◌, ◌++◌, map, length, Option, Some, None, option_map, option_to_list, refl, sym, ap, ap₂, ◌∙◌, subst, subst₂, eqb-true, eq-eqb}
use Rattle.std.specs.Prelude.{◌==◌, unwrap_or, is_some}
use Rattle.std.proofs.lemmas.Bool.{cases_Bool, cond_both}
use Rattle.messages.specs.Framing.{message_of, frame_spelling}
use Rattle.powers.specs.Power.{proposer}
use Rattle.authenticators.specs.Ring.{Ring, outgoing}
use Rattle.protocol.specs.Values.{Value}
use Rattle.protocol.specs.Tags.{Setting, Validator, Client}
use Rattle.protocol.specs.declared.types.Step.{Step}
use Rattle.protocol.specs.declared.types.Step.TheVariants.{Propose, Prevote, Precommit}
use Rattle.protocol.specs.Messages.{◌∈◌, step_eq, Act, Proposing, Prevoting, Precommitting, Body, OfTx, OfProposal, OfVote, OfAsk, OfBundle, Record, Own, Decided, sender_of, body_of}
use Rattle.protocol.specs.declared.types.ValueAt.{ValueAt}
use Rattle.protocol.specs.State.{State, Node, Rule, Start, PrevoteFresh, PrevoteAgain, AwaitPrevotes, Lock, PrecommitNil, AwaitPrecommits, Decide, DecideByBundle, SkipRound, TimedOut}
use Rattle.protocol.specs.Rules.{saved, starts, proposal_of, times_out, released_by}
use Rattle.protocol.specs.Order.{enabled}
use Rattle.protocol.specs.Queues.{pick}
use Rattle.protocol.specs.Restart.{opened, own_since}
use Rattle.protocol.specs.Rings.{IsRingOf}
use Rattle.protocol.specs.Refusals.{context}
use Rattle.protocol.specs.Arrivals.{firing, replies, bundles_of}
use Rattle.protocol.specs.World.{Cut, run, tried, cut_record}
use Rattle.protocol.specs.History.{Input, Settle, Given, Due, first, firsts, taken, after}
use Rattle.protocol.specs.Effects.{bodies_of, bodies_taken, along, bodies_after}
use Rattle.protocol.specs.Laws.{call_events}
use Rattle.protocol.proofs.Arrivals.{come_cases, try_cases, cut_cases}
use Rattle.protocol.proofs.Membership.{in_append}
use Rattle.protocol.proofs.Replays.{history_law}
use Rattle.node_core.specs.Core.{Core, Stands, setting, setting_of, frame_by, or_empty}
use Rattle.node_core.specs.Calls.{IsCalled}
use Rattle.world_schedule.specs.Seeing.{AreAlike, ActsAlike}
use Rattle.world_schedule.specs.Calls.{Call, Sent, Began, Handed, Asked, Resent, Reopened, moved, lived}
use Rattle.world_schedule.specs.Cores.{AreOwn, StandsIn, frame_in, OwnLaw, IsCalledIn, CoreLaw, KeepsItsNode, KeptLaw, CalledLaw}
use Rattle.world_schedule.proofs.Seeing.{seeing_law}
use Rattle.world_schedule.proofs.Rings.{sends_with}
use Rattle.world_schedule.proofs.Runs.{holds_turned}

-- ---- the own setting

module _ (c : Setting) (p : ℕ) (ring : Ring) (k : IsRingOf c p ring) where
  from_validators : (i : ℕ) → i < length c.powers → (setting c.powers p ring).key (Validator i) p ≡ c.key (Validator i) p
  unfolding setting
  from_validators i l = elim (cases_Bool (i == p)) [
    | inl t ↦ (let e : i ≡ p = eqb-true i p t in let sent : outgoing ring p ≡ Some (c.key (Validator p) p) = sends_with c p ring k p (subst (λ j. j < length c.powers) e l) in
        rw t (ap or_empty sent ∙ ap (λ j. c.key (Validator j) p) (sym e)))
    | inr t ↦ rw t (ap or_empty (k.from_validators i l))
  ]

  to_validators : (q : ℕ) → q < length c.powers → (setting c.powers p ring).key (Validator p) q ≡ c.key (Validator p) q
  unfolding setting
  to_validators q l = rw (eq-eqb p p refl) (ap or_empty (sends_with c p ring k q l))

  is_some_if : (b : Bool) (key : List ℕ) → is_some (cond b (Some key) None) ≡ b
  is_some_if true key = refl
  is_some_if false key = refl

  clients : (i : ℕ) → (setting c.powers p ring).clients i ≡ c.clients i
  unfolding setting
  clients i = ap is_some (k.from_clients i) ∙ is_some_if (c.clients i) (c.key (Client i) p)

  from_clients : (i : ℕ) → (setting c.powers p ring).clients i ≡ true → (setting c.powers p ring).key (Client i) p ≡ c.key (Client i) p
  unfolding setting
  from_clients i t =
      let has : c.clients i ≡ true = sym (clients i) ∙ t in
      ap or_empty (k.from_clients i) ∙ ap (λ b. or_empty (cond b (Some (c.key (Client i) p)) None)) has

  powers_are : (setting c.powers p ring).powers ≡ c.powers
  unfolding setting
  powers_are = refl

  alike : AreAlike p (setting c.powers p ring) c
  alike = record {
    powers = powers_are;
    clients = clients;
    from_validators = λ i l. from_validators i (subst (λ ps. i < length ps) powers_are l);
    from_clients = from_clients;
    to_validators = λ q l. to_validators q (subst (λ ps. q < length ps) powers_are l);
  }

pub own_law : OwnLaw
own_law c p core o = subst₂ (λ powers me. AreAlike p (setting powers me core.ring) c) (sym o.powers) (sym o.me) (alike c p core.ring o.ring)

-- ---- decisions under the own number

abbrev OptionOwn : ℕ → Option Record → Type 0
OptionOwn p wrote = AreOwn p (option_to_list wrote)

starts_own : (c : Setting) (p : ℕ) (s : State) (r : ℕ) (picked : Value) → OptionOwn p (starts (context c p) s r picked)
starts_own c p s r picked = cond_both (proposer c.powers s.height r == p) _ _ (OptionOwn p) (λ _. by_value s.valid_value) (λ _. tt)
  where
    by_value : (o : Option ValueAt) → OptionOwn p (Some (proposal_of s r picked o))
    by_value None = tt
    by_value (Some l) = tt

timed_own : (c : Setting) (p : ℕ) (picked : Value) (s : State) (kind : Step) → OptionOwn p ((times_out s kind).saves (context c p) picked)
timed_own c p picked s Propose = tt
timed_own c p picked s Prevote = tt
timed_own c p picked s Precommit = starts_own c p s (suc s.round) picked

saved_own : (c : Setting) (p : ℕ) (picked : Value) (s : State) (k : Rule) → OptionOwn p (saved (context c p) picked s k)
saved_own c p picked s Start = starts_own c p s 0 picked
saved_own c p picked s (PrevoteFresh v) = tt
saved_own c p picked s (PrevoteAgain r v) = tt
saved_own c p picked s AwaitPrevotes = tt
saved_own c p picked s (Lock v) = cond_both (step_eq s.step Prevote) _ _ (OptionOwn p) (λ _. tt) (λ _. tt)
saved_own c p picked s PrecommitNil = tt
saved_own c p picked s AwaitPrecommits = tt
saved_own c p picked s (Decide r v) = (refl, tt)
saved_own c p picked s (DecideByBundle b) = (refl, tt)
saved_own c p picked s (SkipRound r) = starts_own c p s r picked
saved_own c p picked s (TimedOut t) = timed_own c p picked s t.kind

own_append : (p : ℕ) (more j : List Record) → AreOwn p more → AreOwn p j → AreOwn p (more ++ j)
own_append p [] j m a = a
own_append p (Decided b ∷ more) j m a = (m.0, own_append p more j m.1 a)
own_append p (Own h r act ∷ more) j m a = own_append p more j m a

firing_own : (c : Setting) (p : ℕ) (n : Node) (k : Rule) → AreOwn p n.journal → AreOwn p (firing c p n k).node.journal
firing_own c p n k a = own_append p (option_to_list (saved (context c p) (pick n.queues) n.state k)) n.journal (saved_own c p (pick n.queues) n.state k) a

tried_own : (c : Setting) (p : ℕ) (n : Node) (k : Rule) → AreOwn p n.journal → AreOwn p (tried c p n k).node.journal
tried_own c p n k a = try_cases c p n k (λ o. AreOwn p o.node.journal) a (λ _ _. firing_own c p n k a)

taken_own : (c : Setting) (p : ℕ) (n : Node) (input : Input) → AreOwn p n.journal → AreOwn p (taken c p n input).journal
taken_own c p n Settle a = a
taken_own c p n (Given bytes) a = come_cases c p n (message_of bytes) (λ o. AreOwn p o.node.journal) a (λ m b _ _ _. a) (λ m b _ _ _. firing_own c p n (DecideByBundle b) a)
taken_own c p n (Due t) a = tried_own c p n (TimedOut t) a

first_own : (c : Setting) (p : ℕ) (n : Node) → AreOwn p n.journal → AreOwn p (first c p n).journal
first_own c p n a = by_rule (enabled c.powers n.state)
  where
    by_rule : (o : Option Rule) → AreOwn p (unwrap_or (option_map (λ k. (firing c p n k).node) o) n).journal
    by_rule None = a
    by_rule (Some k) = firing_own c p n k a

firsts_own : (c : Setting) (p times : ℕ) (n : Node) → AreOwn p n.journal → AreOwn p (firsts c p times n).journal
firsts_own c p zero n a = a
firsts_own c p (suc times) n a = firsts_own c p times (first c p n) (first_own c p n a)

cut_own : (c : Setting) (p : ℕ) (n : Node) (cut : Option Cut) → AreOwn p (cut_record c p n cut)
cut_own c p n cut = cut_cases c p n cut (AreOwn p) tt (λ k _ _. saved_own c p (pick n.queues) n.state k)

pub found_own : (c : Setting) (p : ℕ) (n : Node) (cut : Option Cut) → AreOwn p n.journal → AreOwn p (cut_record c p n cut ++ n.journal)
found_own c p n cut a = own_append p (cut_record c p n cut) n.journal (cut_own c p n cut) a

moved_own : (c : Setting) (p : ℕ) (n : Node) (call : Call) → AreOwn p n.journal → AreOwn p (moved c p n call).journal
moved_own c p n (Sent client op) a = a
moved_own c p n (Began client) a = a
moved_own c p n (Handed q input times) a = cond_both (p == q) (after c p n input times) n (λ (m : Node). AreOwn p m.journal) (λ _. firsts_own c p times (taken c p n input) (taken_own c p n input a)) (λ _. a)
moved_own c p n (Asked q) a = a
moved_own c p n (Resent q) a = a
moved_own c p n (Reopened q cut) a = cond_both (p == q) (opened p (cut_record c p n cut ++ n.journal)) n (λ (m : Node). AreOwn p m.journal) (λ _. found_own c p n cut a) (λ _. a)

pub lived_own : (c : Setting) (p : ℕ) (n : Node) (calls : List Call) → AreOwn p n.journal → AreOwn p (lived c p n calls).journal
lived_own c p n [] a = a
lived_own c p n (call ∷ calls) a = lived_own c p (moved c p n call) calls (moved_own c p n call a)

-- ---- bodies of the own number

abbrev EachBy : ℕ → List Body → Type 0
EachBy p bodies = (b : Body) → b ∈ bodies → sender_of b ≡ Validator p

by_append : (p : ℕ) (xs ys : List Body) → EachBy p xs → EachBy p ys → EachBy p (xs ++ ys)
by_append p xs ys a b body i = elim (in_append body xs ys i) [ inl k ↦ a body k | inr k ↦ b body k ]

act_by : (p height round : ℕ) (act : Act) → sender_of (body_of p height round act) ≡ Validator p
act_by p height round (Proposing r v) = refl
act_by p height round (Prevoting x) = refl
act_by p height round (Precommitting v) = refl

one_by : (p : ℕ) (b : Body) → sender_of b ≡ Validator p → EachBy p (b ∷ [])
one_by p b e body (inl i) = ap sender_of i ∙ e
one_by p b e body (inr i) = absurd i

released_own : (p : ℕ) (wrote : Option Record) → EachBy p (option_to_list (released_by p wrote))
released_own p None = λ b i. absurd i
released_own p (Some (Decided d)) = λ b i. absurd i
released_own p (Some (Own h r act)) = one_by p (body_of p h r act) (act_by p h r act)

replies_own : (p height : ℕ) (j : List Record) → AreOwn p j → EachBy p (bundles_of height j)
replies_own p height [] a = λ b i. absurd i
replies_own p height (Own h r act ∷ j) a = replies_own p height j a
replies_own p height (Decided d ∷ j) a = cond_both (d.height == height) _ _ (EachBy p) (λ _. by_append p (OfBundle d ∷ []) (bundles_of height j) (one_by p (OfBundle d) (ap Validator a.0)) (replies_own p height j a.1)) (λ _. replies_own p height j a.1)

answer_own : (p : ℕ) (n : Node) (b : Body) → AreOwn p n.journal → EachBy p (replies n b)
answer_own p n (OfAsk q) a = replies_own p q.height n.journal a
answer_own p n (OfTx t) a = λ b i. absurd i
answer_own p n (OfProposal q) a = λ b i. absurd i
answer_own p n (OfVote v) a = λ b i. absurd i
answer_own p n (OfBundle d) a = λ b i. absurd i

bodies_own : (c : Setting) (p : ℕ) (n : Node) (k : Rule) → EachBy p (bodies_of c p n k)
bodies_own c p n k = released_own p (saved (context c p) (pick n.queues) n.state k)

input_own : (c : Setting) (p : ℕ) (n : Node) (input : Input) → AreOwn p n.journal → EachBy p (bodies_taken c p n input)
input_own c p n Settle a = λ b i. absurd i
input_own c p n (Given bytes) a = come_cases c p n (message_of bytes) (λ o. EachBy p o.out) (λ b i. absurd i) (λ m b _ _ _. answer_own p n b a) (λ m b _ _ _. bodies_own c p n (DecideByBundle b))
input_own c p n (Due t) a = try_cases c p n (TimedOut t) (λ o. EachBy p o.out) (λ b i. absurd i) (λ _ _. bodies_own c p n (TimedOut t))

along_own : (c : Setting) (p times : ℕ) (n : Node) → EachBy p (along (bodies_of c p) c p times n)
along_own c p zero n = λ b i. absurd i
along_own c p (suc times) n = by_append p _ _ (by_rule (enabled c.powers n.state)) (along_own c p times (first c p n))
  where
    by_rule : (o : Option Rule) → EachBy p (unwrap_or (option_map (bodies_of c p n) o) [])
    by_rule None = λ b i. absurd i
    by_rule (Some k) = bodies_own c p n k

call_own : (c : Setting) (p : ℕ) (n : Node) (input : Input) (times : ℕ) → AreOwn p n.journal → EachBy p (bodies_after c p n input times)
call_own c p n input times a = by_append p _ _ (input_own c p n input a) (along_own c p times (taken c p n input))

-- ---- frames

map_same : {X Y : Type 0} (f g : X → Y) (xs : List X) → ((x : X) → x ∈ xs → f x ≡ g x) → map f xs ≡ map g xs
map_same f g [] e = refl
map_same f g (x ∷ xs) e = ap₂ (λ y ys. y ∷ ys) (e x (inl refl)) (map_same f g xs (λ y i. e y (inr i)))

-- the own frames are the world's
frames_same : (c d : Setting) (p : ℕ) (bodies : List Body) → ActsAlike p c d → EachBy p bodies → map (frame_in c) bodies ≡ map (frame_in d) bodies
frames_same c d p bodies a own = map_same (frame_in c) (frame_in d) bodies (λ b i. ap frame_spelling (a.tagging b (own b i)))

-- ---- calls

-- by the core's own number
core_at : (c : Setting) (n : Node) (old : Core) → StandsIn c old.machine.me n old → (input : Input) (times : ℕ) (new : Core) → IsCalled n input times old new → IsCalledIn c old.machine.me n input times old new
core_at c n old s input times new k =
    let p : ℕ = old.machine.me in
    let d : Setting = setting_of old in
    let a = seeing_law p d c (own_law c p old s.own) in
    let powers : d.powers ≡ c.powers = (own_law c p old s.own).powers in
    let own : EachBy p (bodies_after c p n input times) = call_own c p n input times s.decided in record {
      named = λ i l. ap (λ (o : Node). is_some (enabled c.powers o.state)) (ap (firsts c p i) (sym (a.called.inputs n input)) ∙ sym (a.firing_rules.all_firsts i (taken d p n input))) ∙ ap (λ ps. is_some (enabled ps (firsts d p i (taken d p n input)).state)) (sym powers) ∙ k.named i l;
      stands = record {
        own = record { powers = k.same.powers ∙ s.own.powers; me = k.same.me; ring = subst (IsRingOf c p) (sym k.same.ring) s.own.ring };
        stands = subst (λ m. Stands m new) (a.called.calls n input times) k.stands;
        decided = firsts_own c p times (taken c p n input) (taken_own c p n input s.decided);
      };
      outgoing = k.outgoing ∙ ap (λ l. old.outgoing ++ l) (ap (map (frame_in d)) (a.called.bodies n input times) ∙ frames_same d c p (bodies_after c p n input times) a own);
      scheduled = k.scheduled ∙ ap (λ l. old.scheduled ++ l) (a.called.timeouts n input times);
      fired = k.fired;
    }

pub core_law : CoreLaw
core_law c p n old s input times new k =
    let e : p ≡ old.machine.me = sym s.own.me in
    subst (λ q. IsCalledIn c q n input times old new) (sym e) (core_at c n old (subst (λ q. StandsIn c q n old) e s) input times new k)

-- ---- what stays

-- what waits to be taken, and the count of firings, tell of no node
beside_stands : (c : Setting) (p : ℕ) (n : Node) (old new : Core) → StandsIn c p n old → KeepsItsNode old new → StandsIn c p n new
beside_stands c p n old new s b =
    let other : Core = record old { outgoing = new.outgoing; scheduled = new.scheduled; fired = new.fired } in
    let same : other ≡ new = λ i. record {
      machine = sym b.machine i;
      ring = sym b.ring i;
      queues = sym b.queues i;
      decisions = sym b.decisions i;
      said = sym b.said i;
      journal = sym b.journal i;
      outgoing = new.outgoing;
      scheduled = new.scheduled;
      fired = new.fired;
    } in
    subst (StandsIn c p n) same (record {
      own = record { powers = s.own.powers; me = s.own.me; ring = s.own.ring };
      stands = record { state = s.stands.state; queues = s.stands.queues; decisions = s.stands.decisions; said = s.stands.said; journal = s.stands.journal };
      decided = s.decided;
    })

-- nor does a journal that has failed
broken_stands : (c : Setting) (p : ℕ) (n : Node) (old new : Core) → StandsIn c p n old → new ≡ record old { journal = new.journal; fired = 0 } → new.journal.failed ≡ true → StandsIn c p n new
broken_stands c p n old new s e failed =
    subst (StandsIn c p n) (sym e) (record {
      own = record { powers = s.own.powers; me = s.own.me; ring = s.own.ring };
      stands = record { state = s.stands.state; queues = s.stands.queues; decisions = s.stands.decisions; said = s.stands.said; journal = λ works. absurd (let f : true ≡ false = sym failed ∙ works in cc) };
      decided = s.decided;
    })

ask_of : ℕ → ℕ → Body
ask_of height p = OfAsk (record { height = height; sender = p })

-- the own messages of the height are of the own number
since_own : (p : ℕ) (j : List Record) → EachBy p (own_since p j)
since_own p [] = λ b i. absurd i
since_own p (Decided d ∷ j) = λ b i. absurd i
since_own p (Own h r act ∷ j) = by_append p (own_since p j) (body_of p h r act ∷ []) (since_own p j) (one_by p (body_of p h r act) (act_by p h r act))

pub kept_law : KeptLaw
kept_law c p = record {
  first = λ core o s. record { own = o; stands = s; decided = tt };
  beside = beside_stands c p;
  unchanged = λ n old new s u. beside_stands c p n old new s (record { machine = ap (λ (k : Core). k.machine) u; ring = ap (λ (k : Core). k.ring) u; queues = ap (λ (k : Core). k.queues) u; decisions = ap (λ (k : Core). k.decisions) u; said = ap (λ (k : Core). k.said) u; journal = ap (λ (k : Core). k.journal) u });
  broken = broken_stands c p;
  asked = asked;
  resent = resent;
  quiet = λ n core s q. subst₂ (λ ps t. enabled ps t ≡ None) s.own.powers s.stands.state q;
}
  where
    resent : (n : Node) (core : Core) → StandsIn c p n core → map (frame_by core) (own_since core.machine.me n.journal) ≡ map (frame_in c) (own_since p n.journal)
    resent n core s = ap (λ me. map (frame_by core) (own_since me n.journal)) s.own.me ∙ frames_same (setting_of core) c p (own_since p n.journal) (seeing_law p (setting_of core) c (own_law c p core s.own)) (since_own p n.journal)

    asked : (n : Node) (core : Core) → StandsIn c p n core → frame_by core (OfAsk (record { height = core.machine.state.height; sender = core.machine.me })) ≡ frame_in c (OfAsk (record { height = n.state.height; sender = p }))
    asked n core s =
        let a = seeing_law p (setting_of core) c (own_law c p core s.own) in
        ap₂ (λ height me. frame_by core (OfAsk (record { height = height; sender = me }))) (ap (λ (t : State). t.height) s.stands.state) s.own.me
        ∙ ap frame_spelling (a.tagging (OfAsk (record { height = n.state.height; sender = p })) refl)

-- ---- events

pub called_law : CalledLaw
called_law c w p input times old new s k =
    let l = history_law c w p input times in
    let i = core_law c p (w.nodes p) old s input times new k in record {
      node = l.node;
      others = l.others;
      sent = l.sent;
      stands = subst (λ n. StandsIn c p n new) (sym l.node) i.stands;
      released = λ b. holds_turned b (run c w (call_events c p (w.nodes p) input times)).released (along (bodies_of c p) c p times (taken c p (w.nodes p) input)) (bodies_taken c p (w.nodes p) input) w.released l.released_are;
    }

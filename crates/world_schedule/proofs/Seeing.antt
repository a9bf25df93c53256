-- Settings that a validator sees alike move its node alike.
use Rattle.std.proofs.Common.{◌≡◌, ℕ, zero, suc, ◌<◌, inl, inr, Bool, true, cond, not, ◌&&◌, Option, Some, None, List, [], ◌∷◌, ◌++◌, length, map, flat_map, ap₂, refl, sym, ◌∙◌, ap, subst, arith, option_map, Result, Ok, Err, find, option_to_list}
use Rattle.std.specs.Prelude.{◌==◌, nat_lt, unwrap_or, is_none}
use Rattle.std.proofs.Math.Path.{fun_ext}
use Rattle.std.specs.List.{list_all, list_any}
use Rattle.std.proofs.lemmas.Bool.{cases_Bool}
use Rattle.std.proofs.lemmas.Bool.Decides.{nat_tests}
use Rattle.std.proofs.lemmas.List.{map-append}
use Rattle.std.proofs.lemmas.Grind.{flat_map-append}
use Rattle.powers.specs.Power.{power}
use Rattle.powers.proofs.Quorums.{power_agrees}
use Rattle.transactions.specs.declared.fault.Fault.{Fault}
use Rattle.messages.specs.Grammar.{body_spelling}
use Rattle.messages.specs.Framing.{message_of}
use Rattle.protocol.specs.Values.{Tx, Value, Id}
use Rattle.protocol.specs.Tags.{Setting, Party, Validator, Client, right, is_right, tx_is_right, genuine, hmac}
use Rattle.protocol.specs.Messages.{Bundle, Body, OfTx, OfProposal, OfVote, OfAsk, OfBundle, Message, Record, sender_of, tagged, below, precommit}
use Rattle.protocol.specs.declared.types.Step.{Step}
use Rattle.protocol.specs.declared.types.Step.TheVariants.{Propose, Prevote, Precommit}
use Rattle.protocol.specs.State.{Context, State, Node, Rule, Start, PrevoteFresh, PrevoteAgain, AwaitPrevotes, Lock, PrecommitNil, AwaitPrecommits, Decide, DecideByBundle, SkipRound, TimedOut}
use Rattle.protocol.specs.Rules.{holds, saved, scheduled, times_out, keeping_own, changed, released_by}
use Rattle.protocol.specs.Order.{enabled}
use Rattle.protocol.specs.Queues.{pick}
use Rattle.protocol.specs.Refusals.{context, bundle_senders, certified, is_vouching, Refusal, first_cause, causes, tagged_tx, bundle_causes, refusal_of}
use Rattle.protocol.specs.Arrivals.{Outcome, nothing, firing, received, arrival_of, queues_after}
use Rattle.protocol.specs.World.{Fires, Cut, InArrival, InFiring, tried, cut_record, is_bundles}
use Rattle.protocol.specs.History.{Input, Settle, Given, Due, first, firsts, taken}
use Rattle.protocol.specs.Effects.{bodies_of, timeouts_of, bodies_taken, timeouts_taken, along}
use Rattle.protocol.specs.Laws.{events_of}
use Rattle.world_schedule.specs.Seeing.{ActsAlike, SeeingLaw}

-- ---- lists below a number

map_below : {X : Type 0} (n : ℕ) (f g : ℕ → X) → ((i : ℕ) → i < n → f i ≡ g i) → map f (below n) ≡ map g (below n)
unfolding below
map_below zero f g e = refl
map_below (suc n) f g e =
    let earlier : map f (below n) ≡ map g (below n) = map_below n f g (λ i l. e i (omega arith)) in
    let last : f n ≡ g n = e n (omega arith) in
    map-append f (below n) (n ∷ []) ∙ ap₂ (λ xs x. xs ++ x ∷ []) earlier last ∙ sym (map-append g (below n) (n ∷ []))

flat_map_below : {X : Type 0} (n : ℕ) (f g : ℕ → List X) → ((i : ℕ) → i < n → f i ≡ g i) → flat_map f (below n) ≡ flat_map g (below n)
unfolding below
flat_map_below zero f g e = refl
flat_map_below (suc n) f g e =
    let earlier : flat_map f (below n) ≡ flat_map g (below n) = flat_map_below n f g (λ i l. e i (omega arith)) in
    let last : f n ≡ g n = e n (omega arith) in
    flat_map-append f (below n) (n ∷ []) ∙ ap₂ (λ xs ys. xs ++ (ys ++ [])) earlier last ∙ sym (flat_map-append g (below n) (n ∷ []))

-- ---- other keys, of which the validator sees none

-- the setting with these keys
abbrev with_keys : Setting → (Party → ℕ → List ℕ) → Setting
with_keys c key = record c { key = key }

record HasKeys (p : ℕ) (c : Setting) (key : Party → ℕ → List ℕ) : Type 0 where
  from_validators : (i : ℕ) → i < length c.powers → c.key (Validator i) p ≡ key (Validator i) p
  from_clients : (i : ℕ) → c.clients i ≡ true → c.key (Client i) p ≡ key (Client i) p
  to_validators : (q : ℕ) → q < length c.powers → c.key (Validator p) q ≡ key (Validator p) q

module _ (p : ℕ) (c : Setting) (key : Party → ℕ → List ℕ) (a : HasKeys p c key) where
  abbrev d : Setting
  d = with_keys c key

  -- ---- tags

  right_alike : (i : ℕ) (body : List ℕ) (tags : List (List ℕ)) → i < length c.powers → right c p (Validator i) body tags ≡ right d p (Validator i) body tags
  unfolding right
  right_alike i body tags l = ap (λ k. is_right (length c.powers) k p body tags) (a.from_validators i l)

  tx_alike : (t : Tx) → tx_is_right c p t ≡ tx_is_right d p t
  unfolding tx_is_right right
  tx_alike t = elim (cases_Bool (c.clients t.client)) [
    | inl e ↦ rw (e, a.from_clients t.client e) refl
    | inr e ↦ rw e refl
  ]

  genuine_alike : genuine c p ≡ genuine d p
  unfolding genuine
  genuine_alike = fun_ext (λ v. ap (λ f. list_all f v.txs) (fun_ext tx_alike))

  vouching_alike : (b : Bundle) (i : ℕ) → i < length c.powers → is_vouching c p b i ≡ is_vouching d p b i
  vouching_alike b i l = fun_ext (λ s. ap (λ r. (s.sender == i) && r) (right_alike i (body_spelling (OfVote (precommit b.height b.round i (Some b.id)))) s.tags l))

  senders_alike : (b : Bundle) (i : ℕ) → i < length c.powers → bundle_senders c p b i ≡ bundle_senders d p b i
  unfolding bundle_senders
  senders_alike b i l = ap (λ f. list_any f b.precommits) (vouching_alike b i l)

  power_alike : (b : Bundle) → power c.powers (bundle_senders c p b) ≡ power c.powers (bundle_senders d p b)
  power_alike b = power_agrees c.powers (bundle_senders c p b) (bundle_senders d p b) (senders_alike b)

  certified_alike : certified c p ≡ certified d p
  unfolding certified
  certified_alike = fun_ext (λ b. flat_map_below (length c.powers) (λ i. option_to_list (find (is_vouching c p b i) b.precommits)) (λ i. option_to_list (find (is_vouching d p b i) b.precommits))
      (λ i l. ap (λ f. option_to_list (find f b.precommits)) (vouching_alike b i l)))

  tagged_alike : (b : Body) → sender_of b ≡ Validator p → tagged c b ≡ tagged d b
  unfolding tagged
  tagged_alike b e = ap (λ tags. record { body = b; tags = tags }) (map_below (length c.powers) (λ q. hmac (c.key (sender_of b) q) (body_spelling b)) (λ q. hmac (key (sender_of b) q) (body_spelling b))
      (λ q l. ap (λ k. hmac k (body_spelling b)) (subst (λ from. c.key from q ≡ key from q) (sym e) (a.to_validators q l))))

  -- ---- rules

  -- the context with these vouchers
  abbrev near : (Bundle → ℕ → Bool) → Context
  near vouches = record (context c p) { vouches = vouches }

  context_alike : near (bundle_senders d p) ≡ context d p
  context_alike =
      let tags : (λ (height round : ℕ) (x : Id). (tagged c (OfVote (precommit height round p (Some x)))).tags) ≡ (λ (height round : ℕ) (x : Id). (tagged d (OfVote (precommit height round p (Some x)))).tags)
      = fun_ext (λ height. fun_ext (λ round. fun_ext (λ x. ap (λ (m : Message). m.tags) (tagged_alike (OfVote (precommit height round p (Some x))) refl)))) in
      λ i. record { powers = c.powers; me = p; genuine = genuine_alike i; vouches = bundle_senders d p; certified = certified_alike i; own_tags = tags i }

  holds_near : (s : State) (k : Rule) → holds (context c p) s k ≡ holds (near (bundle_senders d p)) s k
  holds_near s Start = refl
  holds_near s (PrevoteFresh v) = refl
  holds_near s (PrevoteAgain r v) = refl
  holds_near s AwaitPrevotes = refl
  holds_near s (Lock v) = refl
  holds_near s PrecommitNil = refl
  holds_near s AwaitPrecommits = refl
  holds_near s (Decide r v) = refl
  holds_near s (DecideByBundle b) = rw (power_alike b) refl
  holds_near s (SkipRound r) = refl
  holds_near s (TimedOut t) = refl

  holds_alike : (s : State) (k : Rule) → holds (context c p) s k ≡ holds (context d p) s k
  holds_alike s k = holds_near s k ∙ ap (λ g. holds g s k) context_alike

  timed_saved : (vouches : Bundle → ℕ → Bool) (picked : Value) (s : State) (kind : Step) → (times_out s kind).saves (context c p) picked ≡ (times_out s kind).saves (near vouches) picked
  timed_saved vouches picked s Propose = refl
  timed_saved vouches picked s Prevote = refl
  timed_saved vouches picked s Precommit = refl

  saved_near : (vouches : Bundle → ℕ → Bool) (picked : Value) (s : State) (k : Rule) → saved (context c p) picked s k ≡ saved (near vouches) picked s k
  saved_near vouches picked s Start = refl
  saved_near vouches picked s (PrevoteFresh v) = refl
  saved_near vouches picked s (PrevoteAgain r v) = refl
  saved_near vouches picked s AwaitPrevotes = refl
  saved_near vouches picked s (Lock v) = refl
  saved_near vouches picked s PrecommitNil = refl
  saved_near vouches picked s AwaitPrecommits = refl
  saved_near vouches picked s (Decide r v) = refl
  saved_near vouches picked s (DecideByBundle b) = refl
  saved_near vouches picked s (SkipRound r) = refl
  saved_near vouches picked s (TimedOut t) = timed_saved vouches picked s t.kind

  saved_alike : (picked : Value) (s : State) (k : Rule) → saved (context c p) picked s k ≡ saved (context d p) picked s k
  saved_alike picked s k = saved_near (bundle_senders d p) picked s k ∙ ap (λ g. saved g picked s k) context_alike

  timed_scheduled : (vouches : Bundle → ℕ → Bool) (s : State) (kind : Step) → (times_out s kind).schedules (context c p) ≡ (times_out s kind).schedules (near vouches)
  timed_scheduled vouches s Propose = refl
  timed_scheduled vouches s Prevote = refl
  timed_scheduled vouches s Precommit = refl

  scheduled_near : (vouches : Bundle → ℕ → Bool) (s : State) (k : Rule) → scheduled (context c p) s k ≡ scheduled (near vouches) s k
  scheduled_near vouches s Start = refl
  scheduled_near vouches s (PrevoteFresh v) = refl
  scheduled_near vouches s (PrevoteAgain r v) = refl
  scheduled_near vouches s AwaitPrevotes = refl
  scheduled_near vouches s (Lock v) = refl
  scheduled_near vouches s PrecommitNil = refl
  scheduled_near vouches s AwaitPrecommits = refl
  scheduled_near vouches s (Decide r v) = refl
  scheduled_near vouches s (DecideByBundle b) = refl
  scheduled_near vouches s (SkipRound r) = refl
  scheduled_near vouches s (TimedOut t) = timed_scheduled vouches s t.kind

  scheduled_alike : (s : State) (k : Rule) → scheduled (context c p) s k ≡ scheduled (context d p) s k
  scheduled_alike s k = scheduled_near (bundle_senders d p) s k ∙ ap (λ g. scheduled g s k) context_alike

  -- a firing, by what it saves
  abbrev fired_by : Node → Rule → Option Record → Outcome
  fired_by n k wrote =
      let s = keeping_own (changed n.state k) (released_by p wrote) in
      record { node = record n { state = s; queues = queues_after s k n.queues; journal = option_to_list wrote ++ n.journal }; wrote = wrote; out = option_to_list (released_by p wrote) }

  firing_alike : (n : Node) (k : Rule) → firing c p n k ≡ firing d p n k
  firing_alike n k = ap (fired_by n k) (saved_alike (pick n.queues) n.state k)

  tried_alike : (n : Node) (k : Rule) → tried c p n k ≡ tried d p n k
  tried_alike n k = ap₂ (λ t (o : Outcome). cond (not (is_bundles k) && t) o (nothing n)) (holds_alike n.state k) (firing_alike n k)

  -- ---- what comes

  -- of the causes against a sender, a wrong tag is told of a known one alone
  sender_alike : {R : Type 0} (i : ℕ) (body : List ℕ) (tags : List (List ℕ)) (unknown bad : R) (rest : Option R)
      → cond (not (nat_lt i (length c.powers))) (Some unknown) (cond (not (right c p (Validator i) body tags)) (Some bad) rest)
      ≡ cond (not (nat_lt i (length c.powers))) (Some unknown) (cond (not (right d p (Validator i) body tags)) (Some bad) rest)
  sender_alike i body tags unknown bad rest = elim (cases_Bool (nat_lt i (length c.powers))) [
    | inl e ↦ ap (λ r. cond (not (nat_lt i (length c.powers))) (Some unknown) (cond (not r) (Some bad) rest)) (right_alike i body tags (nat_lt_less i (length c.powers) e))
    | inr e ↦ rw e refl
  ]
    where
      nat_lt_less : (i n : ℕ) → nat_lt i n ≡ true → i < n
      nat_lt_less i n e = grind (arith, nat_tests)

  bundle_causes_alike : (s : State) (b : Bundle) → first_cause (bundle_causes c p s b) ≡ first_cause (bundle_causes d p s b)
  bundle_causes_alike s b = rw (power_alike b) refl

  causes_alike : (n : Node) (m : Message) (b : Body) → first_cause (causes c p n m b) ≡ first_cause (causes d p n m b)
  causes_alike n m (OfTx t) = rw (tx_alike (tagged_tx t m)) refl
  causes_alike n m (OfProposal q) = sender_alike q.sender _ _ _ _ _
  causes_alike n m (OfVote v) = sender_alike v.sender _ _ _ _ _
  causes_alike n m (OfAsk q) = sender_alike q.sender _ _ _ _ _
  causes_alike n m (OfBundle b) = rw (power_alike b) (sender_alike b.sender _ _ _ _ _)

  refusal_alike : (n : Node) (r : Result Message Fault) → refusal_of c p n r ≡ refusal_of d p n r
  refusal_alike n (Err fault) = refl
  refusal_alike n (Ok m) = causes_alike n m m.body

  received_alike : (n : Node) (m : Message) (b : Body) → received c p n m b ≡ received d p n m b
  received_alike n m (OfBundle b) = firing_alike n (DecideByBundle b)
  received_alike n m (OfTx t) = refl
  received_alike n m (OfProposal q) = refl
  received_alike n m (OfVote v) = refl
  received_alike n m (OfAsk q) = refl

  comes_alike : (n : Node) (r : Result Message Fault) → arrival_of c p n r ≡ arrival_of d p n r
  comes_alike n (Err fault) = refl
  comes_alike n (Ok m) = ap₂ (λ (r : Option Refusal) (o : Outcome). cond (is_none r) o (nothing n)) (refusal_alike n (Ok m)) (received_alike n m m.body)

  cut_alike : (n : Node) (cut : Option Cut) → cut_record c p n cut ≡ cut_record d p n cut
  cut_alike n None = refl
  cut_alike n (Some (InArrival bytes)) = ap (λ (o : Outcome). option_to_list o.wrote) (comes_alike n (message_of bytes))
  cut_alike n (Some (InFiring k)) = ap (λ (o : Outcome). option_to_list o.wrote) (tried_alike n k)

  -- ---- calls

  abbrev first_by : Node → Option Rule → (Rule → Outcome) → Node
  first_by n named give = unwrap_or (option_map (λ k. (give k).node) named) n

  first_alike : (n : Node) → first c p n ≡ first d p n
  first_alike n = ap (first_by n (enabled c.powers n.state)) (fun_ext (firing_alike n))

  firsts_alike : (times : ℕ) (n : Node) → firsts c p times n ≡ firsts d p times n
  firsts_alike zero n = refl
  firsts_alike (suc times) n = firsts_alike times (first c p n) ∙ ap (firsts d p times) (first_alike n)

  abbrev given_by : {X : Type 0} → Option Rule → (Rule → List X) → List X
  given_by named give = unwrap_or (option_map give named) []

  along_alike : {X : Type 0} (give other : Node → Rule → List X) → ((n : Node) (k : Rule) → give n k ≡ other n k) → (times : ℕ) (n : Node) → along give c p times n ≡ along other d p times n
  along_alike give other e zero n = refl
  along_alike give other e (suc times) n = ap₂ (λ xs ys. xs ++ ys) (ap (given_by (enabled c.powers n.state)) (fun_ext (e n))) (along_alike give other e times (first c p n) ∙ ap (along other d p times) (first_alike n))

  bodies_alike : (n : Node) (k : Rule) → bodies_of c p n k ≡ bodies_of d p n k
  bodies_alike n k = ap (λ (o : Outcome). o.out) (firing_alike n k)

  timeouts_alike : (n : Node) (k : Rule) → timeouts_of c p n k ≡ timeouts_of d p n k
  timeouts_alike n k = ap option_to_list (scheduled_alike n.state k)

  input_alike : (n : Node) (input : Input) → taken c p n input ≡ taken d p n input
  input_alike n Settle = refl
  input_alike n (Given bytes) = ap (λ (o : Outcome). o.node) (comes_alike n (message_of bytes))
  input_alike n (Due t) = ap (λ (o : Outcome). o.node) (tried_alike n (TimedOut t))

  bodies_taken_alike : (n : Node) (input : Input) → bodies_taken c p n input ≡ bodies_taken d p n input
  bodies_taken_alike n Settle = refl
  bodies_taken_alike n (Given bytes) = ap (λ (o : Outcome). o.out) (comes_alike n (message_of bytes))
  bodies_taken_alike n (Due t) = ap (λ (o : Outcome). o.out) (tried_alike n (TimedOut t))

  timeouts_taken_alike : (n : Node) (input : Input) → timeouts_taken c p n input ≡ timeouts_taken d p n input
  timeouts_taken_alike n Settle = refl
  timeouts_taken_alike n (Given bytes) = refl
  timeouts_taken_alike n (Due t) = ap₂ (λ b ts. cond b ts []) (holds_alike n.state (TimedOut t)) (timeouts_alike n (TimedOut t))

  -- a list along the firings after an input
  along_after : {X : Type 0} (give other : Node → Rule → List X) → ((n : Node) (k : Rule) → give n k ≡ other n k) → (n : Node) (input : Input) (times : ℕ) → along give c p times (taken c p n input) ≡ along other d p times (taken d p n input)
  along_after give other e n input times = along_alike give other e times (taken c p n input) ∙ ap (along other d p times) (input_alike n input)

  acts_alike : ActsAlike p c d
  acts_alike = record {
    answering = record {
      answers = λ n bytes. refusal_alike n (message_of bytes);
      arrivals = λ n bytes. comes_alike n (message_of bytes);
    };
    firing_rules = record {
      holding = holds_alike;
      firings = firing_alike;
      tries = tried_alike;
      cuts = cut_alike;
      each_first = first_alike;
      all_firsts = firsts_alike;
      releases = along_alike (bodies_of c p) (bodies_of d p) bodies_alike;
      schedules = along_alike (timeouts_of c p) (timeouts_of d p) timeouts_alike;
    };
    called = record {
      inputs = input_alike;
      bodies_of_inputs = bodies_taken_alike;
      timeouts_of_inputs = timeouts_taken_alike;
      calls = λ n input times. firsts_alike times (taken c p n input) ∙ ap (firsts d p times) (input_alike n input);
      bodies = λ n input times. ap₂ (λ xs ys. xs ++ ys) (bodies_taken_alike n input) (along_after (bodies_of c p) (bodies_of d p) bodies_alike n input times);
      timeouts = λ n input times. ap₂ (λ xs ys. xs ++ ys) (timeouts_taken_alike n input) (along_after (timeouts_of c p) (timeouts_of d p) timeouts_alike n input times);
      events = λ n input times. ap (λ ks. events_of p input ++ map (Fires p) ks) (along_after (λ m k. k ∷ []) (λ m k. k ∷ []) (λ m k. refl) n input times);
    };
    tagging = tagged_alike;
  }

-- the same powers and clients, by other names
pub seeing_law : SeeingLaw
seeing_law p c d a =
    let same : with_keys c d.key ≡ d = λ i. record { powers = a.powers i; clients = fun_ext a.clients i; key = d.key } in
    let k : HasKeys p c d.key = record { from_validators = a.from_validators; from_clients = a.from_clients; to_validators = a.to_validators } in
    subst (ActsAlike p c) same (acts_alike p c d.key k)

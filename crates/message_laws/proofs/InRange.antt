-- What a validator keeps and saves has a spelling, whatever came: over each rule, arrival and restart.
use Rattle.std.proofs.Common.{◌≡◌, ℕ, zero, suc, ◌^◌, ◌<◌, ◌≤◌, inl, inr, Bool, true, false, cond, not, Option, Some, None, List, [], ◌∷◌, ◌++◌, All, length, map, find, flat_map, refl, sym, ◌∙◌, ap, subst, arith, eqb-true, option_to_list}
use Rattle.std.specs.Prelude.{◌==◌, is_none, nat_lt, unwrap_or}
use Rattle.std.proofs.lemmas.Bool.{and_parts, cond_both, ltb-true, not-false}
use Rattle.std.proofs.lemmas.List.Elements.{All-from_recursion}
use Rattle.powers.specs.Power.{proposer}
use Rattle.sha2.proofs.Facts256.{length-sha256}
use Rattle.transactions.specs.Grammar.{IsTx, IsTxBody, IsValue, AreTags}
use Rattle.transactions.proofs.Equality.{value_eq_decides}
use Rattle.messages.specs.Grammar.{IsContent, IsProposal, IsVote, IsPrecommit, IsBundle, IsBody}
use Rattle.protocol.specs.Values.{Id, Tx, Value, Item, id}
use Rattle.protocol.specs.Tags.{Setting}
use Rattle.protocol.specs.Messages.{◌∈◌, step_eq, step_of_vote, Signed, Proposal, Vote, Bundle, Body, OfTx, OfProposal, OfVote, OfAsk, OfBundle, Message, Act, Proposing, Prevoting, Precommitting, Record, Own, Decided, body_of, precommit, below, tagged}
use Rattle.protocol.specs.Tally.{senders, is_vote_for}
use Rattle.protocol.specs.declared.types.Step.{Step}
use Rattle.protocol.specs.declared.types.Step.TheVariants.{Propose, Prevote, Precommit}
use Rattle.protocol.specs.declared.types.ValueAt.{ValueAt}
use Rattle.protocol.specs.declared.types.Stamp.{Stamp}
use Rattle.protocol.specs.declared.types.Timeout.{Timeout}
use Rattle.protocol.specs.State.{State, Node, Queue, Rule, Start, PrevoteFresh, PrevoteAgain, AwaitPrevotes, Lock, PrecommitNil, AwaitPrecommits, Decide, DecideByBundle, SkipRound, TimedOut}
use Rattle.protocol.specs.Rules.{holds, holds_timed, saved, changed, keeping_own, released_by, started, starts, proposal_of, is_proposed, weak_at, times_out, certificate, signed_by, is_stamp, content_if, decided}
use Rattle.protocol.specs.Restart.{restart, opened, height_of, last_place, own_since, proposals_in, votes_in}
use Rattle.protocol.specs.Queues.{pick, all_waiting, drop_delivered}
use Rattle.protocol.specs.Refusals.{context, certified, is_vouching, tagged_tx}
use Rattle.protocol.specs.Arrivals.{firing, taken_in, kept_message, queued_message, stamp_of, replies, bundles_of, is_decision}
use Rattle.protocol.specs.Laws.{Grows}
use Rattle.protocol.proofs.Asked.{asked}
use Rattle.protocol.proofs.Membership.{in_append, in_map, in_flat_map, any_found, found_in, each_pushed}
use Rattle.protocol.proofs.Order.{weak_round}
use Rattle.protocol.proofs.Tagging.{tagged_tags}
use Rattle.protocol.proofs.Local.{IsTied, fired_tied, kept_tied, restart_tied}
use Rattle.mempool.proofs.Kept.{each_queued, each_left, pick_spelled}
use Rattle.message_laws.proofs.Lists.{each_in, each_from, few_joined, length-below, below_less}

-- ---- what fits

abbrev pub If : {X : Type 0} → (X → Type 0) → Option X → Type 0
If P None = Unit {0}
If P (Some x) = P x

pub record FoundFits (l : ValueAt) : Type 0 where
  pub round : l.round ≤ 1000000
  pub value : IsValue l.value

pub record ProposalFits (q : Proposal) : Type 0 where
  pub round : q.round ≤ 1000000
  pub value : IsValue q.value

abbrev pub ActFits : Act → Type 0
ActFits (Proposing None v) = IsValue v
ActFits (Proposing (Some r) v) = FoundFits (record { round = r; value = v })
ActFits (Prevoting x) = IsContent x
ActFits (Precommitting v) = Unit {0}

pub record OwnFits (h r : ℕ) (said : Act) : Type 0 where
  pub height : h ≤ 2 ^ 48
  pub round : r ≤ 1000000
  pub act : ActFits said

abbrev pub RecordFits : Record → Type 0
RecordFits (Own h r act) = OwnFits h r act
RecordFits (Decided b) = IsBundle b

-- the variables of which something is said
pub record Fits (h r : ℕ) (o : Option ValueAt) (qs : List Proposal) (vs : List Vote) (zs : List Stamp) : Type 0 where
  pub height : h ≤ 2 ^ 48
  pub round : r ≤ 1000000
  pub found : If FoundFits o
  pub proposals : (q : Proposal) → q ∈ qs → ProposalFits q
  pub votes : (v : Vote) → v ∈ vs → v.round ≤ 1000000
  pub stamps : (z : Stamp) → z ∈ zs → IsPrecommit z.signed

abbrev pub StateFits : State → Type 0
StateFits s = Fits s.height s.round s.valid_value s.proposals s.votes s.stamps

pub record NodeFits (n : Node) : Type 0 where
  pub state : StateFits n.state
  pub queues : All IsTx (all_waiting n.queues)
  pub journal : (r : Record) → r ∈ n.journal → RecordFits r
  pub tied : IsTied n

-- a bundle's rule fires as its bytes come
abbrev pub RuleFits : Rule → Type 0
RuleFits (DecideByBundle b) = IsBundle b
RuleFits _ = Unit {0}

-- ---- an own message

length-id : (v : Value) → length (id v) ≡ 32
unfolding id
length-id v = length-sha256 _

content_fits : (b : Bool) (v : Value) → IsContent (content_if b v)
content_fits true v = length-id v
content_fits false v = tt

-- a body within the limit of rounds
abbrev pub IsWithin : Body → Type 0
IsWithin (OfProposal q) = q.round ≤ 1000000
IsWithin (OfVote v) = v.round ≤ 1000000
IsWithin _ = Unit {0}

vote_fits : (v : Vote) → v.height ≤ 2 ^ 48 → v.round ≤ 1000000 → v.sender < 2 ^ 16 → IsContent v.content → IsVote v
vote_fits v height round sender content = record { height = omega (arith, height); round = omega (arith, round); sender = sender; content = content }

module _ (p : ℕ) (small : p < 2 ^ 16) where
  pub own_fits : (h r : ℕ) (act : Act) → OwnFits h r act → IsBody (body_of p h r act)
  own_fits h r (Proposing None v) k = record { height = omega (arith, k.height); round = omega (arith, k.round); sender = small; valid_round = omega arith; value = k.act }
  own_fits h r (Proposing (Some vr) v) k = record { height = omega (arith, k.height); round = omega (arith, k.round); sender = small; valid_round = omega (arith, k.act.round); value = k.act.value }
  own_fits h r (Prevoting x) k = vote_fits _ k.height k.round small k.act
  own_fits h r (Precommitting None) k = vote_fits _ k.height k.round small tt
  own_fits h r (Precommitting (Some v)) k = vote_fits _ k.height k.round small (length-id v)

  own_within : (h r : ℕ) (act : Act) → OwnFits h r act → IsWithin (body_of p h r act)
  own_within h r (Proposing vr v) k = k.round
  own_within h r (Prevoting x) k = k.round
  own_within h r (Precommitting v) k = k.round

  pub released_fits : (o : Option Record) → If RecordFits o → (b : Body) → b ∈ option_to_list (released_by p o) → IsBody b
  released_fits None k b i = absurd i
  released_fits (Some (Decided d)) k b i = absurd i
  released_fits (Some (Own h r act)) k b (inl e) = subst IsBody (sym e) (own_fits h r act k)
  released_fits (Some (Own h r act)) k b (inr none) = absurd none

  -- the own messages since the last decision
  pub since_fits : (j : List Record) → ((r : Record) → r ∈ j → RecordFits r) → (b : Body) → b ∈ own_since p j → IsBody b
  since_fits [] k b i = absurd i
  since_fits (Decided d ∷ j) k b i = absurd i
  since_fits (Own h r act ∷ j) k b i = elim (in_append b (own_since p j) (body_of p h r act ∷ []) i) [
    | inl l ↦ since_fits j (λ x m. k x (inr m)) b l
    | inr (inl e) ↦ subst IsBody (sym e) (own_fits h r act (k (Own h r act) (inl refl)))
    | inr (inr none) ↦ absurd none
  ]

  since_within : (j : List Record) → ((r : Record) → r ∈ j → RecordFits r) → (b : Body) → b ∈ own_since p j → IsWithin b
  since_within [] k b i = absurd i
  since_within (Decided d ∷ j) k b i = absurd i
  since_within (Own h r act ∷ j) k b i = elim (in_append b (own_since p j) (body_of p h r act ∷ []) i) [
    | inl l ↦ since_within j (λ x m. k x (inr m)) b l
    | inr (inl e) ↦ subst IsWithin (sym e) (own_within h r act (k (Own h r act) (inl refl)))
    | inr (inr none) ↦ absurd none
  ]

  kept_proposal : (b : Body) → IsBody b → IsWithin b → (q : Proposal) → q ∈ proposals_in b → ProposalFits q
  kept_proposal (OfProposal r) h w q (inl e) = subst ProposalFits (sym e) (record { round = w; value = h.value })
  kept_proposal (OfProposal r) h w q (inr none) = absurd none
  kept_proposal (OfVote v) h w q i = absurd i
  kept_proposal (OfTx t) h w q i = absurd i
  kept_proposal (OfAsk a) h w q i = absurd i
  kept_proposal (OfBundle b) h w q i = absurd i

  kept_vote : (b : Body) → IsWithin b → (v : Vote) → v ∈ votes_in b → v.round ≤ 1000000
  kept_vote (OfVote u) w v (inl e) = subst (λ (x : Vote). x.round ≤ 1000000) (sym e) w
  kept_vote (OfVote u) w v (inr none) = absurd none
  kept_vote (OfProposal q) w v i = absurd i
  kept_vote (OfTx t) w v i = absurd i
  kept_vote (OfAsk a) w v i = absurd i
  kept_vote (OfBundle b) w v i = absurd i

  -- ---- a restart

  last_fits : (j : List Record) → ((r : Record) → r ∈ j → RecordFits r) → (unwrap_or (last_place j) (0, Propose)).0 ≤ 1000000
  last_fits [] k = omega arith
  last_fits (Decided d ∷ j) k = omega arith
  last_fits (Own h r act ∷ j) k = (k (Own h r act) (inl refl)).round

  pub opened_fits : (j : List Record) → ((r : Record) → r ∈ j → RecordFits r) → height_of j ≤ 2 ^ 48 → Grows j → NodeFits (opened p j)
  unfolding restart
  opened_fits j k height grows = record {
    state = record {
      height = height;
      round = last_fits j k;
      found = tt;
      proposals = λ q i. let f = in_flat_map proposals_in q (own_since p j) i in kept_proposal f.0 (since_fits j k f.0 f.1) (since_within j k f.0 f.1) q f.2;
      votes = λ v i. let f = in_flat_map votes_in v (own_since p j) i in kept_vote f.0 (since_within j k f.0 f.1) v f.2;
      stamps = λ z i. absurd i;
    };
    queues = All-from_recursion IsTx [] tt;
    journal = k;
    tied = restart_tied p j grows;
  }

-- the bundles of a journal
bundles_fit : (height : ℕ) (j : List Record) → ((r : Record) → r ∈ j → RecordFits r) → (b : Body) → b ∈ bundles_of height j → IsBody b
bundles_fit height [] k b i = absurd i
bundles_fit height (Own h r act ∷ j) k b i = bundles_fit height j (λ x m. k x (inr m)) b i
bundles_fit height (Decided d ∷ j) k b i = cond_both (d.height == height) (OfBundle d ∷ bundles_of height j) (bundles_of height j) (λ l. b ∈ l → IsBody b)
    (λ _ m. elim m [ inl e ↦ subst IsBody (sym e) (k (Decided d) (inl refl)) | inr l ↦ bundles_fit height j (λ x n. k x (inr n)) b l ])
    (λ _ m. bundles_fit height j (λ x n. k x (inr n)) b m) i

pub replies_fit : (n : Node) → NodeFits n → (b : Body) → (r : Body) → r ∈ replies n b → IsBody r
replies_fit n f (OfAsk a) r i = bundles_fit a.height n.journal f.journal r i
replies_fit n f (OfTx t) r i = absurd i
replies_fit n f (OfProposal q) r i = absurd i
replies_fit n f (OfVote v) r i = absurd i
replies_fit n f (OfBundle b) r i = absurd i

-- ---- what is proposed, and where messages are

proposed_fits : (s : State) → StateFits s → (powers : List ℕ) (round : ℕ) (v : Value) → is_proposed powers s round v ≡ true → FoundFits (record { round = round; value = v })
proposed_fits s f powers round v e =
    let q = any_found _ s.proposals e in
    let a = and_parts _ _ q.2 in
    let at = and_parts _ _ a.0 in
    let k = f.proposals q.0 q.1 in
    record { round = subst (λ n. n ≤ 1000000) (eqb-true _ _ at.0) k.round; value = subst IsValue ((value_eq_decides q.0.value v).0 a.1) k.value }

skipped_round : (s : State) → StateFits s → (powers : List ℕ) (round : ℕ) → weak_at powers s round ≡ true → round ≤ 1000000
skipped_round s f powers round e =
    elim (in_append round (map (λ (q : Proposal). q.round) s.proposals) (map (λ (v : Vote). v.round) s.votes) (weak_round powers s round e)) [
      | inl l ↦ (let a = in_map (λ (q : Proposal). q.round) round s.proposals l in subst (λ n. n ≤ 1000000) a.2 (f.proposals a.0 a.1).round)
      | inr l ↦ (let a = in_map (λ (v : Vote). v.round) round s.votes l in subst (λ n. n ≤ 1000000) a.2 (f.votes a.0 a.1))
    ]

started_fits : (s : State) (r : ℕ) → StateFits s → r ≤ 1000000 → StateFits (started s r)
started_fits s r f short = record { height = f.height; round = short; found = f.found; proposals = f.proposals; votes = f.votes; stamps = f.stamps }

decided_fits : (s : State) (v : Value) → s.height < 2 ^ 48 → StateFits (decided s v)
decided_fits s v room = record { height = omega (arith, room); round = omega arith; found = tt; proposals = λ q i. absurd i; votes = λ u i. absurd i; stamps = λ z i. absurd i }

timed_round : (s : State) (t : Timeout) → holds_timed s t Precommit ≡ true → suc s.round ≤ 1000000
timed_round s t h = let k : s.round < 1000000 = ltb-true _ _ (and_parts s.begun (nat_lt s.round 1000000) h).1 in omega (arith, k)

module _ (c : Setting) where
  timed_fits : (s : State) (t : Timeout) (kind : Step) → StateFits s → holds_timed s t kind ≡ true → StateFits (times_out s kind).next
  timed_fits s t Propose f h = f
  timed_fits s t Prevote f h = f
  timed_fits s t Precommit f h = started_fits s (suc s.round) f (timed_round s t h)

  changed_fits : (p : ℕ) (s : State) (k : Rule) → StateFits s → holds (context c p) s k ≡ true → StateFits (changed s k)
  changed_fits p s Start f h = started_fits s 0 f (omega arith)
  changed_fits p s (PrevoteFresh v) f h = f
  changed_fits p s (PrevoteAgain r v) f h = f
  changed_fits p s AwaitPrevotes f h = f
  changed_fits p s (Lock v) f h = record {
    height = f.height;
    round = f.round;
    found = proposed_fits s f c.powers s.round v (asked (context c p) s (Lock v) h).proposed;
    proposals = f.proposals;
    votes = f.votes;
    stamps = f.stamps;
  }
  changed_fits p s PrecommitNil f h = f
  changed_fits p s AwaitPrecommits f h = f
  changed_fits p s (Decide r v) f h = decided_fits s v (asked (context c p) s (Decide r v) h).room
  changed_fits p s (DecideByBundle b) f h = decided_fits s b.value (asked (context c p) s (DecideByBundle b) h).room
  changed_fits p s (SkipRound r) f h = started_fits s r f (skipped_round s f c.powers r (asked (context c p) s (SkipRound r) h).weak)
  changed_fits p s (TimedOut t) f h = timed_fits s t t.kind f (asked (context c p) s (TimedOut t) h).step

-- ---- certificates

in_option : {X : Type 0} (x : X) (o : Option X) → x ∈ option_to_list o → o ≡ Some x
in_option x None i = absurd i
in_option x (Some y) (inl e) = ap (λ (z : _). Some z) (sym e)
in_option x (Some y) (inr none) = absurd none

option_few : {X Y : Type 0} (f : X → Y) (o : Option X) → length (map f (option_to_list o)) ≤ 1
option_few f None = omega arith
option_few f (Some x) = omega arith

listed_few : {X : Type 0} (o : Option X) → length (option_to_list o) ≤ 1
listed_few None = omega arith
listed_few (Some x) = omega arith

module _ (c : Setting) (one : 1 ≤ length c.powers) (few : length c.powers ≤ 128) (p : ℕ) where
  signed_fits : (s : State) → StateFits s → (r : ℕ) (x : Id) (i : ℕ) → i < length c.powers → (z : Signed) → z ∈ signed_by (context c p) s r x i → IsPrecommit z
  signed_fits s f r x i l z k =
      cond_both (senders s.votes (is_vote_for r Precommit (Some x)) i) _ [] (λ zs. z ∈ zs → IsPrecommit z)
      (λ _. cond_both (i == p) _ _ (λ zs. z ∈ zs → IsPrecommit z) (λ _ m. own m) (λ _ m. stamped m))
      (λ _ none. absurd none) k
    where
      tags : List (List ℕ)
      tags = (tagged c (OfVote (precommit s.height r p (Some x)))).tags

      own : z ∈ (record { sender = i; tags = tags } ∷ []) → IsPrecommit z
      own (inl e) = subst IsPrecommit (sym e) (record { sender = omega (arith, l, few); tags = tagged_tags c (OfVote (precommit s.height r p (Some x))) one few })
      own (inr none) = absurd none

      stamped : z ∈ map (λ (stamp : Stamp). stamp.signed) (option_to_list (find (is_stamp r x i) s.stamps)) → IsPrecommit z
      stamped m =
          let a = in_map (λ (stamp : Stamp). stamp.signed) z (option_to_list (find (is_stamp r x i) s.stamps)) m in
          let b = found_in (is_stamp r x i) s.stamps a.0 (in_option a.0 (find (is_stamp r x i) s.stamps) a.1) in
          subst IsPrecommit a.2 (f.stamps a.0 b.there)

  signed_few : (s : State) (r : ℕ) (x : Id) (i : ℕ) → length (signed_by (context c p) s r x i) ≤ 1
  signed_few s r x i = cond_both (senders s.votes (is_vote_for r Precommit (Some x)) i) _ [] (λ zs. length zs ≤ 1)
      (λ _. cond_both (i == p) _ _ (λ (zs : List Signed). length zs ≤ 1) (λ _. omega arith) (λ _. option_few (λ (stamp : Stamp). stamp.signed) (find (is_stamp r x i) s.stamps)))
      (λ _. omega arith)

  -- those of a function that gives at most one for each validator
  each_fits : (give : ℕ → List Signed) → ((i : ℕ) → length (give i) ≤ 1) → ((i : ℕ) → i < length c.powers → (z : Signed) → z ∈ give i → IsPrecommit z)
      → (length (flat_map give (below (length c.powers))) ≤ 128) × ((z : Signed) → z ∈ flat_map give (below (length c.powers)) → IsPrecommit z)
  each_fits give least fits = (
    omega (arith, few_joined give least (below (length c.powers)), length-below (length c.powers), few),
    λ z k. let a = in_flat_map give z (below (length c.powers)) k in fits a.0 (below_less a.0 (length c.powers) a.1) z a.2,
  )

  certificate_fits : (s : State) → StateFits s → (r : ℕ) (v : Value) → FoundFits (record { round = r; value = v }) → p < length c.powers
      → IsBundle (record { height = s.height; sender = p; round = r; id = id v; value = v; precommits = certificate (context c p) s r (id v) })
  certificate_fits s f r v k l =
      let e = each_fits (signed_by (context c p) s r (id v)) (signed_few s r (id v)) (λ i less z m. signed_fits s f r (id v) i less z m) in
      record {
        height = omega (arith, f.height);
        sender = omega (arith, l, few);
        round = omega (arith, k.round);
        id = length-id v;
        value = k.value;
        few = e.0;
        each = each_from IsPrecommit _ e.1;
      }

  bundle_fits : (b : Bundle) → IsBundle b → p < length c.powers → IsBundle (record b { sender = p; precommits = certified c p b })
  unfolding certified
  bundle_fits b h l =
      let give : ℕ → List Signed = λ i. option_to_list (find (is_vouching c p b i) b.precommits) in
      let e = each_fits give (λ i. listed_few (find (is_vouching c p b i) b.precommits))
      (λ i _ z m. each_in IsPrecommit b.precommits h.each z (found_in (is_vouching c p b i) b.precommits z (in_option z (find (is_vouching c p b i) b.precommits) m)).there) in
      record {
        height = h.height;
        sender = omega (arith, l, few);
        round = h.round;
        id = h.id;
        value = h.value;
        few = e.0;
        each = each_from IsPrecommit _ e.1;
      }

  -- ---- what a firing saves

  module _ (picked : Value) (value : IsValue picked) (s : State) (f : StateFits s) where
    starts_saved : (r : ℕ) → r ≤ 1000000 → If RecordFits (starts (context c p) s r picked)
    starts_saved r short = cond_both (proposer c.powers s.height r == p) _ _ (If RecordFits) (λ _. by_value s.valid_value f.found) (λ _. tt)
      where
        by_value : (o : Option ValueAt) → If FoundFits o → If RecordFits (Some (proposal_of s r picked o))
        by_value None k = record { height = f.height; round = short; act = value }
        by_value (Some found) k = record { height = f.height; round = short; act = record { round = k.round; value = k.value } }

    timed_saved : (t : Timeout) (kind : Step) → holds_timed s t kind ≡ true → If RecordFits ((times_out s kind).saves (context c p) picked)
    timed_saved t Propose h = record { height = f.height; round = f.round; act = tt }
    timed_saved t Prevote h = record { height = f.height; round = f.round; act = tt }
    timed_saved t Precommit h = starts_saved (suc s.round) (timed_round s t h)

    pub saved_fits : (k : Rule) → RuleFits k → p < length c.powers → holds (context c p) s k ≡ true → If RecordFits (saved (context c p) picked s k)
    saved_fits Start u l h = starts_saved 0 (omega arith)
    saved_fits (PrevoteFresh v) u l h = record { height = f.height; round = f.round; act = content_fits _ v }
    saved_fits (PrevoteAgain r v) u l h = record { height = f.height; round = f.round; act = content_fits _ v }
    saved_fits AwaitPrevotes u l h = tt
    saved_fits (Lock v) u l h = cond_both (step_eq s.step Prevote) _ _ (If RecordFits) (λ _. record { height = f.height; round = f.round; act = tt }) (λ _. tt)
    saved_fits PrecommitNil u l h = record { height = f.height; round = f.round; act = tt }
    saved_fits AwaitPrecommits u l h = tt
    saved_fits (Decide r v) u l h = certificate_fits s f r v (proposed_fits s f c.powers r v (asked (context c p) s (Decide r v) h).proposed) l
    saved_fits (DecideByBundle b) u l h = bundle_fits b u l
    saved_fits (SkipRound r) u l h = starts_saved r (skipped_round s f c.powers r (asked (context c p) s (SkipRound r) h).weak)
    saved_fits (TimedOut t) u l h = timed_saved t t.kind (asked (context c p) s (TimedOut t) h).step

-- ---- what is kept

keeping_fits : (p : ℕ) (t : State) (o : Option Record) → StateFits t → If RecordFits o → StateFits (keeping_own t (released_by p o))
keeping_fits p t None f k = f
keeping_fits p t (Some (Decided b)) f k = f
keeping_fits p t (Some (Own h r (Proposing None v))) f k = record { height = f.height; round = f.round; found = f.found; votes = f.votes; stamps = f.stamps; proposals = each_pushed ProposalFits t.proposals _ f.proposals (record { round = k.round; value = k.act }) }
keeping_fits p t (Some (Own h r (Proposing (Some vr) v))) f k = record { height = f.height; round = f.round; found = f.found; votes = f.votes; stamps = f.stamps; proposals = each_pushed ProposalFits t.proposals _ f.proposals (record { round = k.round; value = k.act.value }) }
keeping_fits p t (Some (Own h r (Prevoting x))) f k = record { height = f.height; round = f.round; found = f.found; proposals = f.proposals; stamps = f.stamps; votes = each_pushed (λ (v : Vote). v.round ≤ 1000000) t.votes _ f.votes k.round }
keeping_fits p t (Some (Own h r (Precommitting x))) f k = record { height = f.height; round = f.round; found = f.found; proposals = f.proposals; stamps = f.stamps; votes = each_pushed (λ (v : Vote). v.round ≤ 1000000) t.votes _ f.votes k.round }

stamp_fits : (step : Step) (round sender : ℕ) (content : Option Id) (tags : List (List ℕ)) → sender < 2 ^ 16 → AreTags tags → (z : Stamp) → z ∈ stamp_of step round sender content tags → IsPrecommit z.signed
stamp_fits Precommit round sender (Some x) tags small h z (inl e) = subst (λ (y : Stamp). IsPrecommit y.signed) (sym e) (record { sender = small; tags = h })
stamp_fits Precommit round sender (Some x) tags small h z (inr none) = absurd none
stamp_fits Precommit round sender None tags small h z i = absurd i
stamp_fits Prevote round sender content tags small h z i = absurd i
stamp_fits Propose round sender content tags small h z i = absurd i

message_fits : (s : State) (m : Message) (b : Body) → StateFits s → IsBody b → AreTags m.tags → IsWithin b → StateFits (kept_message s m b)
message_fits s m (OfProposal q) f h tags w = record { height = f.height; round = f.round; found = f.found; votes = f.votes; stamps = f.stamps; proposals = each_pushed ProposalFits s.proposals q f.proposals (record { round = w; value = h.value }) }
message_fits s m (OfVote v) f h tags w = record {
  height = f.height;
  round = f.round;
  found = f.found;
  proposals = f.proposals;
  votes = each_pushed (λ (u : Vote). u.round ≤ 1000000) s.votes v f.votes w;
  stamps = λ z i. elim (in_append z s.stamps (stamp_of (step_of_vote v.step) v.round v.sender v.content m.tags) i) [
    | inl l ↦ f.stamps z l
    | inr l ↦ stamp_fits (step_of_vote v.step) v.round v.sender v.content m.tags h.sender tags z l
  ];
}
message_fits s m (OfTx t) f h tags w = f
message_fits s m (OfAsk a) f h tags w = f
message_fits s m (OfBundle b) f h tags w = f

queue_fits : (queues : List Queue) (m : Message) (b : Body) → All IsTx (all_waiting queues) → IsBody b → AreTags m.tags → All IsTx (all_waiting (queued_message queues m b))
queue_fits queues m (OfTx t) all h tags =
    let body = h.0 in
    each_queued IsTx (tagged_tx t m) queues (record { body = record { client = body.client; session = body.session; first = body.first; last = body.last; op = body.op }; tags = tags }) all
queue_fits queues m (OfProposal q) all h tags = all
queue_fits queues m (OfVote v) all h tags = all
queue_fits queues m (OfAsk a) all h tags = all
queue_fits queues m (OfBundle b) all h tags = all

pub taken_fits : (n : Node) (m : Message) (b : Body) → NodeFits n → IsBody b → AreTags m.tags → IsWithin b → NodeFits (taken_in n m b).node
taken_fits n m b f h tags w = record {
  state = message_fits n.state m b f.state h tags w;
  queues = queue_fits n.queues m b f.queues h tags;
  journal = f.journal;
  tied = kept_tied n.state n.journal m b f.tied;
}

saved_all : (o : Option Record) (j : List Record) → If RecordFits o → ((r : Record) → r ∈ j → RecordFits r) → (r : Record) → r ∈ (option_to_list o ++ j) → RecordFits r
saved_all None j v k r i = k r i
saved_all (Some a) j v k r (inl e) = subst RecordFits (sym e) v
saved_all (Some a) j v k r (inr i) = k r i

module _ (c : Setting) (one : 1 ≤ length c.powers) (few : length c.powers ≤ 128) (p : ℕ) (l : p < length c.powers) (n : Node) (f : NodeFits n) (k : Rule) (u : RuleFits k) (h : holds (context c p) n.state k ≡ true) where
  pub wrote_fits : If RecordFits (saved (context c p) (pick n.queues) n.state k)
  wrote_fits = saved_fits c one few p (pick n.queues) (pick_spelled n.queues f.queues) n.state f.state k u l h

  pub fired_fits : NodeFits (firing c p n k).node
  fired_fits =
      let o = saved (context c p) (pick n.queues) n.state k in
      record {
        state = keeping_fits p (changed n.state k) o (changed_fits c p n.state k f.state h) wrote_fits;
        queues = cond_both (is_decision k) _ n.queues (λ queues. All IsTx (all_waiting queues)) (λ _. each_left IsTx _ n.queues f.queues) (λ _. f.queues);
        journal = saved_all o n.journal wrote_fits f.journal;
        tied = fired_tied c p n k f.tied h;
      }

-- The transactions of values that stand in a node: each of a correct client's, whose tag is right, was sent.
use Rattle.std.proofs.Common.{◌≡◌, ℕ, suc, ◌<◌, ◌⊎◌, inl, inr, Bool, true, false, ◌&&◌, List, ◌++◌, refl, sym, subst, Option, Some, None, option_to_list, append-nil}
use Rattle.std.specs.Prelude.{◌==◌}
use Rattle.std.proofs.lemmas.Bool.{and_parts, cond_both}
use Rattle.powers.specs.Power.{proposer}
use Rattle.transactions.proofs.Equality.{value_eq_decides}
use Rattle.protocol.specs.Values.{Id, Tx, Value, Item, item, id, valid, value_eq}
use Rattle.protocol.specs.Tags.{Setting, genuine, tx_is_right}
use Rattle.protocol.specs.Messages.{◌∈◌, Step, Propose, Prevote, Precommit, step_eq, Act, Proposing, Prevoting, Precommitting, Record, Own, Decided, Body, OfTx, OfProposal, OfVote, OfAsk, OfBundle, Proposal, body_of}
use Rattle.protocol.specs.State.{State, Node, ValueAt, Rule, Start, PrevoteFresh, PrevoteAgain, AwaitPrevotes, Lock, PrecommitNil, AwaitPrecommits, Decide, DecideByBundle, SkipRound, TimedOut}
use Rattle.protocol.specs.Rules.{holds, saved, changed, keeping, keeping_own, released_by, starts, proposal_of, is_proposed, is_proposed_from, lock_is, lock_allows, times_out, content_if}
use Rattle.protocol.specs.Restart.{proposals_in}
use Rattle.protocol.specs.Queues.{pick, all_waiting, drop_delivered}
use Rattle.protocol.specs.Refusals.{context}
use Rattle.protocol.specs.Arrivals.{firing, is_decision}
use Rattle.protocol.specs.World.{World}
use Rattle.protocol.specs.Premises.{Honesty, IsCorrect, RecordHas}
use Rattle.protocol.proofs.Membership.{in_append, all_in, any_found}
use Rattle.protocol.proofs.Waiting.{picked_waits, dropped_in}
use Rattle.protocol.proofs.Asked.{asked}
use Rattle.protocol.proofs.Locking.{Supported}
use Rattle.protocol.proofs.Backing.{Marks, Extends, history, marks_in, supported_more, kept_quorum}
use Rattle.protocol.proofs.Global.{Sound}

-- ---- what a firing keeps

keeping_proposals : (s : State) (b : Body) → (keeping s b).proposals ≡ s.proposals ++ proposals_in b
keeping_proposals s (OfProposal q) = refl
keeping_proposals s (OfVote v) = sym (append-nil s.proposals)
keeping_proposals s (OfTx t) = sym (append-nil s.proposals)
keeping_proposals s (OfAsk a) = sym (append-nil s.proposals)
keeping_proposals s (OfBundle b) = sym (append-nil s.proposals)

keeping_value : (s : State) (b : Body) → (keeping s b).valid_value ≡ s.valid_value
keeping_value s (OfProposal q) = refl
keeping_value s (OfVote v) = refl
keeping_value s (OfTx t) = refl
keeping_value s (OfAsk a) = refl
keeping_value s (OfBundle b) = refl

keeping_own_value : (s : State) (o : Option Body) → (keeping_own s o).valid_value ≡ s.valid_value
keeping_own_value s None = refl
keeping_own_value s (Some b) = keeping_value s b

timed_proposals : (s : State) (kind : Step) → (times_out s kind).next.proposals ≡ s.proposals
timed_proposals s Propose = refl
timed_proposals s Prevote = refl
timed_proposals s Precommit = refl

changed_proposals : (s : State) (k : Rule) (q : Proposal) → q ∈ (changed s k).proposals → q ∈ s.proposals
changed_proposals s Start q i = i
changed_proposals s (PrevoteFresh v) q i = i
changed_proposals s (PrevoteAgain r v) q i = i
changed_proposals s AwaitPrevotes q i = i
changed_proposals s (Lock v) q i = i
changed_proposals s PrecommitNil q i = i
changed_proposals s AwaitPrecommits q i = i
changed_proposals s (Decide r v) q i = absurd i
changed_proposals s (DecideByBundle b) q i = absurd i
changed_proposals s (SkipRound r) q i = i
changed_proposals s (TimedOut t) q i = subst (λ l. q ∈ l) (timed_proposals s t.kind) i

module _ (c : Setting) (h : Honesty) (seen : Value → Type 0) where
  abbrev pub Sent : Type 0
  Sent = ℕ → List Item

  abbrev pub Grown : Sent → Sent → Type 0
  Grown old new = (client : ℕ) (t : Item) → t ∈ old client → t ∈ new client

  -- each transaction of a correct client was sent
  abbrev pub FromClients : Sent → List Tx → Type 0
  FromClients sent v = (t : Tx) → t ∈ v → h.clients t.client ≡ true → item t ∈ sent t.client

  -- each one of those whose tag is right for p
  abbrev pub Known : ℕ → Sent → List Tx → Type 0
  Known p sent v = (t : Tx) → t ∈ v → tx_is_right c p t ≡ true → h.clients t.client ≡ true → item t ∈ sent t.client

  genuine_known : (p : ℕ) (sent : Sent) (v : Value) → Known p sent v.txs → genuine c p v ≡ true → FromClients sent v.txs
  unfolding genuine
  genuine_known p sent v k g = λ t i o. k t i (all_in (tx_is_right c p) t v.txs i g) o

  -- a value of this id, all of whose transactions were sent
  pub record Fresh (sent : Sent) (x : Id) : Type 0 where
    pub value : Value
    pub is : id value ≡ x
    pub was_seen : seen value
    pub from : FromClients sent value.txs

  -- a quorum of prevotes in an earlier round
  pub record Before (marks : Marks c h) (height round : ℕ) (x : Id) : Type 0 where
    pub valid_round : ℕ
    pub below : valid_round < round
    pub quorum : Supported (history c h marks) Prevote height valid_round x

  abbrev pub ValueKnown : ℕ → Sent → Value → Type 0
  ValueKnown p sent v = Known p sent v.txs × seen v

  abbrev pub IsVouched : ℕ → Marks c h → Sent → ℕ → ℕ → Act → Type 0
  IsVouched p marks sent height round (Proposing vr v) = ValueKnown p sent v
  IsVouched p marks sent height round (Prevoting None) = Unit {0}
  IsVouched p marks sent height round (Prevoting (Some x)) = Fresh sent x ⊎ Before marks height round x
  IsVouched p marks sent height round (Precommitting v) = Unit {0}

  abbrev pub RecordVouched : ℕ → Marks c h → Sent → Record → Type 0
  RecordVouched p marks sent (Own height round act) = IsVouched p marks sent height round act
  RecordVouched p marks sent (Decided b) = Unit {0}

  abbrev pub BodyKnown : ℕ → Sent → Body → Type 0
  BodyKnown p sent b = (q : Proposal) → q ∈ proposals_in b → ValueKnown p sent q.value

  abbrev pub FoundKnown : ℕ → Sent → Option ValueAt → Type 0
  FoundKnown p sent None = Unit {0}
  FoundKnown p sent (Some l) = ValueKnown p sent l.value

  pub record NodeKnown (p : ℕ) (marks : Marks c h) (sent : Sent) (n : Node) : Type 0 where
    pub vouched : (r : Record) → r ∈ n.journal → RecordVouched p marks sent r
    pub proposals : (q : Proposal) → q ∈ n.state.proposals → ValueKnown p sent q.value
    pub found : FoundKnown p sent n.state.valid_value
    pub queues : Known p sent (all_waiting n.queues)

  -- ---- more events take nothing from it

  known_more : (p : ℕ) (old new : Sent) → Grown old new → (v : List Tx) → Known p old v → Known p new v
  known_more p old new g v k = λ t i r o. g t.client (item t) (k t i r o)

  value_more : (p : ℕ) (old new : Sent) → Grown old new → (v : Value) → ValueKnown p old v → ValueKnown p new v
  value_more p old new g v k = (known_more p old new g v.txs k.0, k.1)

  act_more : (p : ℕ) (m n : Marks c h) (s u : Sent) → Extends c h m n → Grown s u → (height round : ℕ) (act : Act) → IsVouched p m s height round act → IsVouched p n u height round act
  act_more p m n s u e g height round (Proposing vr v) k = value_more p s u g v k
  act_more p m n s u e g height round (Prevoting None) k = tt
  act_more p m n s u e g height round (Prevoting (Some x)) (inl f) = inl (record { value = f.value; is = f.is; was_seen = f.was_seen; from = λ t i o. g t.client (item t) (f.from t i o) })
  act_more p m n s u e g height round (Prevoting (Some x)) (inr b) = inr (record { valid_round = b.valid_round; below = b.below; quorum = supported_more c h m n e _ _ _ _ b.quorum })
  act_more p m n s u e g height round (Precommitting v) k = tt

  record_more : (p : ℕ) (m n : Marks c h) (s u : Sent) → Extends c h m n → Grown s u → (r : Record) → RecordVouched p m s r → RecordVouched p n u r
  record_more p m n s u e g (Own height round act) k = act_more p m n s u e g height round act k
  record_more p m n s u e g (Decided b) k = tt

  found_more : (p : ℕ) (s u : Sent) → Grown s u → (l : Option ValueAt) → FoundKnown p s l → FoundKnown p u l
  found_more p s u g None k = tt
  found_more p s u g (Some l) k = value_more p s u g l.value k

  pub node_more : (p : ℕ) (m m' : Marks c h) (s u : Sent) → Extends c h m m' → Grown s u → (n : Node) → NodeKnown p m s n → NodeKnown p m' u n
  node_more p m m' s u e g n k = record {
    vouched = λ r i. record_more p m m' s u e g r (k.vouched r i);
    proposals = λ q i. value_more p s u g q.value (k.proposals q i);
    found = found_more p s u g n.state.valid_value k.found;
    queues = known_more p s u g (all_waiting n.queues) k.queues;
  }

  -- ---- what a firing saves

  abbrev pub OptionSeen : Option Record → Type 0
  OptionSeen None = Unit {0}
  OptionSeen (Some r) = (v : Value) → RecordHas v r → seen v

  abbrev pub OptionVouched : ℕ → Marks c h → Sent → Option Record → Type 0
  OptionVouched p marks sent None = Unit {0}
  OptionVouched p marks sent (Some r) = RecordVouched p marks sent r

  starts_vouched : (p : ℕ) (marks : Marks c h) (sent : Sent) (s : State) (r : ℕ) (picked : Value) → Known p sent picked.txs → FoundKnown p sent s.valid_value → OptionSeen (starts (context c p) s r picked) → OptionVouched p marks sent (starts (context c p) s r picked)
  starts_vouched p marks sent s r picked kp kl = cond_both (proposer c.powers s.height r == p) _ _ (λ o. OptionSeen o → OptionVouched p marks sent o) (λ _. by_value s.valid_value kl) (λ _ _. tt)
    where
      by_value : (o : Option ValueAt) → FoundKnown p sent o → OptionSeen (Some (proposal_of s r picked o)) → OptionVouched p marks sent (Some (proposal_of s r picked o))
      by_value None l sn = (kp, sn picked refl)
      by_value (Some a) l sn = (l.0, sn a.value refl)

  timed_vouched : (p : ℕ) (marks : Marks c h) (sent : Sent) (s : State) (kind : Step) (picked : Value) → Known p sent picked.txs → FoundKnown p sent s.valid_value → OptionSeen ((times_out s kind).saves (context c p) picked) → OptionVouched p marks sent ((times_out s kind).saves (context c p) picked)
  timed_vouched p marks sent s Propose picked kp kl sn = tt
  timed_vouched p marks sent s Prevote picked kp kl sn = tt
  timed_vouched p marks sent s Precommit picked kp kl sn = starts_vouched p marks sent s (suc s.round) picked kp kl sn

  prevote_vouched : (p : ℕ) (marks : Marks c h) (sent : Sent) (height round : ℕ) (v : Value) (b : Bool) → (b ≡ true → Fresh sent (id v) ⊎ Before marks height round (id v)) → IsVouched p marks sent height round (Prevoting (content_if b v))
  prevote_vouched p marks sent height round v true k = k refl
  prevote_vouched p marks sent height round v false k = tt

  -- a value that stands in a kept proposal
  same_known : (p : ℕ) (sent : Sent) (v : Value) (q : Proposal) → value_eq q.value v ≡ true → ValueKnown p sent q.value → ValueKnown p sent v
  same_known p sent v q e k = subst (ValueKnown p sent) ((value_eq_decides q.value v).0 e) k

  proposed_known : (p : ℕ) (marks : Marks c h) (sent : Sent) (n : Node) → NodeKnown p marks sent n → (round : ℕ) (v : Value) → is_proposed c.powers n.state round v ≡ true → ValueKnown p sent v
  proposed_known p marks sent n k round v e = let f = any_found _ n.state.proposals e in same_known p sent v f.0 (and_parts _ _ f.2).1 (k.proposals f.0 f.1)

  proposed_from_known : (p : ℕ) (marks : Marks c h) (sent : Sent) (n : Node) → NodeKnown p marks sent n → (round : ℕ) (vr : Option ℕ) (v : Value) → is_proposed_from c.powers n.state round vr v ≡ true → ValueKnown p sent v
  proposed_from_known p marks sent n k round vr v e = let f = any_found _ n.state.proposals e in same_known p sent v f.0 (and_parts _ _ f.2).1 (k.proposals f.0 f.1)

  picked_known : (p : ℕ) (marks : Marks c h) (sent : Sent) (n : Node) → NodeKnown p marks sent n → Known p sent (pick n.queues).txs
  picked_known p marks sent n k = λ t i r o. k.queues t (picked_waits n.queues t i) r o

  pub saved_vouched : (w : World) → Sound c h w → (p : ℕ) → IsCorrect c h p → (sent : Sent) → NodeKnown p (marks_in c h w.nodes) sent (w.nodes p) → (k : Rule) → holds (context c p) (w.nodes p).state k ≡ true
      → OptionSeen (saved (context c p) (pick (w.nodes p).queues) (w.nodes p).state k) → OptionVouched p (marks_in c h w.nodes) sent (saved (context c p) (pick (w.nodes p).queues) (w.nodes p).state k)
  saved_vouched w s p ok sent n Start e sn = starts_vouched p _ sent (w.nodes p).state 0 _ (picked_known p _ sent (w.nodes p) n) n.found sn
  saved_vouched w s p ok sent n (PrevoteFresh v) e sn =
      let st = (w.nodes p).state in
      let k = proposed_from_known p _ sent (w.nodes p) n st.round None v (asked (context c p) st (PrevoteFresh v) e).proposed in
      prevote_vouched p _ sent st.height st.round v (valid st.delivered v && genuine c p v && lock_is st.lock v)
      (λ a. inl (record { value = v; is = refl; was_seen = k.1; from = genuine_known p sent v k.0 (and_parts _ _ (and_parts _ _ a).0).1 }))
  saved_vouched w s p ok sent n (PrevoteAgain r v) e sn =
      let st = (w.nodes p).state in
      let a = asked (context c p) st (PrevoteAgain r v) e in
      prevote_vouched p _ sent st.height st.round v (valid st.delivered v && lock_allows st.lock r v)
      (λ _. inr (record { valid_round = r; below = a.earlier; quorum = kept_quorum c h _ st (s.kept p ok) r Prevote (id v) a.quorum }))
  saved_vouched w s p ok sent n AwaitPrevotes e sn = tt
  saved_vouched w s p ok sent n (Lock v) e sn = cond_both (step_eq (w.nodes p).state.step Prevote) (Some (Own (w.nodes p).state.height (w.nodes p).state.round (Precommitting (Some v)))) None (OptionVouched p (marks_in c h w.nodes) sent) (λ _. tt) (λ _. tt)
  saved_vouched w s p ok sent n PrecommitNil e sn = tt
  saved_vouched w s p ok sent n AwaitPrecommits e sn = tt
  saved_vouched w s p ok sent n (Decide r v) e sn = tt
  saved_vouched w s p ok sent n (DecideByBundle b) e sn = tt
  saved_vouched w s p ok sent n (SkipRound r) e sn = starts_vouched p _ sent (w.nodes p).state r _ (picked_known p _ sent (w.nodes p) n) n.found sn
  saved_vouched w s p ok sent n (TimedOut t) e sn = timed_vouched p _ sent (w.nodes p).state t.kind _ (picked_known p _ sent (w.nodes p) n) n.found sn

  pub saved_in : (p : ℕ) (marks : Marks c h) (sent : Sent) (o : Option Record) (j : List Record) → OptionVouched p marks sent o → ((r : Record) → r ∈ j → RecordVouched p marks sent r) → (r : Record) → r ∈ (option_to_list o ++ j) → RecordVouched p marks sent r
  saved_in p marks sent None j v k r i = k r i
  saved_in p marks sent (Some a) j v k r (inl e) = subst (RecordVouched p marks sent) (sym e) v
  saved_in p marks sent (Some a) j v k r (inr i) = k r i

  -- ---- what a firing keeps

  pub own_body_known : (p : ℕ) (marks : Marks c h) (sent : Sent) (height round : ℕ) (act : Act) → IsVouched p marks sent height round act → BodyKnown p sent (body_of p height round act)
  own_body_known p marks sent height round (Proposing vr v) k q (inl e) = subst (λ (a : Proposal). ValueKnown p sent a.value) (sym e) k
  own_body_known p marks sent height round (Proposing vr v) k q (inr e) = absurd e
  own_body_known p marks sent height round (Prevoting x) k q i = absurd i
  own_body_known p marks sent height round (Precommitting v) k q i = absurd i

  keeps_known : (p : ℕ) (marks : Marks c h) (sent : Sent) (o : Option Record) (t : State) → OptionVouched p marks sent o → ((q : Proposal) → q ∈ t.proposals → ValueKnown p sent q.value)
      → (q : Proposal) → q ∈ (keeping_own t (released_by p o)).proposals → ValueKnown p sent q.value
  keeps_known p marks sent None t v k q i = k q i
  keeps_known p marks sent (Some (Own height round act)) t v k q i =
      elim (in_append q t.proposals (proposals_in (body_of p height round act)) (subst (λ l. q ∈ l) (keeping_proposals t (body_of p height round act)) i)) [
        | inl l ↦ k q l
        | inr l ↦ own_body_known p marks sent height round act v q l
      ]
  keeps_known p marks sent (Some (Decided b)) t v k q i = k q i

  timed_found : (p : ℕ) (sent : Sent) (s : State) (kind : Step) → FoundKnown p sent s.valid_value → FoundKnown p sent (times_out s kind).next.valid_value
  timed_found p sent s Propose k = k
  timed_found p sent s Prevote k = k
  timed_found p sent s Precommit k = k

  changed_found : (p : ℕ) (marks : Marks c h) (sent : Sent) (n : Node) → NodeKnown p marks sent n → (k : Rule) → holds (context c p) n.state k ≡ true → FoundKnown p sent (changed n.state k).valid_value
  changed_found p marks sent n w Start e = w.found
  changed_found p marks sent n w (PrevoteFresh v) e = w.found
  changed_found p marks sent n w (PrevoteAgain r v) e = w.found
  changed_found p marks sent n w AwaitPrevotes e = w.found
  changed_found p marks sent n w (Lock v) e = proposed_known p marks sent n w n.state.round v (asked (context c p) n.state (Lock v) e).proposed
  changed_found p marks sent n w PrecommitNil e = w.found
  changed_found p marks sent n w AwaitPrecommits e = w.found
  changed_found p marks sent n w (Decide r v) e = tt
  changed_found p marks sent n w (DecideByBundle b) e = tt
  changed_found p marks sent n w (SkipRound r) e = w.found
  changed_found p marks sent n w (TimedOut t) e = timed_found p sent n.state t.kind w.found

  pub fired_known : (w : World) → Sound c h w → (p : ℕ) → IsCorrect c h p → (sent : Sent) → NodeKnown p (marks_in c h w.nodes) sent (w.nodes p) → (k : Rule) → holds (context c p) (w.nodes p).state k ≡ true
      → OptionSeen (saved (context c p) (pick (w.nodes p).queues) (w.nodes p).state k) → NodeKnown p (marks_in c h w.nodes) sent (firing c p (w.nodes p) k).node
  fired_known w s p ok sent n k e sn =
      let st = (w.nodes p).state in
      let qs = (w.nodes p).queues in
      let o = saved (context c p) (pick qs) st k in
      let after = keeping_own (changed st k) (released_by p o) in
      let v : OptionVouched p (marks_in c h w.nodes) sent o = saved_vouched w s p ok sent n k e sn in
      record {
        vouched = saved_in p (marks_in c h w.nodes) sent o (w.nodes p).journal v n.vouched;
        proposals = keeps_known p (marks_in c h w.nodes) sent o (changed st k) v (λ q i. n.proposals q (changed_proposals st k q i));
        found = subst (FoundKnown p sent) (sym (keeping_own_value (changed st k) (released_by p o))) (changed_found p (marks_in c h w.nodes) sent (w.nodes p) n k e);
        queues = cond_both (is_decision k) (drop_delivered after.delivered qs) qs (λ a. Known p sent (all_waiting a)) (λ _ t i r a. n.queues t (dropped_in after.delivered t qs i) r a) (λ _. n.queues);
      }
